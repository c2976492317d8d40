-- The first row is the discovery universe, and alone in use.
-- Assumes nothing.
use native.Mathlib.Omega.{arith}
use lib.ListN.{length-set}
use lib.Seq.{take-suc-set}
use Rattle.listening.proofs.Listened.new.Goals as goal

pub returns : goal.returns
returns c =
    let e = take-suc-set c.args.rows.now 0 64214 (omega (arith, c.told-rows)) in
    record { view = e; kept = record { room = simp length-set c.told-rows; within = omega arith; ascending = rw e (tt, tt) } }
