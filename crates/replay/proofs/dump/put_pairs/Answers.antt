-- The rows passed so far are told.
-- Assumes nothing.
use mathlib.Core.Path.{◌≡◌, refl, ap}
use mathlib.Core.List.{[]}
use Prim.Native.Nat.{ℕ}
use native.Mathlib.Omega.{arith}
use Rattle.pair_rows.specs.View.{pair_of, pairs_of}
use Rattle.printing.specs.TextLaws.{tells_none, tells_as}
use Rattle.replay.specs.Dump.{lines, pair_line}
use Rattle.replay.specs.DumpLaws.{tells_row}
use borrow.Author.Rules.{rules}
use Rattle.replay.proofs.dump.put_pairs.Goals as goal

pub loop-i-init : goal.loop-i-init
unfolding lines
loop-i-init c = tells_none c.args.out.now c.args.at c.requires.0

pub loop-i-preserved : goal.loop-i-preserved
loop-i-preserved c =
    let v = c.args in
    let y = tells_as (ap (pair_line v.mark) c.pair_of.ensures) c.put_pair-a.ensures in
    tells_row (pair_line v.mark) pair_of v.pairs.now c.loop-i.i [] (omega arith) c.loop-i.invariant y

pub returns : goal.returns
returns c =
    let v = c.args in
    let e : c.loop-i.i ≡ v.n = omega arith in
    tells_as (ap (λ (k : ℕ). lines (pair_line v.mark) (pairs_of k v.pairs.now)) e) c.loop-i.invariant
