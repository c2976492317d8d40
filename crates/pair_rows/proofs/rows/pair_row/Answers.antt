-- Universe and sequence number, put into one word, come out of it again: the one is below 65,536, the other below 256.
-- Assumes nothing.
use mathlib.Core.Path.{◌≡◌}
use Prim.Native.Nat.{◌+◌, ◌*◌, ◌/◌, ◌%◌}
use native.Mathlib.Omega.{arith}
use Rattle.pair_rows.specs.View.{cid_of, pair_of}
use Rattle.pair_rows.proofs.rows.pair_row.Goals as goal

pub returns : goal.returns
unfolding pair_of cid_of
returns c =
    let p = c.args.pair in
    let w = c.from.result * 256 + c.from-2.result in
    let u : w / 256 % 65536 ≡ p.universe = omega arith in
    let s : w % 256 ≡ p.sequence = omega arith in
    λ i. record { cid = p.cid; universe = u i; sequence = s i; reading = p.reading }
