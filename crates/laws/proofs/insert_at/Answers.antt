-- The law of a turn is `carry`.
-- Assumes nothing.
use Rattle.std.proofs.Common.{◌+◌, ◌++◌, ◌∷◌, ap, ◌∙◌, arith, take, drop, slice_set}
use Rattle.std.proofs.Math.ListN.{length-set}
use Rattle.laws.specs.Arrays.{carry}
use Rattle.laws.proofs.insert_at.Goals as goal

pub loop-i-preserved : goal.loop-i-preserved
loop-i-preserved g c =
    let h = c.loop-i in
    let n = c.args.n in
    let m = slice_set h.elements h.i h.carried in
    let x = c.index-elements-i in
    let turn = carry h.elements n h.carried h.i x.result (omega arith) (omega arith) in
    (omega arith, simp length-set h.invariant.1, ap (λ y. take (h.i + 1) m ++ y ∷ drop (h.i + 1) (take n m)) x.is ∙ turn ∙ h.invariant.2)
