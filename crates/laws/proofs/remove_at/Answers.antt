-- The law of a turn is `move`.
-- Assumes nothing.
use Rattle.std.proofs.Common.{◌+◌, ◌++◌, ap, ◌∙◌, arith, take, drop, slice_set}
use Rattle.std.proofs.Math.ListN.{length-set}
use Rattle.laws.specs.Arrays.{move}
use Rattle.laws.proofs.remove_at.Goals as goal

pub loop-i-preserved : goal.loop-i-preserved
loop-i-preserved g c =
    let h = c.loop-i in
    let n = c.args.n in
    let a = h.elements in
    let x = c.index-elements-i in
    let turn = move a n h.i (h.i + 1) x.result (omega arith) (omega arith) (omega arith) in
    (omega arith, simp length-set h.invariant.1, ap (λ y. take (h.i + 1) (slice_set a h.i y) ++ drop (h.i + 1 + 1) (take n (slice_set a h.i y))) x.is ∙ turn ∙ h.invariant.2)
