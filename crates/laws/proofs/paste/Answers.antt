-- Each store takes the copy one further.
-- Assumes nothing.
use Rattle.std.proofs.Common.{◌+◌, ap, ◌∙◌, arith, add-one, slice_set}
use Rattle.std.proofs.Math.ListN.{length-set}
use Rattle.std.proofs.Math.Seq.{paste, paste-suc}
use Rattle.laws.proofs.paste.Goals as goal

pub loop-i-preserved : goal.loop-i-preserved
loop-i-preserved g c =
    let h = c.loop-i in
    let v = c.args in
    let x = c.index-list-i in
    let turn = paste-suc v.elements.now v.at v.list.now h.i x.result (omega arith) (omega arith) in
    (omega arith, simp length-set h.invariant.1, rw (add-one h.i, h.invariant.2) (ap (λ y. slice_set (paste v.elements.now v.at v.list.now h.i) (v.at + h.i) y) x.is ∙ turn))
