-- The bytes that the row counts are moved, and the row is set.
-- Assumes nothing.
use Rattle.std.proofs.Common.{◌≡◌, ◌*◌, ap, ◌∙◌, arith, drop, length-drop}
use Rattle.std.proofs.Math.ListN.{length-set}
use Rattle.std.proofs.Math.Seq.{paste}
use Rattle.laws.specs.Parts.{paste_part}
use Rattle.merge.specs.Merge.{most_values}
use Rattle.waiting_store.specs.Posts.{block_turn, changed_move}
use Rattle.waiting_store.proofs.move_entry.Goals as goal

pub loop-k-preserved : goal.loop-k-preserved
loop-k-preserved c =
    let h = c.loop-k in
    let v = c.args in
    let r = c.requires.0.store_room in
    let n = c.count_of-k-end in
    (simp length-set h.invariant.0, block_turn v.store.now h.store v.from v.to n.result h.k (omega (arith, n.ensures)) (omega (arith, n.ensures)) (omega (arith, n.ensures)) (omega arith) h.invariant.1)

pub returns : goal.returns
returns c =
    let h = c.loop-k in
    let v = c.args in
    let r = c.requires.0.store_room in
    let n = c.count_of-k-end in
    let all : h.k ≡ n.result = omega arith in
    changed_move v.rows.now v.store.now h.store v.from v.to n.result c.requires.0 c.requires.1 c.requires.2 n.ensures
    (h.invariant.1 ∙ ap (paste v.store.now (v.to * most_values) (drop (v.from * most_values) v.store.now)) all
    ∙ paste_part v.store.now (v.to * most_values) (drop (v.from * most_values) v.store.now) n.result (omega (arith, n.ensures)) (omega (arith, n.ensures, length-drop (v.from * most_values) v.store.now)))
