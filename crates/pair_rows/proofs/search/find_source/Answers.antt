-- The entry at the place of the CID, if there is one, has the CID or another.
-- Assumes nothing.
use mathlib.Core.Path.{◌≡◌, sym, ap, ◌∙◌}
use native.Mathlib.Omega.{arith}
use mathlib.Core.List.{[]}
use Rattle.rules.specs.declared.Cid.{Cid}
use Rattle.rules.specs.Cid.{same, before}
use Rattle.rules.proofs.CidLaws.{cid_order, same_path}
use lib.ListN.{get_or}
use Rattle.pairs.specs.Table.{itself}
use Rattle.pair_rows.specs.View.{cid_of}
use Rattle.pair_rows.specs.Rows.{same_cid_not, placed_hit, placed_miss, placed_end}
use Rattle.pair_rows.proofs.search.find_source.Goals as goal
use Rattle.pair_rows.proofs.search.find_source.Goals.{else-i-n-via-then-i-n+else-is_same, else-i-n-via-else-i-n}

pub returns-then-is_same : goal.returns-then-is_same
returns-then-is_same c =
    let v = c.args in
    let test : same (cid_of (get_or v.sources.now c.source_place-i.result [])) v.cid ≡ c.is_same.result = ap (λ (d : Cid). same d v.cid) (sym c.cid_of.ensures) ∙ sym c.is_same.ensures in
    placed_hit before itself cid_order v.cid cid_of v.n v.sources.now (omega arith) c.source_place-i.result c.source_place-i.ensures.1 (omega arith)
    (same_path (cid_of (get_or v.sources.now c.source_place-i.result [])) v.cid (test ∙ c.if-is_same.true))

pub returns-else-i-n : goal.returns-else-i-n
returns-else-i-n c =
    let v = c.args in
    elim c.else-i-n.branch [
      | else-i-n-via-then-i-n+else-is_same w ↦
          let test : same (cid_of (get_or v.sources.now c.source_place-i.result [])) v.cid ≡ w.is_same.result = ap (λ (d : Cid). same d v.cid) (sym w.cid_of.ensures) ∙ sym w.is_same.ensures in
          placed_miss before itself cid_order v.cid cid_of v.n v.sources.now (omega arith) c.source_place-i.result c.source_place-i.ensures.1 (omega arith)
          (same_cid_not (cid_of (get_or v.sources.now c.source_place-i.result [])) v.cid (test ∙ w.if-is_same.false))
      | else-i-n-via-else-i-n w ↦ placed_end before itself cid_order v.cid cid_of v.n v.sources.now (omega arith) c.source_place-i.result c.source_place-i.ensures.1 w.if-i-n.false
    ]
