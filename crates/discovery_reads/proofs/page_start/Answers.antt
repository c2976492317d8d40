-- The sum of the counts, but not past the most, after each row.
-- Assumes nothing.
use Rattle.std.proofs.Common.{List, ℕ, ◌+◌, zero-add, take, min, arith, ◌∙◌, rules, tests}
use Rattle.std.proofs.lemmas.Iterator.{YieldsList-from_slice}
use Rattle.std.proofs.lemmas.Iterator.Consumers.{fold_from_yields_List}
use Rattle.discovery_rows.specs.Rows.{amount, total}
use Rattle.discovery_reads.proofs.ReadsLaws.{summed}
use Rattle.discovery_reads.proofs.page_start.Goals as goal

pub returns : goal.returns
returns c =
    let v = c.args in
    let rows = take v.at v.pages.now in
    fold_from_yields_List _ (λ (start : ℕ) (row : List ℕ). min (start + amount row) v.most) 0 c.fold.result c.fold.ensures.ran (YieldsList-from_slice rows (cc)) (λ a x b q k. search (rules, tests))
    ∙ (rw (zero-add (total rows)) at (summed v.most rows 0 (omega arith)))
