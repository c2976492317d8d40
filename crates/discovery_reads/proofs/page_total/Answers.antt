-- The owner's rows are its pages.
-- Assumes nothing.
use mathlib.Core.Path.{sym, ap, ◌∙◌}
use mathlib.Core.List.{List}
use Prim.Native.Nat.{ℕ}
use lib.ListN.{length}
use Rattle.laws.specs.Table.{keep}
use Rattle.discovery_rows.specs.Rows.{owned}
use Rattle.discovery_reads.proofs.ReadsLaws.{page_number, take_within}
use Rattle.discovery_reads.proofs.page_total.Goals as goal

pub returns : goal.returns
returns c =
    let s = c in
    let v = s.args in
    let w = c.within-count in
    λ universes. c.count_pages.ensures
    ∙ ap (λ (rs : List (List ℕ)). length (keep (owned v.mark v.cid) rs)) (take_within v.discovery.page_count w.result v.pages.now c.told-pages w.ensures)
    ∙ sym (page_number v.mark v.cid v.discovery v.pages.now universes)
