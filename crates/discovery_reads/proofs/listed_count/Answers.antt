-- The rows of the mark are the sources.
-- Assumes nothing.
use mathlib.Core.Path.{sym, ap, ◌∙◌}
use mathlib.Core.List.{List}
use Prim.Native.Nat.{ℕ}
use lib.ListN.{length}
use Rattle.laws.specs.Table.{keep}
use Rattle.discovery_reads.specs.Reads.{marked_row}
use Rattle.discovery_reads.proofs.ReadsLaws.{listed_total, take_within}
use Rattle.discovery_reads.proofs.listed_count.Goals as goal

pub returns : goal.returns
returns c =
    let s = c in
    let v = s.args in
    let w = c.within-count in
    λ names pages universes. c.count_sources.ensures
    ∙ ap (λ (rs : List (List ℕ)). length (keep (marked_row 1) rs)) (take_within v.discovery.source_count w.result v.sources.now c.told-sources w.ensures)
    ∙ sym (listed_total v.discovery v.sources.now names pages universes)
