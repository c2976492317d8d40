-- The place of the k-th such row, if there is one, as far as there are rows.
-- Assumes nothing.
use Rattle.discovery_reads.proofs.ReadsLaws.{source_at, source_none}
use Rattle.discovery_reads.proofs.source_place.Goals as goal

pub returns-then-count-place : goal.returns-then-count-place
returns-then-count-place c =
    let s = c in
    let v = s.args in
    let w = c.within-count in
    let x = c.nth_source-place in
    λ names pages universes. source_none v.mark v.discovery v.sources.now names pages universes v.k w.result x.result c.told-sources w.ensures x.ensures c.if-count-place.true

pub returns-else-count-place : goal.returns-else-count-place
returns-else-count-place c =
    let s = c in
    let v = s.args in
    let w = c.within-count in
    let x = c.nth_source-place in
    λ names pages universes. source_at v.mark v.discovery v.sources.now names pages universes v.k w.result x.result c.told-sources w.ensures x.ensures c.if-count-place.false
