-- The place of the k-th such row, if there is one, as far as there are rows.
-- Assumes nothing.
use Rattle.discovery_reads.proofs.ReadsLaws.{page_at, page_none}
use Rattle.discovery_reads.proofs.place_of_page.Goals as goal

pub returns-then-count-place : goal.returns-then-count-place
returns-then-count-place c =
    let s = c in
    let v = s.args in
    let w = c.within-count in
    let x = c.nth_page-place in
    λ universes. page_none v.mark v.cid v.discovery v.pages.now universes v.k w.result x.result c.told-pages w.ensures x.ensures c.if-count-place.true

pub returns-else-count-place : goal.returns-else-count-place
returns-else-count-place c =
    let s = c in
    let v = s.args in
    let w = c.within-count in
    let x = c.nth_page-place in
    λ universes. page_at v.mark v.cid v.discovery v.pages.now universes v.k w.result x.result c.told-pages w.ensures x.ensures c.if-count-place.false
