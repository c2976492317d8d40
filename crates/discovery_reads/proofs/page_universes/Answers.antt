-- A page begins at the sum of the counts before it, and is cut where the pool ends; past the last page, or past the rows, there are no universes.
-- Assumes nothing.
use mathlib.Core.Path.{sym}
use native.Mathlib.Omega.{arith}
use Rattle.discovery_reads.proofs.ReadsLaws.{page_part, page_missing}
use Rattle.discovery_reads.proofs.page_universes.Goals as goal

pub returns-then-count-at-clause-held : goal.returns-then-count-at-clause-held
returns-then-count-at-clause-held c =
    let v = c.args in
    let w = c.within-count in
    λ h. sym (page_missing v.pages.now v.universes.now v.at (omega (arith, w.ensures)))

pub returns-clause-held : goal.returns-clause-held
returns-clause-held c =
    let v = c.args in
    let p = c.page_start-start in
    let a = c.advance-end in
    λ h. page_part v.pages.now v.universes.now v.at p.result a.result p.ensures a.ensures
