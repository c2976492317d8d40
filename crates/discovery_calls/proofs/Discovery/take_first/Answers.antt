-- Page 0 with last page 0 is listed in the place of the old entry; any other begins a partial one.
-- Assumes nothing.
use mathlib.Core.Path.{◌≡◌, ap, ◌∙◌}
use mathlib.Core.Bool.{true, false, ◌&&◌}
use native.Mathlib.Omega.{arith}
use lib.Dec.{eqb}
use borrow.Author.Tests.{eq-eqb, ne_eqb}
use Rattle.discovery.specs.Discovery.{Announcement, begun}
use Rattle.discovery_calls.specs.Moves.{with_source}
use Rattle.discovery_calls.specs.View.{Kept}
use Rattle.discovery_pages.specs.Lent.{lent_then}
use Rattle.discovery_calls.specs.Arrive.{dropped_fewer, took_first, took_begun}
use Rattle.discovery_calls.proofs.Discovery.take_first.Goals as goal
use Rattle.discovery_calls.proofs.Discovery.take_first.Goals.{else-page-eq0-via-then-page-eq0+else-page-eq0-2, else-page-eq0-via-else-page-eq0}

pub add_source-left-requires : goal.add_source-left-requires
add_source-left-requires c =
    let s = c in
    let v = s.args in
    let k : Kept v.self v.sources.now v.names.now v.pages.now v.universes.now = s.requires.0 in
    let a : Announcement = record { cid = v.page.cid; name = v.page.name.now; page = v.page.page; last_page = v.page.last_page; universes = v.page.list.now } in
    let g = c.drop_source-d in
    let h = g.ensures in
    (h.kept, omega arith, omega (arith, dropped_fewer 1 v.page.cid v.self v.sources.now v.names.now v.pages.now v.universes.now g.result g.new.sources g.new.names g.new.pages g.new.universes k h, s.requires.1), s.requires.2, s.requires.3, h.gone)

pub returns-then-page-eq0-2 : goal.returns-then-page-eq0-2
returns-then-page-eq0-2 c =
    let s = c in
    let v = s.args in
    let k : Kept v.self v.sources.now v.names.now v.pages.now v.universes.now = s.requires.0 in
    let a : Announcement = record { cid = v.page.cid; name = v.page.name.now; page = v.page.page; last_page = v.page.last_page; universes = v.page.list.now } in
    let g = c.drop_source-d in
    let x = c.add_source-left in
    let f : (eqb v.page.page 0 && eqb v.page.last_page 0) ≡ true = rw (eq-eqb v.page.page 0 c.if-page-eq0.true, eq-eqb v.page.last_page 0 c.if-page-eq0-2.true) in
    took_first v.self v.sources.now v.names.now v.pages.now v.universes.now v.reading a s.requires.4 x.result x.new.sources x.new.names x.new.pages x.new.universes f
    (record { kept = x.ensures.kept; seen = x.ensures.seen ∙ ap (with_source 1 (begun v.reading a)) g.ensures.view; lent = lent_then g.ensures.lent x.ensures.lent })

pub returns-else-page-eq0 : goal.returns-else-page-eq0
returns-else-page-eq0 c =
    let s = c in
    let v = s.args in
    let k : Kept v.self v.sources.now v.names.now v.pages.now v.universes.now = s.requires.0 in
    let a : Announcement = record { cid = v.page.cid; name = v.page.name.now; page = v.page.page; last_page = v.page.last_page; universes = v.page.list.now } in
    let x = c.add_source-left-else-page-eq0 in
    let f : (eqb v.page.page 0 && eqb v.page.last_page 0) ≡ false =
    elim c.else-page-eq0.branch [
      | else-page-eq0-via-then-page-eq0+else-page-eq0-2 w ↦ rw (eq-eqb v.page.page 0 w.if-page-eq0.true, ne_eqb v.page.last_page 0 w.if-page-eq0-2.false)
      | else-page-eq0-via-else-page-eq0 w ↦ rw (ne_eqb v.page.page 0 w.if-page-eq0.false)
    ] in
    took_begun v.self v.sources.now v.names.now v.pages.now v.universes.now v.reading a s.requires.4 x.result x.new.sources x.new.names x.new.pages x.new.universes f x.ensures
