-- The page is that of its row.
-- Assumes nothing.
use mathlib.Core.Path.{sym, ap, ◌∙◌}
use native.Mathlib.Omega.{arith}
use Rattle.printing.specs.TextLaws.{tells_as}
use Rattle.replay.specs.Dump.{page_line}
use Rattle.replay.specs.DumpLaws.{first_page, page_read, page_placed}
use Rattle.replay.proofs.dump.put_page_at.Goals as goal

pub offset_bounds-pages-r : goal.offset_bounds-pages-r
offset_bounds-pages-r c =
    let v = c.args in
    let h = page_placed v.mark v.cid v.k c.place_of_page-r.result v.discovery v.pages.now v.universes.now (c.place_of_page-r.ensures v.universes.now) c.requires.1 c.requires.2 in
    omega arith

pub bounds-pages-r : goal.bounds-pages-r
bounds-pages-r c =
    let v = c.args in
    let h = page_placed v.mark v.cid v.k c.place_of_page-r.result v.discovery v.pages.now v.universes.now (c.place_of_page-r.ensures v.universes.now) c.requires.1 c.requires.2 in
    omega arith

pub returns : goal.returns
returns c =
    let v = c.args in
    let r = c.place_of_page-r in
    let h = (r.ensures v.universes.now).held first_page c.requires.2 in
    let e = page_read v.pages.now v.universes.now r.result c.page_head-head.result.number c.page_universes-list.result.now c.page_head-head.ensures.number_read (c.page_universes-list.ensures.held h.0) in
    tells_as (ap (page_line v.letter) (e ∙ sym h.1)) c.put_page.ensures
