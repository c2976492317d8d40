-- The source is that of its row.
-- Assumes nothing.
use mathlib.Core.Path.{sym, ap, ◌∙◌}
use native.Mathlib.Omega.{arith}
use Rattle.printing.specs.TextLaws.{tells_as, tells_then}
use Rattle.replay.specs.Dump.{source_text}
use Rattle.replay.specs.DumpLaws.{first_source, source_placed, source_read}
use Rattle.replay.proofs.dump.put_source_at.Goals as goal

pub offset_bounds-sources-r : goal.offset_bounds-sources-r
offset_bounds-sources-r c =
    let v = c.args in
    let r = c.source_place-r in
    let h = source_placed v.mark v.k r.result v.discovery v.sources.now v.names.now v.pages.now v.universes.now (r.ensures v.names.now v.pages.now v.universes.now) c.requires.1.within c.requires.2 in
    omega arith

pub bounds-sources-r : goal.bounds-sources-r
bounds-sources-r c =
    let v = c.args in
    let r = c.source_place-r in
    let h = source_placed v.mark v.k r.result v.discovery v.sources.now v.names.now v.pages.now v.universes.now (r.ensures v.names.now v.pages.now v.universes.now) c.requires.1.within c.requires.2 in
    omega arith

pub offset_bounds-names-r : goal.offset_bounds-names-r
offset_bounds-names-r c =
    let v = c.args in
    let r = c.source_place-r in
    let h = source_placed v.mark v.k r.result v.discovery v.sources.now v.names.now v.pages.now v.universes.now (r.ensures v.names.now v.pages.now v.universes.now) c.requires.1.within c.requires.2 in
    omega arith

pub bounds-names-r : goal.bounds-names-r
bounds-names-r c =
    let v = c.args in
    let r = c.source_place-r in
    let h = source_placed v.mark v.k r.result v.discovery v.sources.now v.names.now v.pages.now v.universes.now (r.ensures v.names.now v.pages.now v.universes.now) c.requires.1.within c.requires.2 in
    omega arith

pub returns : goal.returns
returns c =
    let v = c.args in
    let r = c.source_place-r in
    let h = (r.ensures v.names.now v.pages.now v.universes.now).held first_source c.requires.2 in
    let e = source_read v.letter v.mark v.discovery v.sources.now v.names.now v.pages.now v.universes.now r.result c.page_total-total.result c.source_head-head.result c.source_head-head.ensures (c.page_total-total.ensures v.universes.now) in
    tells_as (e ∙ ap (source_text v.letter) (sym h.1)) (tells_then c.put_head-a.ensures c.put_pages.ensures)
