-- Where no row has the owner, nothing goes; otherwise its row, its name and its pages.
-- Assumes nothing.
use mathlib.Core.Path.{◌∙◌}
use native.Mathlib.Omega.{arith}
use Rattle.discovery_calls.specs.View.{dropped_absent, dropped_kept}
use Rattle.discovery_calls.proofs.Discovery.drop_source.Goals as goal

pub returns-then-count-at : goal.returns-then-count-at
returns-then-count-at c =
    let s = c in
    let v = s.args in
    dropped_absent v.mark v.cid v.self v.sources.now v.names.now v.pages.now v.universes.now s.requires.0
    (omega (arith, c.find_from-at.ensures))

pub returns : goal.returns
returns c =
    let s = c in
    let v = s.args in
    let f = c.find_from-at in
    let x = c.remove_at in
    let y = c.remove_at-2 in
    let z = c.drop_pages-left in
    dropped_kept v.mark v.cid v.self v.sources.now v.names.now v.pages.now v.universes.now s.requires.0 s.requires.1
    x.new.elements y.new.elements z.new.pages z.new.universes f.result z.result.page_count z.result.used
    f.ensures c.if-count-at.false (x.ensures.kept ∙ s.requires.0.source_rows) (y.ensures.kept ∙ s.requires.0.name_rows) x.ensures.taken_out y.ensures.taken_out z.ensures
