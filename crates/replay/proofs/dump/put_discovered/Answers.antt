-- The two lists, each as long as was counted.
-- Assumes nothing.
use mathlib.Core.Path.{sym, ap, ◌∙◌}
use mathlib.Core.List.{List}
use lib.ListN.{length}
use Rattle.discovery.specs.Discovery.{Source}
use Rattle.printing.specs.TextLaws.{tells_as, tells_then}
use Rattle.replay.specs.Dump.{lines, source_text}
use Rattle.replay.specs.DumpLaws.{partial_sources, listed_sources}
use Rattle.replay.proofs.dump.put_discovered.Goals as goal

pub put_sources-a-requires : goal.put_sources-a-requires
put_sources-a-requires c =
    let v = c.args in
    let S = v.sources.now in
    let N = v.names.now in
    let P = v.pages.now in
    let U = v.universes.now in
    let n = c.partial_count-partial.ensures N P U ∙ ap (λ (l : List Source). length l) (partial_sources v.discovery S N P U) in
    (c.requires.0, c.requires.1, n)

pub put_sources-requires : goal.put_sources-requires
put_sources-requires c =
    let v = c.args in
    let S = v.sources.now in
    let N = v.names.now in
    let P = v.pages.now in
    let U = v.universes.now in
    let n = c.listed_count-listed.ensures N P U ∙ ap (λ (l : List Source). length l) (listed_sources v.discovery S N P U) in
    (c.put_sources-a.ensures.ready, c.requires.1, n)

pub returns : goal.returns
returns c =
    let v = c.args in
    let S = v.sources.now in
    let N = v.names.now in
    let P = v.pages.now in
    let U = v.universes.now in
    let a = tells_as (ap (lines (source_text 112)) (sym (partial_sources v.discovery S N P U))) c.put_sources-a.ensures in
    let b = tells_as (ap (lines (source_text 113)) (sym (listed_sources v.discovery S N P U))) c.put_sources.ensures in
    tells_then a b
