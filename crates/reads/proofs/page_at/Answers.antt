-- The row is found and read; its universes begin where those of the rows before it end.
-- Assumes nothing.
use mathlib.Core.List.{[]}
use Prim.Native.Nat.{◌<◌}
use native.Mathlib.Omega.{arith}
use Rattle.reads.specs.Reads.{page_lies}
use borrow.Author.Rules.{rules}
use Rattle.reads.proofs.page_at.Goals as goal

pub offset_bounds-pages-place : goal.offset_bounds-pages-place
offset_bounds-pages-place c =
    let row-there : c.place_of_page-place.result < 64 = omega (arith, c.told-pages, (c.place_of_page-place.ensures []).inside c.if-discovery-place.false) in
    let h = row-there in search rules

pub bounds-pages-place : goal.bounds-pages-place
bounds-pages-place c = omega (arith, c.told-pages, (c.place_of_page-place.ensures []).inside c.if-discovery-place.false)

pub page_start-requires : goal.page_start-requires
page_start-requires c = omega (arith, c.told-pages, (c.place_of_page-place.ensures []).inside c.if-discovery-place.false)

pub returns-clause-told : goal.returns-clause-told
returns-clause-told c = λ z universes. page_lies c.args.pages.now universes c.place_of_page-place.result c.page_start.result c.page_head-h.result c.page_head-h.ensures c.page_start.ensures
