-- The page is added; if the rows then hold the pages in turn, the source is listed.
-- Assumes nothing.
use mathlib.Core.Path.{◌≡◌, sym, ◌∙◌}
use mathlib.Core.Bool.{true, false}
use mathlib.Core.List.{[]}
use native.Mathlib.Omega.{arith}
use lib.ListN.{get_or}
use Rattle.laws.specs.Table.{any}
use Rattle.discovery.specs.Discovery.{Announcement, extended, complete}
use Rattle.discovery_rows.specs.Store.{is_head_of}
use Rattle.discovery_calls.specs.View.{heads_of, Kept, present_heads}
use Rattle.discovery_calls.specs.Calls.{head_source}
use Rattle.discovery_calls.specs.Arrive.{took_extended, took_listed, seen_after, seen_head, complete_rows, last_of}
use Rattle.discovery_calls.proofs.Discovery.take_next.Goals as goal

pub has_all_pages-requires : goal.has_all_pages-requires
has_all_pages-requires c =
    let s = c in
    let v = s.args in
    let k : Kept v.self v.sources.now v.names.now v.pages.now v.universes.now = s.requires.0 in
    let a : Announcement = record { cid = v.page.cid; name = v.page.name.now; page = v.page.page; last_page = v.page.last_page; universes = v.page.list.now } in
    let x = c.extend_source-d in
    let present : any (is_head_of 0 v.page.cid) (heads_of v.self v.sources.now v.names.now) ≡ true = present_heads 0 v.page.cid v.self v.sources.now v.names.now v.pages.now v.universes.now k (omega (arith, s.requires.4, s.requires.5)) in
    let found = head_source v.self v.sources.now v.names.now v.pages.now v.universes.now v.page.cid present in
    let t = found.0 in
    let e = found.1 in
    let h = x.ensures t e in
    h.kept.packing.within

pub list_source-left-requires : goal.list_source-left-requires
list_source-left-requires c =
    let s = c in
    let v = s.args in
    let k : Kept v.self v.sources.now v.names.now v.pages.now v.universes.now = s.requires.0 in
    let a : Announcement = record { cid = v.page.cid; name = v.page.name.now; page = v.page.page; last_page = v.page.last_page; universes = v.page.list.now } in
    let x = c.extend_source-d in
    let present : any (is_head_of 0 v.page.cid) (heads_of v.self v.sources.now v.names.now) ≡ true = present_heads 0 v.page.cid v.self v.sources.now v.names.now v.pages.now v.universes.now k (omega (arith, s.requires.4, s.requires.5)) in
    let found = head_source v.self v.sources.now v.names.now v.pages.now v.universes.now v.page.cid present in
    let t = found.0 in
    let e = found.1 in
    let h = x.ensures t e in
    (h.kept, seen_head x.result x.new.sources v.names.now x.new.pages x.new.universes v.page.cid (extended v.reading a t) (seen_after v.self v.sources.now v.names.now v.pages.now v.universes.now v.reading a t e x.result x.new.sources v.names.now x.new.pages x.new.universes h))

pub returns-then-has_all_pages : goal.returns-then-has_all_pages
returns-then-has_all_pages c =
    let s = c in
    let v = s.args in
    let k : Kept v.self v.sources.now v.names.now v.pages.now v.universes.now = s.requires.0 in
    let a : Announcement = record { cid = v.page.cid; name = v.page.name.now; page = v.page.page; last_page = v.page.last_page; universes = v.page.list.now } in
    let x = c.extend_source-d in
    let present : any (is_head_of 0 v.page.cid) (heads_of v.self v.sources.now v.names.now) ≡ true = present_heads 0 v.page.cid v.self v.sources.now v.names.now v.pages.now v.universes.now k (omega (arith, s.requires.4, s.requires.5)) in
    let found = head_source v.self v.sources.now v.names.now v.pages.now v.universes.now v.page.cid present in
    let t = found.0 in
    let e = found.1 in
    let h = x.ensures t e in
    let last = get_or (get_or v.sources.now v.at []) 3 0 in
    let rows = complete_rows v.self v.sources.now v.names.now v.pages.now v.universes.now v.reading a t e x.result x.new.sources v.names.now x.new.pages x.new.universes h last (last_of v.self v.sources.now v.names.now v.pages.now v.universes.now k v.page.cid v.at s.requires.4 s.requires.5 t e) in
    let y = c.list_source-left in
    let f : complete (extended v.reading a t) ≡ true = sym rows ∙ sym c.has_all_pages.ensures ∙ c.if-has_all_pages.true in
    took_listed v.self v.sources.now v.names.now v.pages.now v.universes.now v.reading a t e x.result x.new.sources v.names.now x.new.pages x.new.universes h f y.result y.new.sources y.new.names y.new.pages y.new.universes (y.ensures (extended v.reading a t) (seen_after v.self v.sources.now v.names.now v.pages.now v.universes.now v.reading a t e x.result x.new.sources v.names.now x.new.pages x.new.universes h))

pub returns-else-has_all_pages : goal.returns-else-has_all_pages
returns-else-has_all_pages c =
    let s = c in
    let v = s.args in
    let k : Kept v.self v.sources.now v.names.now v.pages.now v.universes.now = s.requires.0 in
    let a : Announcement = record { cid = v.page.cid; name = v.page.name.now; page = v.page.page; last_page = v.page.last_page; universes = v.page.list.now } in
    let x = c.extend_source-d in
    let present : any (is_head_of 0 v.page.cid) (heads_of v.self v.sources.now v.names.now) ≡ true = present_heads 0 v.page.cid v.self v.sources.now v.names.now v.pages.now v.universes.now k (omega (arith, s.requires.4, s.requires.5)) in
    let found = head_source v.self v.sources.now v.names.now v.pages.now v.universes.now v.page.cid present in
    let t = found.0 in
    let e = found.1 in
    let h = x.ensures t e in
    let last = get_or (get_or v.sources.now v.at []) 3 0 in
    let rows = complete_rows v.self v.sources.now v.names.now v.pages.now v.universes.now v.reading a t e x.result x.new.sources v.names.now x.new.pages x.new.universes h last (last_of v.self v.sources.now v.names.now v.pages.now v.universes.now k v.page.cid v.at s.requires.4 s.requires.5 t e) in
    let f : complete (extended v.reading a t) ≡ false = sym rows ∙ sym c.has_all_pages.ensures ∙ c.if-has_all_pages.false in
    took_extended v.self v.sources.now v.names.now v.pages.now v.universes.now v.reading a t e x.result x.new.sources v.names.now x.new.pages x.new.universes h f
