-- With 64 pages it is refused; otherwise it is taken, as the source has a partial entry or not.
-- No source of the CID stands before the first row with it.
-- Assumes nothing.
use native.Mathlib.Omega.{arith}
use lib.ListN.{take}
use Rattle.discovery.specs.Discovery.{Announcement}
use Rattle.discovery_rows.specs.Walks.{place_sooner}
use Rattle.discovery_calls.specs.View.{Kept, absent_heads}
use Rattle.discovery_calls.specs.Arrive.{arrival_full, arrival_taken}
use Rattle.discovery_calls.proofs.Discovery.take_page.Goals as goal

pub returns-then-self-ge-PAGES : goal.returns-then-self-ge-PAGES
returns-then-self-ge-PAGES c =
    let s = c in
    let v = s.args in
    let k : Kept v.self v.sources.now v.names.now v.pages.now v.universes.now = s.requires.0 in
    let a : Announcement = record { cid = v.page.cid; name = v.page.name.now; page = v.page.page; last_page = v.page.last_page; universes = v.page.list.now } in
    arrival_full v.self v.sources.now v.names.now v.pages.now v.universes.now k v.reading a c.if-self-ge-PAGES.true

pub find_from-at-requires : goal.find_from-at-requires
find_from-at-requires c =
    let s = c in
    let v = s.args in
    (s.requires.0.within, omega (arith, c.find_cid-from.ensures, place_sooner 0 v.page.cid (take v.self.source_count v.sources.now)))

pub take_first-requires : goal.take_first-requires
take_first-requires c =
    let s = c in
    let v = s.args in
    let k : Kept v.self v.sources.now v.names.now v.pages.now v.universes.now = s.requires.0 in
    let a : Announcement = record { cid = v.page.cid; name = v.page.name.now; page = v.page.page; last_page = v.page.last_page; universes = v.page.list.now } in
    (k, c.if-self-ge-PAGES.false, s.requires.1, s.requires.2, absent_heads 0 v.page.cid v.self v.sources.now v.names.now v.pages.now v.universes.now k (omega (arith, c.find_from-at.ensures, c.if-count-at.true)), omega (arith, c.find_cid-from.ensures, place_sooner 1 v.page.cid (take v.self.source_count v.sources.now)))

pub returns-then-count-at : goal.returns-then-count-at
returns-then-count-at c =
    let s = c in
    let v = s.args in
    let k : Kept v.self v.sources.now v.names.now v.pages.now v.universes.now = s.requires.0 in
    let a : Announcement = record { cid = v.page.cid; name = v.page.name.now; page = v.page.page; last_page = v.page.last_page; universes = v.page.list.now } in
    let x = c.take_first in
    arrival_taken v.self v.sources.now v.names.now v.pages.now v.universes.now k v.reading a x.result x.new.sources x.new.names x.new.pages x.new.universes c.if-self-ge-PAGES.false x.ensures

pub returns-else-count-at : goal.returns-else-count-at
returns-else-count-at c =
    let s = c in
    let v = s.args in
    let k : Kept v.self v.sources.now v.names.now v.pages.now v.universes.now = s.requires.0 in
    let a : Announcement = record { cid = v.page.cid; name = v.page.name.now; page = v.page.page; last_page = v.page.last_page; universes = v.page.list.now } in
    let x = c.take_next in
    arrival_taken v.self v.sources.now v.names.now v.pages.now v.universes.now k v.reading a x.result x.new.sources x.new.names x.new.pages x.new.universes c.if-self-ge-PAGES.false x.ensures
