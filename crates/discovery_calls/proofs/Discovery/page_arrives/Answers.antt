-- Too long a name or a list is told; any other page is taken.
-- Assumes nothing.
use Rattle.discovery.specs.Discovery.{Announcement}
use Rattle.discovery_calls.specs.Arrive.{called_name, called_list, called_done}
use Rattle.discovery_calls.proofs.Discovery.page_arrives.Goals as goal

pub returns-then-length-gt-NAME : goal.returns-then-length-gt-NAME
returns-then-length-gt-NAME c =
    let s = c in
    let v = s.args in
    let a : Announcement = record { cid = v.page.cid; name = v.page.name.now; page = v.page.page; last_page = v.page.last_page; universes = v.page.list.now } in
    called_name v.self v.sources.now v.names.now v.pages.now v.universes.now s.requires v.reading a c.if-length-gt-NAME.true

pub returns-then-count-gt-PAGE_UNIVERSES : goal.returns-then-count-gt-PAGE_UNIVERSES
returns-then-count-gt-PAGE_UNIVERSES c =
    let s = c in
    let v = s.args in
    let a : Announcement = record { cid = v.page.cid; name = v.page.name.now; page = v.page.page; last_page = v.page.last_page; universes = v.page.list.now } in
    called_list v.self v.sources.now v.names.now v.pages.now v.universes.now s.requires v.reading a c.if-length-gt-NAME.false c.if-count-gt-PAGE_UNIVERSES.true

pub returns : goal.returns
returns c =
    let s = c in
    let v = s.args in
    let a : Announcement = record { cid = v.page.cid; name = v.page.name.now; page = v.page.page; last_page = v.page.last_page; universes = v.page.list.now } in
    let x = c.take_page-a in
    called_done v.self v.sources.now v.names.now v.pages.now v.universes.now s.requires v.reading a x.result x.new.sources x.new.names x.new.pages x.new.universes c.if-length-gt-NAME.false c.if-count-gt-PAGE_UNIVERSES.false x.ensures
