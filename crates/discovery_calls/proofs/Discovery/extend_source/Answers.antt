-- The page is added and the row renewed.
-- Assumes nothing.
use native.Mathlib.Omega.{arith}
use lib.ListN.{length}
use Rattle.discovery.specs.Discovery.{Announcement}
use Rattle.discovery.specs.Kept.{Fitting}
use Rattle.discovery_calls.specs.View.{Kept, kept_fewer}
use Rattle.discovery_pages.specs.Steps.{pool_small}
use Rattle.discovery_calls.specs.Calls.{pages_rising, source_extended}
use Rattle.discovery_calls.proofs.Discovery.extend_source.Goals as goal

pub put_page-requires : goal.put_page-requires
put_page-requires c =
    let s = c in
    let v = s.args in
    let k : Kept v.self v.sources.now v.names.now v.pages.now v.universes.now = s.requires.0 in
    (k.packing, k.filled, omega (arith, kept_fewer v.self v.sources.now v.names.now v.pages.now v.universes.now k), s.requires.1, s.requires.3, pages_rising v.page.cid v.self v.sources.now v.names.now v.pages.now v.universes.now k (omega (arith, s.requires.4)))

pub overflow_add-result-2 : goal.overflow_add-result-2
overflow_add-result-2 c =
    let s = c in
    let v = s.args in
    let k : Kept v.self v.sources.now v.names.now v.pages.now v.universes.now = s.requires.0 in
    omega (arith, k.filled, pool_small v.self.page_count v.pages.now v.universes.now (length v.page.list.now) k.packing s.requires.1 s.requires.3)

pub returns : goal.returns
returns c =
    let s = c in
    let v = s.args in
    let k : Kept v.self v.sources.now v.names.now v.pages.now v.universes.now = s.requires.0 in
    let a : Announcement = record { cid = v.page.cid; name = v.page.name.now; page = v.page.page; last_page = v.page.last_page; universes = v.page.list.now } in
    let f : Fitting a = record { short_name = s.requires.2; few_universes = s.requires.3 } in
    let p = c.put_page in
    λ t e. source_extended v.self v.sources.now v.names.now v.pages.now v.universes.now k v.reading a f v.at s.requires.4 s.requires.5 s.requires.1
    p.new.pages p.new.universes p.ensures t e
