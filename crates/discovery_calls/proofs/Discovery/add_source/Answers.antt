-- There are no more sources than pages, so that there is room for both.
-- Assumes nothing.
use native.Mathlib.Omega.{arith}
use Prim.Native.Nat.{◌≤◌, ◌+◌}
use lib.ListN.{length}
use Rattle.laws.specs.Parts.{length_pasted, take_pasted, drop_pasted}
use Rattle.discovery.specs.Discovery.{Announcement}
use Rattle.discovery.specs.Kept.{Fitting}
use Rattle.discovery_calls.specs.View.{Kept, kept_fewer}
use Rattle.discovery_pages.specs.Steps.{pool_room}
use Rattle.discovery_calls.specs.Calls.{source_added}
use Rattle.discovery_calls.proofs.Discovery.add_source.Goals as goal

pub paste-requires : goal.paste-requires
paste-requires c =
    let s = c in
    let v = s.args in
    let k : Kept v.self v.sources.now v.names.now v.pages.now v.universes.now = s.requires.0 in
    omega (arith, k.filled, pool_room v.self.page_count v.pages.now v.universes.now (length v.page.list.now) k.packing s.requires.2 s.requires.4)

pub bounds-sources-at : goal.bounds-sources-at
bounds-sources-at c =
    let s = c in
    let v = s.args in
    let k : Kept v.self v.sources.now v.names.now v.pages.now v.universes.now = s.requires.0 in
    omega (arith, kept_fewer v.self v.sources.now v.names.now v.pages.now v.universes.now k, s.requires.2)

pub bounds-names-at : goal.bounds-names-at
bounds-names-at c =
    let s = c in
    let v = s.args in
    let k : Kept v.self v.sources.now v.names.now v.pages.now v.universes.now = s.requires.0 in
    omega (arith, kept_fewer v.self v.sources.now v.names.now v.pages.now v.universes.now k, s.requires.2)

pub returns : goal.returns
returns c =
    let s = c in
    let v = s.args in
    let k : Kept v.self v.sources.now v.names.now v.pages.now v.universes.now = s.requires.0 in
    let a : Announcement = record { cid = v.page.cid; name = v.page.name.now; page = v.page.page; last_page = v.page.last_page; universes = v.page.list.now } in
    let f : Fitting a = record { short_name = s.requires.3; few_universes = s.requires.4 } in
    let n = c.name_row in
    let w = c.paste in
    let u = v.universes.now in
    let l = v.page.list.now in
    let room = pool_room v.self.page_count v.pages.now u (length l) k.packing s.requires.2 s.requires.4 in
    let b : v.self.used + length l ≤ length u = omega (arith, k.filled, room) in
    rw (c.from.ensures, c.from-2.ensures)
    (source_added v.self v.sources.now v.names.now v.pages.now v.universes.now k v.mark v.reading a f s.requires.1 s.requires.5 s.requires.2
    n.result w.new.elements n.ensures
    (rw w.ensures (length_pasted u v.self.used l b))
    (rw w.ensures (take_pasted u v.self.used l (omega (arith, b))))
    (rw w.ensures (drop_pasted u v.self.used l (omega (arith, b)) (v.self.used + length l) (omega arith))))
