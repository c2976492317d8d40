-- The old listed entry is dropped, then the partial one turned where it is found.
-- Assumes nothing.
use native.Mathlib.Omega.{arith}
use Rattle.discovery_calls.specs.Calls.{found_inside, still_partial, list_done}
use Rattle.discovery_calls.proofs.Discovery.list_source.Goals as goal

pub turn_source-requires : goal.turn_source-requires
turn_source-requires c =
    let s = c in
    let v = s.args in
    let d = c.drop_source-d in
    let g = c.find_source-at in
    let k = d.ensures.kept in
    let a = still_partial v.cid v.self v.sources.now v.names.now v.pages.now v.universes.now d.result d.new.sources d.new.names d.new.pages d.new.universes d.ensures s.requires.1 in
    (k.within, omega (arith, g.ensures, found_inside 0 v.cid d.result d.new.sources d.new.names d.new.pages d.new.universes k a))

pub returns : goal.returns
returns c =
    let s = c in
    let v = s.args in
    let d = c.drop_source-d in
    let g = c.find_source-at in
    let x = c.turn_source in
    let y = c.turn_pages in
    let k = d.ensures.kept in
    let a = still_partial v.cid v.self v.sources.now v.names.now v.pages.now v.universes.now d.result d.new.sources d.new.names d.new.pages d.new.universes d.ensures s.requires.1 in
    let h = found_inside 0 v.cid d.result d.new.sources d.new.names d.new.pages d.new.universes k a in
    list_done v.cid v.self v.sources.now v.names.now v.pages.now v.universes.now d.result d.new.sources d.new.names d.new.pages d.new.universes d.ensures g.result g.ensures (omega (arith, g.ensures, h)) x.new.sources x.new.names y.new.pages
    (omega arith) (omega arith) (omega arith) x.ensures.0 x.ensures.1 y.ensures
