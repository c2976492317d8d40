-- The pages are cut; the sources stay.
-- Assumes nothing.
use Rattle.discovery_calls.specs.Sweep.{universe_ended}
use Rattle.discovery_calls.proofs.Discovery.terminate_universe.Goals as goal

pub returns : goal.returns
returns c =
    let s = c in
    let v = s.args in
    let x = c.cut_pages-used in
    universe_ended v.self v.sources.now v.names.now v.pages.now v.universes.now s.requires v.cid v.universe x.result x.new.pages x.new.universes x.ensures
