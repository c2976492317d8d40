-- While an expired source is found it goes: the sweep of what is left is the sweep of all.
-- Assumes nothing.
use mathlib.Core.Path.{refl, sym, ◌∙◌}
use native.Mathlib.Omega.{arith}
use Rattle.discovery_pages.specs.Lent.{lent_none, lent_then}
use Rattle.discovery_calls.specs.Sweep.{sweep_done, sweep_mark, sweep_there, sweep_turn}
use Rattle.discovery_calls.proofs.Discovery.remove_expired_sources.Goals as goal

pub find_expired-at-requires : goal.find_expired-at-requires
find_expired-at-requires c = c.requires.within

pub loop-at-init : goal.loop-at-init
loop-at-init c = (c.requires, refl, c.find_expired-at.ensures, lent_none c.args.universes.now)

pub drop_source-d-requires : goal.drop_source-d-requires
drop_source-d-requires c =
    let w = c.loop-at in
    let s = c in
    let v = s.args in
    (w.invariant.0, sweep_mark v.time v.reading w.d w.sources w.names w.pages w.universes w.invariant.0 w.at w.invariant.2 c.loop-at-test.true, omega arith)

pub find_expired-at-requires-in-loop-at : goal.find_expired-at-requires-in-loop-at
find_expired-at-requires-in-loop-at c =
    let x = c.drop_source-d in
    x.ensures.kept.within

pub loop-at-smaller : goal.loop-at-smaller
loop-at-smaller c =
    let w = c.loop-at in
    let s = c in
    let v = s.args in
    let x = c.drop_source-d in
    x.ensures.shrunk (rw c.cid_of-cid.ensures (sweep_there v.time v.reading w.d w.sources w.names w.pages w.universes w.invariant.0 w.at w.invariant.2 c.loop-at-test.true))

pub loop-at-preserved : goal.loop-at-preserved
loop-at-preserved c =
    let w = c.loop-at in
    let s = c in
    let v = s.args in
    let x = c.drop_source-d in (
      x.ensures.kept,
      sweep_turn v.time v.reading w.d w.sources w.names w.pages w.universes w.invariant.0 w.at w.invariant.2 c.loop-at-test.true x.result x.new.sources x.new.names x.new.pages x.new.universes (rw c.cid_of-cid.ensures at x.ensures) ∙ w.invariant.1,
      c.find_expired-at-in-loop-at.ensures,
      lent_then w.invariant.3 x.ensures.lent,
    )

pub shape_of-universes : goal.shape_of-universes
shape_of-universes c = c.loop-at.invariant.3.pool_same

pub returns : goal.returns
returns c =
    let w = c.loop-at in
    let s = c in
    let v = s.args in
    let k = w.invariant.0 in
    record { kept = k; seen = sym (sweep_done v.time v.reading w.d w.sources w.names w.pages w.universes k (omega (arith, w.invariant.2, c.loop-at-test.false))) ∙ w.invariant.1; lent = w.invariant.3 }
