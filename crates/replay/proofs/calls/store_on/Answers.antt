-- The lent part holds cc throughout.
-- Assumes nothing.
use mathlib.Core.Path.{sym, ap, ◌∙◌}
use mathlib.Core.List.{List}
use Prim.Native.Nat.{ℕ}
use native.Mathlib.Omega.{arith}
use lib.ListN.{length, length-replicate}
use Rattle.receiver.specs.View.{state_of}
use Rattle.replay.specs.Session.{stored}
use Rattle.replay.specs.SessionLaws.{front_alike, carries_as}
use Rattle.replay.proofs.calls.store_on.Goals as goal

pub returns : goal.returns
returns c =
    λ m.
    let v = c.args in
    carries_as (ap (λ (l : List ℕ). stored l v.session.settings (state_of v.session.receiver m)) (front_alike 255 204 v.len c.blank-lent.ensures (omega arith))) (c.store.ensures m)
