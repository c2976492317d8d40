-- Each line has its call.
-- Assumes nothing.
use mathlib.Core.Path.{sym, ap, ◌∙◌}
use mathlib.Core.List.{List}
use Prim.Native.Nat.{ℕ}
use Rattle.receiver.specs.View.{state_of}
use Rattle.script.specs.declared.parse.SettingsLine.{SettingsLine}
use Rattle.replay.specs.Session.{restored, recorded}
use Rattle.replay.specs.SessionLaws.{carries_as}
use Rattle.replay.proofs.calls.carry_settings.Goals as goal

pub returns-in-Store : goal.returns-in-Store
returns-in-Store c =
    λ m.
    carries_as (ap (λ (x : SettingsLine). recorded c.args.bytes.now x c.args.session.settings (state_of c.args.session.receiver m)) (sym c.in-Store.is)) (c.store_on.ensures m)

pub returns-in-Load : goal.returns-in-Load
returns-in-Load c =
    λ m.
    let v = c.args in
    carries_as (ap (λ (l : List ℕ). restored c.in-Load.layouts l v.session.settings (state_of v.session.receiver m)) c.front.ensures ∙ ap (λ (x : SettingsLine). recorded c.args.bytes.now x c.args.session.settings (state_of c.args.session.receiver m)) (sym c.in-Load.is)) (c.load.ensures m)

pub returns-in-Show : goal.returns-in-Show
returns-in-Show c =
    λ m.
    carries_as (ap (λ (x : SettingsLine). recorded c.args.bytes.now x c.args.session.settings (state_of c.args.session.receiver m)) (sym c.in-Show.is)) (c.tell.ensures m)
