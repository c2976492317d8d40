-- The first illegal universe stops the call; otherwise all join the copy, or one finds no room there. Each return has its law.
-- Assumes nothing.
use mathlib.Core.Path.{sym, subst, ◌∙◌}
use Rattle.model.specs.Step.{illegal, joined_by}
use Rattle.std.specs.Prelude as rust
use Prim.Native.Nat.{ℕ}
use Rattle.listening.specs.View.{listened_of, Stands}
use Rattle.listening.specs.Laws.{illegal_found, first_some, nothing_none, listens_illegal, listens_full, listens_all}
use Rattle.listening.proofs.Listened.listen_universes.Goals as goal

pub returns-in-Some : goal.returns-in-Some
returns-in-Some c =
    let us = c.args.universes.now in
    listens_illegal us c.args.self c.args.rows.now c.requires c.in-Some.universe (first_some (illegal us) c.in-Some.universe (illegal_found us ∙ sym c.first_illegal.ensures ∙ c.in-Some.is))

pub returns-in-None : goal.returns-in-None
returns-in-None c =
    let us = c.args.universes.now in
    let o = subst (λ (r : rust.Option ℕ). Stands r (joined_by us (listened_of c.args.self c.args.rows.now)) c.join_all.new.rows) c.in-None.is c.join_all.ensures in
    listens_full us c.args.self c.args.rows.now c.requires (nothing_none (illegal us) (illegal_found us ∙ sym c.first_illegal.ensures ∙ c.in_default.is)) o

pub returns-in-Some-join_all : goal.returns-in-Some-join_all
returns-in-Some-join_all c =
    let us = c.args.universes.now in
    let o = subst (λ (r : rust.Option ℕ). Stands r (joined_by us (listened_of c.args.self c.args.rows.now)) c.join_all.new.rows) c.in-Some-join_all.is c.join_all.ensures in
    listens_all us c.args.self c.args.rows.now c.requires c.in-Some-join_all.count c.join_all.new.rows (nothing_none (illegal us) (illegal_found us ∙ sym c.first_illegal.ensures ∙ c.in_default.is)) o
