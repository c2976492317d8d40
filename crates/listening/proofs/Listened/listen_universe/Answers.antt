-- The universe is illegal, or joins, or finds no room; the laws of the returns say what `listen-all` makes of it alone.
-- Assumes nothing.
use mathlib.Core.Path.{sym, ap, subst, ◌∙◌}
use mathlib.Core.List.{List, [], ◌∷◌}
use Prim.Native.Nat.{ℕ}
use native.Mathlib.Omega.{arith}
use lib.Dec.{ltb}
use lib.ListN.{length}
use Rattle.laws.specs.Table.{store}
use Rattle.model.specs.State.{itself}
use Rattle.model.specs.declared.ListenAnswer.TheVariants as listen
use Rattle.std.specs.Prelude as rust
use Rattle.listening.specs.View.{listened_of, Stands, Listens}
use Rattle.listening.specs.Laws.{joined_one, illegal_one, legal_one, listens_illegal, listens_full, listens_all}
use Rattle.listening.proofs.Listened.listen_universe.Goals as goal

pub returns-in-None : goal.returns-in-None
returns-in-None c =
    let u = c.args.universe in
    let l = listened_of c.args.self c.args.rows.now in
    let o = subst (λ (r : rust.Option ℕ). Stands r (store ltb itself u l) c.join.new.rows) c.in-None.is c.join.ensures.stands in
    subst (λ (a : List ℕ). Listens (u ∷ []) c.args.self c.args.rows.now (record { left = c.args.self; answer = listen.ListenedFull }) a) (sym (c.join.ensures.refused c.in-None.is))
    (listens_full (u ∷ []) c.args.self c.args.rows.now c.requires (legal_one u (sym c.is_universe_in_range.ensures ∙ c.if-not-is_universe_in_range.false)) (omega (arith, o, ap length (joined_one u l))))

pub returns-in-Some : goal.returns-in-Some
returns-in-Some c =
    let u = c.args.universe in
    let l = listened_of c.args.self c.args.rows.now in
    let o = subst (λ (r : rust.Option ℕ). Stands r (store ltb itself u l) c.join.new.rows) c.in-Some.is c.join.ensures.stands in
    listens_all (u ∷ []) c.args.self c.args.rows.now c.requires c.in-Some.count c.join.new.rows (legal_one u (sym c.is_universe_in_range.ensures ∙ c.if-not-is_universe_in_range.false)) (o.0, o.1 ∙ sym (joined_one u l))

pub returns-then-not-is_universe_in_range : goal.returns-then-not-is_universe_in_range
returns-then-not-is_universe_in_range c =
    let u = c.args.universe in
    listens_illegal (u ∷ []) c.args.self c.args.rows.now c.requires u (illegal_one u (sym c.is_universe_in_range.ensures ∙ c.if-not-is_universe_in_range.true))
