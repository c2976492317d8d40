-- What the rest makes of the rows as they are stays what all make of the rows at entry. Once one finds no room, the set is too long, for it never shrinks.
-- Assumes nothing.
use mathlib.Core.Path.{sym, ap, subst, ◌∙◌}
use mathlib.Core.List.{List}
use Prim.Native.Nat.{ℕ, ◌+◌}
use native.Mathlib.Omega.{arith}
use lib.Dec.{ltb}
use lib.ListN.{length, take, drop, get_or, drop_of_length-le}
use Rattle.laws.specs.Table.{store}
use Rattle.model.specs.State.{itself}
use Rattle.model.specs.Step.{joined_by}
use Rattle.std.specs.Prelude as rust
use Rattle.listening.specs.View.{Stands}
use Rattle.listening.specs.Laws.{joined_next, joined_over, joined_end}
use Rattle.listening.proofs.join_all.Goals as goal

pub returns-in_err-count : goal.returns-in_err-count
returns-in_err-count c =
    let us = c.args.universes.now in
    let l = take c.loop-universe.count c.loop-universe.rows in
    let s = subst (λ (r : rust.Option ℕ). Stands r (store ltb itself (get_or us c.loop-universe.universe-index 0) l) c.join.new.rows) c.in_err-count.was c.join.ensures.stands in
    subst (λ (r : rust.Option ℕ). Stands r (joined_by us (take c.args.n c.args.rows.now)) c.join.new.rows) (sym c.from_residual.ensures)
    (omega (arith, joined_over us c.loop-universe.universe-index (omega arith) l s, ap length c.loop-universe.invariant.1))

pub loop-universe-preserved : goal.loop-universe-preserved
loop-universe-preserved c =
    let us = c.args.universes.now in
    let l = take c.loop-universe.count c.loop-universe.rows in
    let s = subst (λ (r : rust.Option ℕ). Stands r (store ltb itself (get_or us c.loop-universe.universe-index 0) l) c.join.new.rows) c.in_ok-count.was c.join.ensures.stands in
    (s.0, ap (joined_by (drop (c.loop-universe.universe-index + 1) us)) s.1 ∙ sym (joined_next us c.loop-universe.universe-index (omega arith) l) ∙ c.loop-universe.invariant.1)

pub returns : goal.returns
returns c =
    let us = c.args.universes.now in
    let l = take c.loop-universe.count c.loop-universe.rows in
    (c.loop-universe.invariant.0, sym (joined_end l) ∙ ap (λ (r : List ℕ). joined_by r l) (sym (drop_of_length-le us {i = c.loop-universe.universe-index} (omega arith))) ∙ c.loop-universe.invariant.1)
