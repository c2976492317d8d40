-- The universe is at its place, and taken out; or it is not there.
-- Assumes nothing.
use mathlib.Core.Path.{subst}
use native.Mathlib.Omega.{arith}
use Rattle.std.specs.Prelude.{Result, Ok, ℕ}
use Rattle.waiting_store.specs.Posts.{Sought}
use Rattle.waiting_calls.specs.Calls.{clears, clears_none}
use Rattle.waiting_calls.proofs.Waiting.clear_waiting_data.Goals as goal

pub remove_at-requires : goal.remove_at-requires
remove_at-requires c =
    let v = c.args in
    let i = c.in-Ok.i in
    let at : Sought v.universe v.self.count v.rows.now (Ok i) =
    subst (λ (r : Result ℕ ℕ). Sought v.universe v.self.count v.rows.now r) c.in-Ok.is c.find_universe.ensures in
    (c.requires.room, at.1, c.requires.count_fits)

pub overflow_sub-result : goal.overflow_sub-result
overflow_sub-result c =
    let v = c.args in
    let i = c.in-Ok.i in
    let at : Sought v.universe v.self.count v.rows.now (Ok i) =
    subst (λ (r : Result ℕ ℕ). Sought v.universe v.self.count v.rows.now r) c.in-Ok.is c.find_universe.ensures in
    omega (arith, at.1)

pub returns-in-Ok : goal.returns-in-Ok
returns-in-Ok c =
    let v = c.args in
    let i = c.in-Ok.i in
    let at : Sought v.universe v.self.count v.rows.now (Ok i) =
    subst (λ (r : Result ℕ ℕ). Sought v.universe v.self.count v.rows.now r) c.in-Ok.is c.find_universe.ensures in
    let q = clears v.self.count v.rows.now v.store.now c.requires v.universe i c.remove_at.new.rows c.remove_at.new.store at c.remove_at.ensures in
    record { view = q.0; answer = q.1 }

pub returns-in-Err : goal.returns-in-Err
returns-in-Err c =
    let v = c.args in
    let q = clears_none v.self.count v.rows.now v.store.now c.requires v.universe _
    (subst (λ (r : Result ℕ ℕ). Sought v.universe v.self.count v.rows.now r) c.in-Err.is c.find_universe.ensures) in
    record { view = q.0; answer = q.1 }
