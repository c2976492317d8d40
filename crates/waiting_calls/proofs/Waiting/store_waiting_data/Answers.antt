-- Values over 513 leave all. Else the universe is at its place, and the packet joins it or both are lost; or it is not there, and the packet goes in if there is room.
-- Assumes nothing.
use mathlib.Core.Path.{subst}
use mathlib.Core.Bool.{Bool}
use Prim.Native.Nat.{◌+◌, ◌-◌, ◌≤◌}
use native.Mathlib.Omega.{arith}
use lib.ListN.{length, get_or}
use Rattle.merge.specs.Merge.{most_values}
use Rattle.merge.specs.Views.{dmx}
use Rattle.waiting.specs.declared.StoreAnswer.TheVariants as store
use Rattle.std.specs.Prelude.{Result, Ok, Err, ℕ}
use Rattle.waiting.specs.Waiting.{merged}
use Rattle.waiting_store.specs.Entries.{entries, nothing, lent_room}
use Rattle.waiting_store.specs.Posts.{Sought}
use Rattle.waiting_joins.specs.Joins.{Joined}
use Rattle.waiting_calls.specs.Calls.{called_taken, called_long, before_within, stores_full, stores_new, stores_merged, stores_refused}
use Rattle.waiting_calls.proofs.Waiting.store_waiting_data.Goals as goal

pub returns-then-values-gt-VALUES : goal.returns-then-values-gt-VALUES
returns-then-values-gt-VALUES c =
    let v = c.args in
    let n = v.self.count in
    let p = dmx v.packet v.values.now in
    called_long n v.rows.now v.store.now v.choice p c.requires c.if-values-gt-VALUES.true

pub join_entry-requires : goal.join_entry-requires
join_entry-requires c =
    let v = c.args in
    let n = v.self.count in
    let p = dmx v.packet v.values.now in
    let fits : length v.values.now ≤ most_values = c.if-values-gt-VALUES.false in
    let i = c.in-Ok.i in
    let at : Sought v.packet.universe n v.rows.now (Ok i) =
    subst (λ (r : Result ℕ ℕ). Sought v.packet.universe n v.rows.now r) c.in-Ok.is c.find_universe.ensures in
    (c.requires.room, omega (arith, at.1, c.requires.count_fits), fits)

pub returns-then-join_entry : goal.returns-then-join_entry
returns-then-join_entry c =
    let v = c.args in
    let n = v.self.count in
    let p = dmx v.packet v.values.now in
    let fits : length v.values.now ≤ most_values = c.if-values-gt-VALUES.false in
    let i = c.in-Ok.i in
    let at : Sought v.packet.universe n v.rows.now (Ok i) =
    subst (λ (r : Result ℕ ℕ). Sought v.packet.universe n v.rows.now r) c.in-Ok.is c.find_universe.ensures in
    let j = c.join_entry in
    let joins = subst (λ (b : Bool). Joined v.rows.now v.store.now j.new.rows j.new.store i (merged v.choice (get_or (entries v.rows.now v.store.now) i nothing) p) b)
    c.if-join_entry.true j.ensures in
    called_taken n v.rows.now v.store.now v.choice p j.new.rows j.new.store n fits store.Stored
    (stores_merged n v.rows.now v.store.now c.requires v.choice p i fits at j.new.rows j.new.store joins)

pub remove_at-requires : goal.remove_at-requires
remove_at-requires c =
    let v = c.args in
    let n = v.self.count in
    let p = dmx v.packet v.values.now in
    let fits : length v.values.now ≤ most_values = c.if-values-gt-VALUES.false in
    let i = c.in-Ok.i in
    let at : Sought v.packet.universe n v.rows.now (Ok i) =
    subst (λ (r : Result ℕ ℕ). Sought v.packet.universe n v.rows.now r) c.in-Ok.is c.find_universe.ensures in
    (lent_room c.requires.room c.join_entry.ensures.changed.lent, at.1, c.requires.count_fits)

pub returns-then-n-ge-WAITING : goal.returns-then-n-ge-WAITING
returns-then-n-ge-WAITING c =
    let v = c.args in
    let n = v.self.count in
    let p = dmx v.packet v.values.now in
    let fits : length v.values.now ≤ most_values = c.if-values-gt-VALUES.false in
    let i = c.in-Err.i in
    let before : Sought v.packet.universe n v.rows.now (Err i) =
    subst (λ (r : Result ℕ ℕ). Sought v.packet.universe n v.rows.now r) c.in-Err.is c.find_universe.ensures in
    called_taken n v.rows.now v.store.now v.choice p v.rows.now v.store.now n fits store.WaitingFull
    (stores_full n v.rows.now v.store.now c.requires v.choice p i fits before c.if-n-ge-WAITING.true)

pub insert_at-requires : goal.insert_at-requires
insert_at-requires c =
    let v = c.args in
    let n = v.self.count in
    let p = dmx v.packet v.values.now in
    let fits : length v.values.now ≤ most_values = c.if-values-gt-VALUES.false in
    let i = c.in-Err.i in
    let before : Sought v.packet.universe n v.rows.now (Err i) =
    subst (λ (r : Result ℕ ℕ). Sought v.packet.universe n v.rows.now r) c.in-Err.is c.find_universe.ensures in
    let w = before_within v.packet.universe n i v.rows.now before in
    (c.requires.room, omega arith, c.if-n-ge-WAITING.false, fits)

pub returns-else-join_entry : goal.returns-else-join_entry
returns-else-join_entry c =
    let v = c.args in
    let n = v.self.count in
    let p = dmx v.packet v.values.now in
    let fits : length v.values.now ≤ most_values = c.if-values-gt-VALUES.false in
    let i = c.in-Ok.i in
    let at : Sought v.packet.universe n v.rows.now (Ok i) =
    subst (λ (r : Result ℕ ℕ). Sought v.packet.universe n v.rows.now r) c.in-Ok.is c.find_universe.ensures in
    let j = c.join_entry in
    let joins = subst (λ (b : Bool). Joined v.rows.now v.store.now j.new.rows j.new.store i (merged v.choice (get_or (entries v.rows.now v.store.now) i nothing) p) b)
    c.if-join_entry.false j.ensures in
    let q = c.remove_at in
    called_taken n v.rows.now v.store.now v.choice p q.new.rows q.new.store (n - 1) fits store.MergeRefused
    (stores_refused n v.rows.now v.store.now c.requires v.choice p i fits at j.new.rows q.new.rows j.new.store q.new.store joins q.ensures)

pub returns-else-n-ge-WAITING : goal.returns-else-n-ge-WAITING
returns-else-n-ge-WAITING c =
    let v = c.args in
    let n = v.self.count in
    let p = dmx v.packet v.values.now in
    let fits : length v.values.now ≤ most_values = c.if-values-gt-VALUES.false in
    let i = c.in-Err.i in
    let before : Sought v.packet.universe n v.rows.now (Err i) =
    subst (λ (r : Result ℕ ℕ). Sought v.packet.universe n v.rows.now r) c.in-Err.is c.find_universe.ensures in
    let q = c.insert_at in
    called_taken n v.rows.now v.store.now v.choice p q.new.rows q.new.store (n + 1) fits store.Stored
    (stores_new n v.rows.now v.store.now c.requires v.choice p i fits q.new.rows q.new.store before c.if-n-ge-WAITING.false q.ensures)
