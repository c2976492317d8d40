-- The choice is between the entry as it lies in the store and the packet; only the packet is written, with as many values as the winner has.
-- Assumes nothing.
use mathlib.Core.Path.{◌≡◌, sym, ap, ◌∙◌, subst}
use mathlib.Core.List.{List}
use mathlib.Core.Logic.{⊎_elim}
use Prim.Native.Nat.{ℕ, ◌≤◌}
use lib.ListN.{length, take, set}
use lib.Seq.{take-length}
use Rattle.merge.specs.Merge.{Dmx, choice, most_values}
use Rattle.merge.specs.Views.{dmx}
use Rattle.merge.proofs.AnswersLaws.{newer_chosen}
use Rattle.waiting_store.specs.Entries.{entries, read_entry}
use Rattle.waiting_store.specs.Posts.{Changed}
use Rattle.waiting_joins.specs.Joins.{entry, chose_older, chose_newer, chose_long}
use Rattle.waiting_joins.proofs.choose_entry.Goals as goal

pub slice_bounds-write_entry-end : goal.slice_bounds-write_entry-end
slice_bounds-write_entry-end c =
    let v = c.args in
    let won : c.chosen_values-n.result.now ≡ v.values.now = c.chosen_values-n.ensures ∙ newer_chosen _ _ _ c.in-Newer.is in
    let whole : take (length c.chosen_values-n.result.now) v.values.now ≡ v.values.now =
    ap (λ (l : List ℕ). take (length l) v.values.now) won ∙ take-length v.values.now in
    sym (ap length whole ∙ sym (ap length won))

pub write_entry-requires : goal.write_entry-requires
write_entry-requires c =
    let v = c.args in
    let won : c.chosen_values-n.result.now ≡ v.values.now = c.chosen_values-n.ensures ∙ newer_chosen _ _ _ c.in-Newer.is in
    let whole : take (length c.chosen_values-n.result.now) v.values.now ≡ v.values.now =
    ap (λ (l : List ℕ). take (length l) v.values.now) won ∙ take-length v.values.now in
    (c.requires.0, c.requires.1, subst (λ (l : List ℕ). length l ≤ most_values) (sym whole) c.requires.2)

pub returns-in-Older : goal.returns-in-Older
returns-in-Older c =
    let v = c.args in
    let p = dmx v.packet v.values.now in
    let w = entry v.rows.now v.store.now v.i c.requires.0 c.requires.1 in
    let k = c.discard_lowest_priority_then_previous-c in
    let n = c.count_of in
    let d = c.head_of-e in
    let told : k.result ≡ choice w p =
    k.ensures.answer ∙ ap (λ (x : Dmx). choice x p) (read_entry v.rows.now v.store.now v.i c.requires.0 c.requires.1 d.result n.result d.ensures n.ensures) in
    ⊎_elim (λ x. chose_older v.rows.now v.store.now v.i c.requires.0 c.requires.1 p c.requires.2 (sym told ∙ x))
    (λ x. chose_long v.rows.now v.store.now v.i c.requires.0 c.requires.1 p c.requires.2 (sym told ∙ x.1)) c.in-Older.is

pub returns-in-Newer : goal.returns-in-Newer
returns-in-Newer c =
    let v = c.args in
    let p = dmx v.packet v.values.now in
    let w = entry v.rows.now v.store.now v.i c.requires.0 c.requires.1 in
    let k = c.discard_lowest_priority_then_previous-c in
    let n = c.count_of in
    let d = c.head_of-e in
    let told : k.result ≡ choice w p =
    k.ensures.answer ∙ ap (λ (x : Dmx). choice x p) (read_entry v.rows.now v.store.now v.i c.requires.0 c.requires.1 d.result n.result d.ensures n.ensures) in
    let won : c.chosen_values-n.result.now ≡ v.values.now = c.chosen_values-n.ensures ∙ newer_chosen _ _ _ c.in-Newer.is in
    let whole : take (length c.chosen_values-n.result.now) v.values.now ≡ v.values.now =
    ap (λ (l : List ℕ). take (length l) v.values.now) won ∙ take-length v.values.now in
    let m = c.write_entry in
    chose_newer v.rows.now v.store.now v.i c.requires.0 c.requires.1 p c.requires.2 m.new.rows m.new.store (sym told ∙ c.in-Newer.is)
    (subst (λ (l : List ℕ). Changed v.rows.now v.store.now m.new.rows m.new.store (set (entries v.rows.now v.store.now) v.i (dmx v.packet l))) whole m.ensures)
