-- The choice says which of the two.
-- Assumes nothing.
use mathlib.Core.Path.{subst⁻¹}
use mathlib.Core.Bool.{true}
use Rattle.settings.specs.declared.MergeChoice.{MergeChoice}
use Rattle.merge.specs.Views.{dmx}
use lib.ListN.{get_or}
use Rattle.waiting.specs.Waiting.{merged}
use Rattle.waiting_store.specs.Entries.{entries, nothing}
use Rattle.waiting_joins.specs.Joins.{Joined, join_chosen, join_blended}
use Rattle.waiting_joins.proofs.join_entry.Goals as goal

pub returns-in-DiscardLowestPriorityThenPrevious : goal.returns-in-DiscardLowestPriorityThenPrevious
returns-in-DiscardLowestPriorityThenPrevious c =
    let v = c.args in
    let e = get_or (entries v.rows.now v.store.now) v.i nothing in
    let p = dmx v.packet v.values.now in
    subst⁻¹ (λ (x : MergeChoice). Joined v.rows.now v.store.now c.choose_entry.new.rows c.choose_entry.new.store v.i (merged x e p) true)
    c.in-DiscardLowestPriorityThenPrevious.is
    (join_chosen v.rows.now c.choose_entry.new.rows v.store.now c.choose_entry.new.store v.i e p c.choose_entry.ensures)

pub returns-in-HtpDmxMerge : goal.returns-in-HtpDmxMerge
returns-in-HtpDmxMerge c =
    let v = c.args in
    let e = get_or (entries v.rows.now v.store.now) v.i nothing in
    let p = dmx v.packet v.values.now in
    subst⁻¹ (λ (x : MergeChoice). Joined v.rows.now v.store.now c.blend_entry.new.rows c.blend_entry.new.store v.i (merged x e p) c.blend_entry.result)
    c.in-HtpDmxMerge.is
    (join_blended v.rows.now c.blend_entry.new.rows v.store.now c.blend_entry.new.store v.i e p c.blend_entry.result c.blend_entry.ensures)
