-- The entry as it lies in the store and the packet are merged into a block of 513 bytes, which has room; a merged block is written back.
-- Assumes nothing.
use mathlib.Core.Path.{◌≡◌, sym, ap, ◌∙◌}
use mathlib.Core.List.{List}
use mathlib.Core.Logic.{⊎_elim}
use Prim.Native.Nat.{ℕ, ◌≤◌}
use native.Mathlib.Omega.{arith}
use lib.ListN.{length-take, replicate}
use lib.Seq.{length-take-le}
use Rattle.merge.specs.Merge.{Dmx, htp_answer, htp_output, most_values}
use Rattle.merge.specs.Views.{dmx}
use Rattle.waiting_store.specs.Entries.{read_entry}
use Rattle.waiting_joins.specs.Joins.{entry, blend_refused, blend_long, blend_short, blend_count, blend_merged}
use Rattle.waiting_joins.proofs.blend_entry.Goals as goal

-- the block that the merge was lent
abbrev lent : List ℕ
lent = replicate most_values 0

pub slice_bounds-block-end : goal.slice_bounds-block-end
slice_bounds-block-end c =
    let v = c.args in
    let p = dmx v.packet v.values.now in
    let w = entry v.rows.now v.store.now v.i c.requires.0 c.requires.1 in
    let k = c.htp_dmx_merge in
    let n = c.count_of in
    let d = c.head_of-e in
    let read = read_entry v.rows.now v.store.now v.i c.requires.0 c.requires.1 d.result n.result d.ensures n.ensures in
    let told : k.result ≡ htp_answer most_values w p = k.ensures.answer ∙ ap (λ (x : Dmx). htp_answer most_values x p) read in
    let fits : c.in-Merged.m ≤ most_values =
    blend_count v.rows.now v.store.now v.i c.requires.0 c.requires.1 p c.requires.2 most_values c.in-Merged.d c.in-Merged.m (sym told ∙ c.in-Merged.is) in
    omega (arith, fits)

pub slice_bounds-write_entry-end : goal.slice_bounds-write_entry-end
slice_bounds-write_entry-end c =
    let v = c.args in
    let p = dmx v.packet v.values.now in
    let w = entry v.rows.now v.store.now v.i c.requires.0 c.requires.1 in
    let k = c.htp_dmx_merge in
    let n = c.count_of in
    let d = c.head_of-e in
    let read = read_entry v.rows.now v.store.now v.i c.requires.0 c.requires.1 d.result n.result d.ensures n.ensures in
    let told : k.result ≡ htp_answer most_values w p = k.ensures.answer ∙ ap (λ (x : Dmx). htp_answer most_values x p) read in
    let fits : c.in-Merged.m ≤ most_values =
    blend_count v.rows.now v.store.now v.i c.requires.0 c.requires.1 p c.requires.2 most_values c.in-Merged.d c.in-Merged.m (sym told ∙ c.in-Merged.is) in
    sym (length-take-le c.in-Merged.m k.new.out (omega (arith, fits)))

pub write_entry-requires : goal.write_entry-requires
write_entry-requires c =
    let v = c.args in
    let p = dmx v.packet v.values.now in
    let w = entry v.rows.now v.store.now v.i c.requires.0 c.requires.1 in
    let k = c.htp_dmx_merge in
    let n = c.count_of in
    let d = c.head_of-e in
    let read = read_entry v.rows.now v.store.now v.i c.requires.0 c.requires.1 d.result n.result d.ensures n.ensures in
    let told : k.result ≡ htp_answer most_values w p = k.ensures.answer ∙ ap (λ (x : Dmx). htp_answer most_values x p) read in
    let fits : c.in-Merged.m ≤ most_values =
    blend_count v.rows.now v.store.now v.i c.requires.0 c.requires.1 p c.requires.2 most_values c.in-Merged.d c.in-Merged.m (sym told ∙ c.in-Merged.is) in
    (c.requires.0, c.requires.1, omega (arith, fits, length-take c.in-Merged.m k.new.out))

pub returns-in-Merged : goal.returns-in-Merged
returns-in-Merged c =
    let v = c.args in
    let p = dmx v.packet v.values.now in
    let w = entry v.rows.now v.store.now v.i c.requires.0 c.requires.1 in
    let k = c.htp_dmx_merge in
    let n = c.count_of in
    let d = c.head_of-e in
    let read = read_entry v.rows.now v.store.now v.i c.requires.0 c.requires.1 d.result n.result d.ensures n.ensures in
    let told : k.result ≡ htp_answer most_values w p = k.ensures.answer ∙ ap (λ (x : Dmx). htp_answer most_values x p) read in
    let o = k.ensures.output ∙ ap (λ (x : Dmx). htp_output k.result x p lent) read in
    blend_merged v.rows.now v.store.now v.i c.requires.0 c.requires.1 p c.requires.2 most_values c.write_entry.new.rows c.write_entry.new.store c.in-Merged.d c.in-Merged.m
    k.result lent k.new.out told c.in-Merged.is o c.write_entry.ensures

pub returns-in-TooLong : goal.returns-in-TooLong
returns-in-TooLong c =
    let v = c.args in
    let p = dmx v.packet v.values.now in
    let w = entry v.rows.now v.store.now v.i c.requires.0 c.requires.1 in
    let k = c.htp_dmx_merge in
    let n = c.count_of in
    let d = c.head_of-e in
    let read = read_entry v.rows.now v.store.now v.i c.requires.0 c.requires.1 d.result n.result d.ensures n.ensures in
    let told : k.result ≡ htp_answer most_values w p = k.ensures.answer ∙ ap (λ (x : Dmx). htp_answer most_values x p) read in
    ⊎_elim (λ x. blend_long v.rows.now v.store.now v.i c.requires.0 c.requires.1 p c.requires.2 most_values (sym told ∙ x.1))
    (⊎_elim (λ x. blend_refused v.rows.now v.store.now v.i c.requires.0 c.requires.1 p c.requires.2 most_values (sym told ∙ x))
    (λ x. blend_short v.rows.now v.store.now v.i c.requires.0 c.requires.1 p c.requires.2 most_values (omega arith) (sym told ∙ x.1)))
    c.in-TooLong.is
