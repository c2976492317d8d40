-- What is still to be written of the entries, laid from the present place on, makes the whole release.
-- Assumes nothing.
use mathlib.Core.Path.{◌≡◌, sym, ap, ◌∙◌}
use Prim.Native.Nat.{◌+◌, ◌≤◌, ◌<◌}
use native.Mathlib.Omega.{arith}
use lib.ListN.{length, take, get_or, length-take}
use Rattle.merge.specs.Merge.{Dmx}
use Rattle.laws.specs.Parts.{pasted}
use Rattle.waiting_store.specs.Entries.{entries, nothing, length_entries, read_entry}
use Rattle.waiting.specs.Records.{encode, records}
use Rattle.waiting_store.specs.Passes.{head_at}
use Rattle.laws.specs.Table.{keep, length_keep}
use Rattle.waiting_store.specs.Written.{due, due_of, releasing_start, releasing_skip, releasing_room, releasing_write, releasing_end, release_room}
use Rattle.waiting_store.proofs.write_release.Goals.{then-is_due, else-is_due}
use Rattle.waiting_store.proofs.write_release.Goals as goal

pub loop-i-init : goal.loop-i-init
loop-i-init c = let v = c.args in releasing_start v.reading v.address (entries v.rows.now v.store.now) v.n v.out.now

pub write_record-at-requires : goal.write_record-at-requires
write_record-at-requires c =
    let v = c.args in
    let l = c.loop-i in
    let ds = entries v.rows.now v.store.now in
    let h : l.i < v.n = c.loop-i-test.true in
    let rs = c.requires.0.rows_length in
    let placed : l.i < length ds = omega (arith, length_entries v.rows.now v.store.now) in
    let looks : Dmx = get_or ds l.i nothing in
    let asked : due_of v.reading v.address looks ≡ c.is_due.result =
    ap (due v.reading v.address) (head_at v.rows.now v.store.now l.i (omega (arith, length_entries v.rows.now v.store.now)) ∙ sym c.head_of-d.ensures) ∙ sym c.is_due.ensures in
    let room : length (records (keep (due_of v.reading v.address) (take v.n ds))) ≤ length v.out.now =
    release_room v.reading v.address v.n v.rows.now v.store.now v.out.now c.requires.0 c.requires.1 c.requires.2 in
    let e = read_entry v.rows.now v.store.now l.i c.requires.0 (omega arith) c.head_of-d.result c.count_of.result c.head_of-d.ensures c.count_of.ensures in
    let r = releasing_room v.reading v.address ds v.n v.out.now l.out l.i l.at l.records l.invariant nothing h placed (asked ∙ c.if-is_due.true) room in
    rw (ap (λ (x : Dmx). length x.values) e) r

pub overflow_add-records : goal.overflow_add-records
overflow_add-records c =
    let v = c.args in
    let ds = entries v.rows.now v.store.now in
    omega (arith, c.loop-i.invariant.records_left, length_keep (due_of v.reading v.address) (take v.n ds), length-take v.n ds, c.requires.1)

pub loop-i-preserved : goal.loop-i-preserved
loop-i-preserved c =
    let v = c.args in
    let l = c.loop-i in
    let ds = entries v.rows.now v.store.now in
    let h : l.i < v.n = c.loop-i-test.true in
    let rs = c.requires.0.rows_length in
    let placed : l.i < length ds = omega (arith, length_entries v.rows.now v.store.now) in
    let looks : Dmx = get_or ds l.i nothing in
    let asked : due_of v.reading v.address looks ≡ c.is_due.result =
    ap (due v.reading v.address) (head_at v.rows.now v.store.now l.i (omega (arith, length_entries v.rows.now v.store.now)) ∙ sym c.head_of-d.ensures) ∙ sym c.is_due.ensures in
    let room : length (records (keep (due_of v.reading v.address) (take v.n ds))) ≤ length v.out.now =
    release_room v.reading v.address v.n v.rows.now v.store.now v.out.now c.requires.0 c.requires.1 c.requires.2 in
    elim c.if-is_due.branch [
      | then-is_due w ↦
          let e = read_entry v.rows.now v.store.now l.i c.requires.0 (omega arith) c.head_of-d.result w.count_of.result c.head_of-d.ensures w.count_of.ensures in
          rw (w.out-is, w.at-is, w.records-is)
          (releasing_write v.reading v.address ds v.n v.out.now l.out l.i l.at l.records l.invariant nothing h placed
          (asked ∙ w.if-is_due.true) w.write_record-at.new.out w.write_record-at.result room
          (w.write_record-at.ensures.laid ∙ ap (λ (x : Dmx). pasted l.out l.at (encode x)) e)
          (w.write_record-at.ensures.after ∙ ap (λ (x : Dmx). l.at + length (encode x)) e))
      | else-is_due w ↦ rw (w.out-is, w.at-is, w.records-is)
          (releasing_skip v.reading v.address ds v.n v.out.now l.out l.i l.at l.records l.invariant nothing h placed (asked ∙ w.if-is_due.false))
    ]

pub returns : goal.returns
returns c =
    let l = c.loop-i in
    let v = c.args in
    releasing_end v.reading v.address (entries v.rows.now v.store.now) v.n v.out.now l.out l.i l.at l.records l.invariant c.loop-i-test.false
