-- The entries passed so far are told.
-- Assumes nothing.
use mathlib.Core.Path.{refl, ap}
use Prim.Native.Nat.{◌<◌}
use native.Mathlib.Omega.{arith}
use lib.ListN.{length, get_or}
use lib.Seq.{take_all}
use Rattle.waiting_store.specs.Entries.{waiting_of, nothing}
use Rattle.printing.specs.TextLaws.{tells_none, tells_as}
use Rattle.replay.specs.Dump.{lines, waiting_line}
use Rattle.replay.specs.DumpLaws.{tells_line, length_waiting, entry_same}
use borrow.Author.Rules.{rules}
use Rattle.replay.proofs.dump.put_waiting.Goals as goal

pub loop-i-init : goal.loop-i-init
unfolding lines
loop-i-init c = tells_none c.args.out.now c.args.at c.requires.0

pub loop-i-preserved : goal.loop-i-preserved
loop-i-preserved c =
    let v = c.args in
    let k = c.requires.1 in
    let l = c.loop-i in
    let w = waiting_of v.waiting.count v.rows.now v.store.now in
    let n = length_waiting v.waiting.count v.rows.now v.store.now k.count_fits k.room.rows_length in
    let t = c.loop-i-test.true in
    let i : l.i < length w = omega arith in
    let e = entry_same c.waiting_data-d.result c.waiting_values-values.result.now (get_or w l.i nothing) (c.waiting_data-d.ensures v.store.now) c.waiting_values-values.ensures in
    tells_line waiting_line w l.i nothing i l.invariant (tells_as (ap waiting_line e) c.put_entry-a.ensures)

pub returns : goal.returns
returns c =
    let v = c.args in
    let k = c.requires.1 in
    let w = waiting_of v.waiting.count v.rows.now v.store.now in
    let n = length_waiting v.waiting.count v.rows.now v.store.now k.count_fits k.room.rows_length in
    let t = c.loop-i-test.false in
    tells_as (ap (lines waiting_line) (take_all c.loop-i.i w (omega arith))) c.loop-i.invariant
