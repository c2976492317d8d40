-- Between two turns place j counts for nothing; each turn moves the entry before it up, and the last store fills it.
-- Assumes nothing.
use mathlib.Core.Path.{◌≡◌, ◌∙◌}
use native.Mathlib.Omega.{arith}
use Prim.Native.Nat.{◌+◌, ◌-◌, ◌<◌}
use Rattle.merge.specs.Views.{dmx}
use Rattle.waiting_store.specs.Entries.{lent_room}
use Rattle.waiting_store.specs.Passes.{inserting_start, inserting_turn, inserting_end}
use Rattle.waiting_store.proofs.insert_at.Goals as goal

pub loop-j-init : goal.loop-j-init
loop-j-init c = let s = c in let v = s.args in inserting_start v.rows.now v.store.now v.n v.i s.requires.0 s.requires.1 s.requires.2

pub move_entry-requires : goal.move_entry-requires
move_entry-requires c =
    let l = c.loop-j in
    let s = c in
    let h = c.loop-j-test.true in
    let g = l.invariant.high in
    (lent_room s.requires.0 l.invariant.lent, omega arith, omega arith)

pub loop-j-preserved : goal.loop-j-preserved
loop-j-preserved c =
    let m = c in
    let l = m.loop-j in
    let s = m in
    let v = s.args in
    let h : v.i < l.j = m.loop-j-test.true in
    let e : l.j - 1 + 1 ≡ l.j = omega arith in
    inserting_turn v.rows.now v.store.now v.n v.i l.rows m.move_entry.new.rows l.store m.move_entry.new.store l.j s.requires.0 s.requires.2 l.invariant
    h (rw e at m.move_entry.ensures)

pub write_entry-requires : goal.write_entry-requires
write_entry-requires c =
    let l = c.loop-j in
    let s = c in
    let h = s.requires.1 in
    (lent_room s.requires.0 l.invariant.lent, omega arith, s.requires.3)

pub shape_of-store : goal.shape_of-store
shape_of-store c =
    let m = c in
    m.write_entry.ensures.lent.store_same ∙ m.loop-j.invariant.lent.store_same

pub returns : goal.returns
returns c =
    let m = c in
    let l = m.loop-j in
    let s = m in
    let v = s.args in
    let g = l.invariant.low in
    let e : l.j ≡ v.i = omega (arith, m.loop-j-test.false) in
    inserting_end v.rows.now v.store.now v.n v.i l.rows m.write_entry.new.rows l.store m.write_entry.new.store (dmx v.d v.values.now) s.requires.0 s.requires.2
    (rw e at l.invariant) m.write_entry.ensures
