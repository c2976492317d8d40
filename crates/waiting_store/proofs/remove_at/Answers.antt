-- Between two turns place w counts for nothing; each turn moves the entry after it down.
-- Assumes nothing.
use native.Mathlib.Omega.{arith}
use Rattle.waiting_store.specs.Entries.{lent_room}
use Rattle.waiting_store.specs.Passes.{removing_start, removing_turn, removing_end}
use Rattle.waiting_store.proofs.remove_at.Goals as goal

pub loop-w-init : goal.loop-w-init
loop-w-init c = let v = c.args in removing_start v.rows.now v.store.now v.n v.i c.requires.1

pub move_entry-requires : goal.move_entry-requires
move_entry-requires c =
    let l = c.loop-w in
    let s = c in
    let h = c.loop-w-test.true in
    (lent_room s.requires.0 l.invariant.lent, omega arith, omega arith)

pub loop-w-preserved : goal.loop-w-preserved
loop-w-preserved c =
    let m = c in
    let l = m.loop-w in
    let s = m in
    let v = s.args in
    removing_turn v.rows.now v.store.now v.n v.i l.rows m.move_entry.new.rows l.store m.move_entry.new.store l.w s.requires.0 s.requires.2 l.invariant
    (omega (arith, m.loop-w-test.true)) m.move_entry.ensures

pub shape_of-store : goal.shape_of-store
shape_of-store c = c.loop-w.invariant.lent.store_same

pub returns : goal.returns
returns c =
    let l = c.loop-w in
    let s = c in
    let v = s.args in
    removing_end v.rows.now v.store.now v.n v.i l.rows l.store l.w s.requires.0 s.requires.2 l.invariant (omega (arith, c.loop-w-test.false))
