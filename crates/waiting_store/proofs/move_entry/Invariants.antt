-- The store is the copy of the bytes passed so far.
-- Assumes nothing.
use Rattle.std.proofs.Common.{◌≡◌, length, drop}
use Rattle.std.proofs.Math.Seq.{paste}
use Rattle.waiting_store.proofs.move_entry.Given as goal

abbrev pub invariant-loop-k : goal.invariant-loop-k
invariant-loop-k l = (length l.store ≡ length l.initial.store) × (l.store ≡ paste l.initial.store l.place (drop l.start l.initial.store) l.k)
