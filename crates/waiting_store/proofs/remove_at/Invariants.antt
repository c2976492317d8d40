-- Between two turns place w counts for nothing; each turn moves the entry after it down.
-- Assumes nothing.
use Rattle.waiting_store.specs.Passes.{Removing}
use Rattle.waiting_store.proofs.remove_at.Given as goal

abbrev pub invariant-loop-w : goal.invariant-loop-w
invariant-loop-w l = Removing l.initial.rows l.initial.store l.n l.i l.rows l.store l.w
