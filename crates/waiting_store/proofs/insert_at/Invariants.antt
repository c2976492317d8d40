-- Between two turns place j counts for nothing; each turn moves the entry before it up, and the last store fills it.
-- Assumes nothing.
use Rattle.waiting_store.specs.Passes.{Inserting}
use Rattle.waiting_store.proofs.insert_at.Given as goal

abbrev pub invariant-loop-j : goal.invariant-loop-j
invariant-loop-j l = Inserting l.initial.rows l.initial.store l.n l.i l.rows l.store l.j
