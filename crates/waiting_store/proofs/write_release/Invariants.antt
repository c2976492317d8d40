-- What is still to be written of the entries, laid from the present place on, makes the whole release.
-- Assumes nothing.
use Rattle.waiting_store.specs.Entries.{entries}
use Rattle.waiting_store.specs.Written.{Releasing}
use Rattle.waiting_store.proofs.write_release.Given as goal

abbrev pub invariant-loop-i : goal.invariant-loop-i
invariant-loop-i l = Releasing l.reading l.address (entries l.rows l.store) l.n l.initial.out l.out l.i l.at l.records
