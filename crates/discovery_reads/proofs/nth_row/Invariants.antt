-- The place is what is passed and what is left of the walk, whatever the test.
-- Assumes nothing.
use Rattle.std.proofs.Common.{◌≡◌, Bool, ◌+◌, drop}
use Rattle.discovery_reads.specs.Reads.{nth, Tells}
use Rattle.discovery_reads.proofs.nth_row.Given as goal

abbrev pub invariant-loop-i : goal.invariant-loop-i
invariant-loop-i g l = (p : _ → Bool) → Tells g.F.Fn l.test p → l.i + nth p l.left (drop l.i l.rows) ≡ nth p l.fn.k l.fn.rows
