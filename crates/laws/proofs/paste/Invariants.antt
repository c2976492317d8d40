-- The elements are those of the list laid over so far; each store takes it one further.
-- Assumes nothing.
use Rattle.std.proofs.Common.{◌≡◌, ◌≤◌, length}
use Rattle.std.proofs.Math.Seq.{paste}
use Rattle.laws.proofs.paste.Given as goal

abbrev pub invariant-loop-i : goal.invariant-loop-i
invariant-loop-i g l = (l.i ≤ length l.list) × (length l.elements ≡ length l.initial.elements) × (l.elements ≡ paste l.initial.elements l.at l.list l.i)
