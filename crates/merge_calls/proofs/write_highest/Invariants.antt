-- The output is the copy of the highest values of the places passed.
-- Assumes nothing.
use mathlib.Core.Path.{◌≡◌}
use lib.ListN.{length}
use lib.Seq.{paste}
use Rattle.merge.specs.Merge.{highest}
use Rattle.merge_calls.proofs.write_highest.Given as goal

abbrev pub invariant-loop-i : goal.invariant-loop-i
invariant-loop-i l = (length l.out ≡ length l.initial.out) × (l.out ≡ paste l.initial.out 0 (highest l.shorter l.longest) l.i)
