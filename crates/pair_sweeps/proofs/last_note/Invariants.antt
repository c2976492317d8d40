-- One walk along both ascending lists: pairs whose CID is before the one looked at are passed, and what those of the CID note comes after the notes so far.
-- Assumes nothing.
use Prim.Native.Nat.{◌≤◌}
use lib.ListN.{take}
use Rattle.pair_sweeps.specs.Sweep.{NoteWalk}
use Rattle.pair_sweeps.proofs.last_note.Given as goal

abbrev pub invariant-loop-i : goal.invariant-loop-i
invariant-loop-i l = (l.i ≤ l.m) × (l.j ≤ l.n) × NoteWalk l.reading (take l.n l.pairs) l.m l.sources l.last l.i l.j
