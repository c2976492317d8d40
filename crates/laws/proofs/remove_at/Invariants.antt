-- Each later element moves one place down. The law of a turn is `move`.
-- Assumes nothing.
use Rattle.std.proofs.Common.{◌≡◌, ◌+◌, ◌-◌, ◌≤◌, ◌++◌, length, take, drop}
use Rattle.laws.specs.Place.{remove_at}
use Rattle.laws.proofs.remove_at.Given as goal

abbrev pub invariant-loop-i : goal.invariant-loop-i
invariant-loop-i g l = (l.i ≤ l.n - 1) × (length l.elements ≡ length l.initial.elements) × (take l.i l.elements ++ drop (l.i + 1) (take l.n l.elements) ≡ remove_at l.at (take l.n l.initial.elements))
