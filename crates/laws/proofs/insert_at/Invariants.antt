-- The element is carried along: put down at each place from at on, where the one that stood there is taken up. The law of a turn is `carry`.
-- Assumes nothing.
use Rattle.std.proofs.Common.{◌≡◌, ◌≤◌, ◌++◌, ◌∷◌, length, take, drop}
use Rattle.laws.specs.Place.{insert_at}
use Rattle.laws.proofs.insert_at.Given as goal

abbrev pub invariant-loop-i : goal.invariant-loop-i
invariant-loop-i g l = (l.i ≤ l.n) × (length l.elements ≡ length l.initial.elements) × (take l.i l.elements ++ l.carried ∷ drop l.i (take l.n l.elements) ≡ insert_at l.at l.initial.carried (take l.n l.initial.elements))
