-- From the last to the first each is moved up by n; those before it are as they were.
-- Assumes nothing.
use mathlib.Core.Path.{◌≡◌}
use Prim.Native.Nat.{◌≤◌, ◌+◌}
use lib.ListN.{length, take, drop}
use Rattle.discovery_pages.proofs.pool.open_gap.Given as goal

abbrev pub invariant-loop-i : goal.invariant-loop-i
invariant-loop-i l = (l.at ≤ l.i) × (length l.universes ≡ length l.initial.universes) × (take l.i l.universes ≡ take l.i l.initial.universes)
    × (drop (l.i + l.n) (take (l.used + l.n) l.universes) ≡ drop l.i (take l.used l.initial.universes)) × (drop (l.used + l.n) l.universes ≡ drop (l.used + l.n) l.initial.universes)
