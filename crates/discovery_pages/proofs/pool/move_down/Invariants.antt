-- What stands at its place stays. Otherwise each turn pushes the next of the part behind those moved; what is still to be looked at is as it was.
-- Assumes nothing.
use mathlib.Core.Path.{◌≡◌}
use mathlib.Core.List.{◌++◌}
use Prim.Native.Nat.{◌+◌}
use lib.ListN.{length, take, drop}
use Rattle.discovery_pages.proofs.pool.move_down.Given as goal

abbrev pub invariant-loop-i : goal.invariant-loop-i
invariant-loop-i l = (length l.universes ≡ length l.initial.universes) × (take (l.to + l.i) l.universes ≡ take l.to l.initial.universes ++ take l.i (drop l.from l.initial.universes))
    × (drop (l.from + l.i) l.universes ≡ drop (l.from + l.i) l.initial.universes)
