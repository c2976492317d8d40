-- A turn passes over the universe that ends, or pushes another behind those kept.
-- Assumes nothing.
use mathlib.Core.Path.{◌≡◌}
use mathlib.Core.Bool.{not}
use mathlib.Core.List.{◌++◌}
use Prim.Native.Nat.{◌≤◌, ◌+◌}
use lib.Dec.{eqb}
use lib.ListN.{length, take, drop}
use Rattle.laws.specs.Table.{keep}
use Rattle.discovery_pages.proofs.pool.cut_down.Given as goal

abbrev pub invariant-loop-i : goal.invariant-loop-i
invariant-loop-i l = (length l.universes ≡ length l.initial.universes) × (l.kept ≡ length (keep (λ v. not (eqb v l.universe)) (take l.i (drop l.from l.initial.universes))))
    × (take (l.to + l.kept) l.universes ≡ take l.to l.initial.universes ++ keep (λ v. not (eqb v l.universe)) (take l.i (drop l.from l.initial.universes)))
    × (drop (l.from + l.i) l.universes ≡ drop (l.from + l.i) l.initial.universes) × (l.kept ≤ l.i)
