-- A search for an expired pair of the CID; pairs ascend, so the first has the lowest universe, and none stands behind a pair of a later CID.
-- Assumes nothing.
use mathlib.Core.Path.{◌≡◌}
use mathlib.Core.List.{map}
use Prim.Native.Nat.{◌≤◌}
use lib.ListN.{take, drop}
use Rattle.pairs.specs.Table.{lowest}
use Rattle.pair_rows.specs.View.{pair_of}
use Rattle.pair_sweeps.proofs.lowest_expired.Given as goal

abbrev pub invariant-loop-i : goal.invariant-loop-i
invariant-loop-i l = (l.i ≤ l.n) × (lowest l.reading (map pair_of (drop l.i (take l.n l.pairs))) l.cid ≡ lowest l.reading (map pair_of (drop l.j (take l.n l.pairs))) l.cid)
