-- The walk of keep_sources, as long as every CID stays.
-- Assumes nothing.
use Prim.Native.Nat.{◌≤◌}
use lib.ListN.{take}
use Rattle.pair_sweeps.specs.Sweep.{Walk}
use Rattle.pair_sweeps.proofs.all_paired.Given as goal

abbrev pub invariant-loop-i : goal.invariant-loop-i
invariant-loop-i l = (l.i ≤ l.m) × (l.j ≤ l.n) × Walk (take l.n l.pairs) (take l.m l.sources) l.m l.sources l.i l.i l.j
