-- One walk along both ascending lists: pairs whose CID is before the one looked at are passed, and the first that is left decides.
-- Assumes nothing.
use mathlib.Core.Path.{◌≡◌}
use Prim.Native.Nat.{◌≤◌}
use lib.ListN.{length, take}
use Rattle.pairs.specs.Table.{capacity}
use Rattle.pair_sweeps.specs.Sweep.{Walk}
use Rattle.pair_sweeps.proofs.keep_sources.Given as goal

abbrev pub invariant-loop-i : goal.invariant-loop-i
invariant-loop-i l = (l.kept ≤ l.i) × (l.i ≤ l.m) × (l.j ≤ l.n) × (length l.sources ≡ capacity) × Walk (take l.n l.pairs) (take l.m l.initial.sources) l.m l.sources l.kept l.i l.j
