-- A compacting pass: those kept so far, and what is kept of those that are left, are what is kept of all.
-- Assumes nothing.
use mathlib.Core.Path.{◌≡◌}
use mathlib.Core.List.{◌++◌}
use Prim.Native.Nat.{◌≤◌}
use lib.ListN.{length, take, drop}
use Rattle.laws.specs.Table.{keep}
use Rattle.pairs.specs.Table.{capacity}
use Rattle.pair_sweeps.specs.Sweep.{live_row}
use Rattle.pair_sweeps.proofs.keep_live.Given as goal

abbrev pub invariant-loop-i : goal.invariant-loop-i
invariant-loop-i l = (l.kept ≤ l.i) × (l.i ≤ l.n) × (length l.pairs ≡ capacity) × (take l.kept l.pairs ++ keep (live_row l.reading) (drop l.i (take l.n l.pairs)) ≡ keep (live_row l.reading) (take l.n l.initial.pairs))
