-- The rows passed so far are told.
-- Assumes nothing.
use mathlib.Core.Path.{◌≡◌}
use Prim.Native.Nat.{◌≤◌, ◌-◌}
use lib.ListN.{length}
use Rattle.pair_rows.specs.View.{pairs_of}
use Rattle.printing.specs.Text.{Tells}
use Rattle.replay.specs.Dump.{lines, pair_line}
use Rattle.replay.proofs.dump.put_pairs.Given as goal

abbrev pub invariant-loop-i : goal.invariant-loop-i
invariant-loop-i l = Tells (lines (pair_line l.mark) (pairs_of l.i l.pairs)) l.initial.out l.at l.out l.a
