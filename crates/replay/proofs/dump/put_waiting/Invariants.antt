-- The entries passed so far are told.
-- Assumes nothing.
use mathlib.Core.Path.{◌≡◌}
use Prim.Native.Nat.{◌≤◌, ◌-◌}
use lib.ListN.{length, take}
use Rattle.waiting_store.specs.Entries.{waiting_of}
use Rattle.printing.specs.Text.{Tells}
use Rattle.replay.specs.Dump.{lines, waiting_line}
use Rattle.replay.proofs.dump.put_waiting.Given as goal

abbrev pub invariant-loop-i : goal.invariant-loop-i
invariant-loop-i l = Tells (lines waiting_line (take l.i (waiting_of l.waiting.count l.rows l.store))) l.initial.out l.at l.out l.a
