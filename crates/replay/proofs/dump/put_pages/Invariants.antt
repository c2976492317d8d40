-- The pages passed so far are told.
-- Assumes nothing.
use mathlib.Core.Path.{◌≡◌}
use Prim.Native.Nat.{◌≤◌, ◌-◌}
use lib.ListN.{length, take}
use Rattle.discovery_reads.specs.Reads.{pages_of}
use Rattle.printing.specs.Text.{Tells}
use Rattle.replay.specs.Dump.{lines, page_line}
use Rattle.replay.proofs.dump.put_pages.Given as goal

abbrev pub invariant-loop-k : goal.invariant-loop-k
invariant-loop-k l = Tells (lines (page_line l.letter) (take l.k (pages_of l.mark l.cid l.discovery l.pages l.universes))) l.initial.out l.at l.out l.a
