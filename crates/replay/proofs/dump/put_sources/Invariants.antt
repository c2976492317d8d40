-- The sources passed so far are told.
-- Assumes nothing.
use mathlib.Core.Path.{◌≡◌}
use Prim.Native.Nat.{◌≤◌, ◌-◌}
use lib.ListN.{length, take}
use Rattle.discovery_reads.specs.Reads.{sources_of}
use Rattle.printing.specs.Text.{Tells}
use Rattle.replay.specs.Dump.{lines, source_text}
use Rattle.replay.proofs.dump.put_sources.Given as goal

abbrev pub invariant-loop-k : goal.invariant-loop-k
invariant-loop-k l = Tells (lines (source_text l.letter) (take l.k (sources_of l.mark l.discovery l.sources l.names l.pages l.universes))) l.initial.out l.at l.out l.a
