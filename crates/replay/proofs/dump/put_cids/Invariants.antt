-- The CIDs behind the first that were passed so far are told.
-- Assumes nothing.
use mathlib.Core.Path.{◌≡◌}
use mathlib.Core.List.{map}
use Prim.Native.Nat.{◌≤◌, ◌-◌}
use lib.ListN.{length, take, drop}
use Rattle.pair_rows.specs.View.{cid_of}
use Rattle.printing.specs.Text.{Tells}
use Rattle.replay.specs.Dump.{cids_tail}
use Rattle.replay.proofs.dump.put_cids.Given as goal

abbrev pub invariant-loop-i : goal.invariant-loop-i
invariant-loop-i l = Tells (cids_tail (map cid_of (drop 1 (take l.i l.sources)))) l.initial.out l.initial.a l.out l.a
