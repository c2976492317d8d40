-- A fresh receiver fits fresh memory.
-- Assumes nothing.
use Prim.Native.Nat.{ℕ}
use native.Mathlib.Omega.{arith}
use mathlib.Core.List.{List}
use lib.ListN.{replicate, length-replicate}
use Rattle.receiver.specs.View.{Memory, memory, Sized}
use Rattle.replay.specs.SessionLaws.{sized_heard}
use Rattle.replay.proofs.main.Goals as goal

-- the memory as it is lent first
abbrev row : ℕ → List ℕ
row n = replicate n 0

abbrev zeros : Memory
zeros =
    memory (replicate 1024 (row 4)) (replicate 1024 (row 2)) (replicate 1024 (row 4)) (replicate 1024 (row 2)) (replicate 64 (row 9)) (row 32832) (row 1024) (replicate 64 (row 6)) (replicate 64 (row 63)) (replicate 64 (row 5)) (row 32768)

sized : Sized zeros
sized = record {
  data_pairs_room = length-replicate 1024 (row 4);
  data_sources_room = length-replicate 1024 (row 2);
  sync_pairs_room = length-replicate 1024 (row 4);
  sync_sources_room = length-replicate 1024 (row 2);
  rows_room = length-replicate 64 (row 9);
  sources_room = length-replicate 64 (row 6);
  names_room = length-replicate 64 (row 63);
  pages_room = length-replicate 64 (row 5);
}

pub run-requires : goal.run-requires
run-requires c =
    (record { kept = (c.new-receiver.ensures zeros).kept (sized_heard c.new-receiver.new.heard sized); store_room = omega (arith, length-replicate {A = ℕ} 32832 0); pool_room = omega (arith, length-replicate {A = ℕ} 32768 0) }, record { ready_within = omega (arith, length-replicate {A = ℕ} 65536 0); ready_some = omega (arith, length-replicate {A = ℕ} 65536 0) })
