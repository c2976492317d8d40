-- Laws of waiting data: each call keeps the table in order and within its counts, how many bytes a release has,
-- and which calls may change places where every universe keeps to one address and one first value.
-- Assumes nothing.
use Rattle.std.specs.Prelude.{ℕ, ◌+◌, length}
use Rattle.std.proofs.Math.Option.{none, some}
use mathlib.Core.List.{List, [], ◌∷◌}
use Rattle.std.proofs.Math.Dec.{ltb}
use Rattle.laws.specs.Table.{store, remove}
use Rattle.merge.specs.Merge.{Dmx, joined}
use Rattle.waiting.specs.Waiting.{universe_of, waiting_for, left}

-- all values together
unfoldable pub value_count : List Dmx → ℕ
value_count [] = 0
value_count (d ∷ ds) = length d.values + value_count ds

-- ── merging by highest value, without the limit of 64 ──
-- p stored; merged with what waits for its universe
unfoldable pub hold : Dmx → List Dmx → List Dmx
hold p ds = elim (waiting_for (universe_of p) ds) [ none ↦ store ltb universe_of p ds | some e ↦ store ltb universe_of (joined e p) ds ]

-- what a packet makes of the waiting data
pub data Move : Type 0 where
  rest : Move
  wait : Dmx → Move
  clear : ℕ → Move
  release : ℕ → Move

unfoldable pub move : Move → List Dmx → List Dmx
move rest ds = ds
move (wait p) ds = hold p ds
move (clear u) ds = remove ltb universe_of u ds
move (release a) ds = left a ds
