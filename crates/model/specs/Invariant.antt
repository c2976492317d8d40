-- What every list of calls from a fresh receiver keeps: tables in order and within their counts, each listed CID with a pair, each CID once in
-- each discovery list, at most 64 waiting, 64 pages, 1,024 pairs and 1,024 listened universes, all of them legal.
-- Assumes nothing.
use Rattle.std.specs.Prelude.{◌≡◌, true, ℕ, ◌≤◌, ltb, length}
use mathlib.Core.List.{List}
use Rattle.laws.specs.Table.{Ascending}
use Rattle.rules.specs.Universe.{legal}
use Rattle.pairs.specs.Table as pairs
use Rattle.pairs.specs.Laws as pair_laws
use Rattle.waiting.specs.Waiting as waiting
use Rattle.discovery.specs.Discovery as discovery
use Rattle.discovery.specs.Discovery.{Announcement, most_name, most_universes}
use Rattle.model.specs.State.{State, listens, itself}
use Rattle.model.specs.Step.{Outcome}

-- ── listened universes ──
pub record Heard (L : List ℕ) : Type 0 where
  pub ascends : Ascending ltb itself L
  pub few : length L ≤ 1024
  pub all_legal : (u : ℕ) → listens u L ≡ true → legal u ≡ true

-- ── the whole state ──
pub record TableKept (t : pairs.Table) : Type 0 where
  pub ordered : pairs.Ordered t
  -- the listed CIDs are those that have a pair
  pub good : pair_laws.GoodTable t

pub record Kept (s : State) : Type 0 where
  pub kept_data : TableKept s.data_pairs
  pub kept_sync : TableKept s.sync_pairs
  pub kept_waiting : waiting.Ordered s.waiting
  pub kept_listened : Heard s.listened
  pub kept_discovered : discovery.Ordered s.discovered

abbrev pub StateKept : Outcome → Type 0
StateKept o = Kept o.state
