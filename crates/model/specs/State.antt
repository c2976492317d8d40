-- The whole state of a receiver, and the fresh one.
-- Assumes nothing.
use Rattle.std.specs.Prelude.{Bool, true, false, List, [], ◌∷◌, ℕ, ltb}
use Rattle.std.proofs.Math.Option.{Option, none, some}
use Rattle.laws.specs.Table.{find}
use Rattle.pairs.specs.Table as pairs
use Rattle.merge.specs.Merge.{Dmx}
use Rattle.discovery.specs.Discovery.{Discovered, nothing_known}

-- "Held here: source tables, listened universes, waiting data, .. discovery pages."
pub record State : Type 0 where
  pub data_pairs : pairs.Table
  pub sync_pairs : pairs.Table
  pub waiting : List Dmx
  pub listened : List ℕ
  pub discovered : Discovered

abbrev pub itself : ℕ → ℕ
itself u = u

-- the discovery universe (E1.31 8: universe discovery is sent there)
abbrev pub discovery_universe : ℕ
discovery_universe = 64214

-- "Fresh: no pairs, waiting data or pages; 64214 alone is listened to"
abbrev pub fresh : State
fresh = record {
  data_pairs = pairs.empty;
  sync_pairs = pairs.empty;
  waiting = [];
  listened = discovery_universe ∷ [];
  discovered = nothing_known;
}

abbrev pub there : Option ℕ → Bool
there none = false
there (some u) = true

-- `is_listening`
abbrev pub listens : ℕ → List ℕ → Bool
listens u l = there (find ltb itself u l)
