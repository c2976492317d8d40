-- Laws of merging: what merging by highest value keeps, and that packets of one reading may be merged in either order.
-- Assumes nothing.
use Rattle.std.specs.Prelude.{◌≡◌, List, ◌∷◌}
use Prim.Native.Nat.{ℕ}
use Rattle.merge.specs.Merge.{Dmx}

-- ── the merge, in either order ──
-- packets of one universe, address and reading
pub record Paired (p q : Dmx) : Type 0 where
  pub one_universe : p.head.universe ≡ q.head.universe
  pub one_address : p.head.sync_uni ≡ q.head.sync_uni
  pub one_reading : p.head.recv_timestamp ≡ q.head.recv_timestamp

-- ── data of one universe, address and first value ──
pub record Like (u a f : ℕ) (d : Dmx) : Type 0 where
  pub of_universe : d.head.universe ≡ u
  pub of_address : d.head.sync_uni ≡ a
  pub others : List ℕ
  pub of_values : d.values ≡ f ∷ others
