-- What a call leaves of the pool that the caller lends: 64 pages of 512 universes are the call's, the rest is the caller's.
-- Assumes nothing.
use Rattle.std.specs.Prelude.{◌≡◌, refl, List, ℕ, length, drop}
use Rattle.std.proofs.Common.{◌∙◌}
use Rattle.discovery.specs.Discovery.{pool_length}

-- the pool past its 64 pages stays, and its length
pub record Lent (universes universes' : List ℕ) : Type 0 where
  pub pool_same : length universes' ≡ length universes
  pub beyond : drop pool_length universes' ≡ drop pool_length universes

pub lent_none : (universes : List ℕ) → Lent universes universes
lent_none universes = record { pool_same = refl; beyond = refl }

pub lent_then : {universes universes' universes'' : List ℕ} → Lent universes universes' → Lent universes' universes'' → Lent universes universes''
lent_then a b = record { pool_same = b.pool_same ∙ a.pool_same; beyond = b.beyond ∙ a.beyond }
