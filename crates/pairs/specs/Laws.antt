-- Laws of pair tables, over the definitions alone: what each call keeps, what is found after it, and which calls may change places.
-- Assumes nothing.
use Rattle.std.specs.Prelude.{◌≡◌, Bool, not, ◌&&◌, List, [], ◌∷◌, ℕ, leb, length}
use Rattle.laws.specs.Table.{any, store, Ascending}
use Rattle.rules.specs.declared.Cid.{Cid}
use Rattle.rules.specs.Cid.{before}
use Rattle.rules.specs.Age.{expired}
use Rattle.pairs.specs.declared.Pair.{Pair}
use Rattle.pairs.specs.Table.{key_of, key_before, itself, Table, capacity, pair_at}
use Rattle.pairs.specs.Table.{unknown}

-- ascending, each once
unfoldable pub cids : List Pair → List Cid
cids [] = []
cids (p ∷ ps) = store before itself p.cid (cids ps)

-- ── tables in order whose sources are the CIDs that have a pair: every table that calls make from the empty one ──
pub record GoodTable (t : Table) : Type 0 where
  pub ascending : Ascending key_before key_of t.pairs
  pub counted : t.sources ≡ cids t.pairs

-- there is room: the pair is known, or fewer than 1,024 are held
unfoldable pub room : Pair → List Pair → Bool
room p ps = not (unknown (pair_at (key_of p) ps) && leb capacity (length ps))

-- some pair is expired
abbrev pub stale : ℕ → List Pair → Bool
stale now ps = any (λ p. expired now p.reading) ps
