-- What the lent rows stand for: a pair row is [CID high, CID low, universe * 256 + sequence, reading], a source row [CID high, CID low].
-- Assumes nothing.
use Rattle.std.specs.Prelude.{◌≡◌, Bool, false, not, ◌&&◌, List, [], ◌∷◌, map, ℕ, ◌≤◌, ◌/◌, ◌%◌, min, ltb, eqb, length, take, get_or, Some, None}
use Rattle.std.specs.Prelude as rust
use Rattle.std.proofs.Math.Option.{Option, none, some}
use Rattle.laws.specs.Table.{any, find, Ascending}
use Rattle.laws.specs.Place.{place}
use Rattle.rules.specs.declared.Cid.{Cid}
use Rattle.rules.specs.Cid.{same, before}
use Rattle.rules.specs.Age.{expired}
use Rattle.pairs.specs.declared.Pair.{Pair}
use Rattle.pairs.specs.declared.SweepAnswer.{SweepAnswer}
use Rattle.pairs.specs.declared.SweepAnswer.TheVariants.{Quiet, TimedOut}
use Rattle.pairs.specs.Table.{Key, key_of, key_before, itself, capacity, pair_at, has}

abbrev pub Rows : Type 0
Rows = List (List ℕ)

unfoldable pub cid_of : List ℕ → Cid
cid_of row = record { hi = get_or row 0 0; lo = get_or row 1 0 }

unfoldable pub pair_of : List ℕ → Pair
pair_of row = record { cid = cid_of row; universe = get_or row 2 0 / 256 % 65536; sequence = get_or row 2 0 % 256; reading = get_or row 3 0 }

-- the rows in use, as pairs and as CIDs
abbrev pub pairs_of : ℕ → Rows → List Pair
pairs_of n rows = map pair_of (take n rows)

abbrev pub listed_sources_of : ℕ → Rows → List Cid
listed_sources_of n rows = map cid_of (take n rows)

-- some pair was stored before the reading o
abbrev pub older : ℕ → List Pair → Bool
older o ps = any (λ p. ltb p.reading o) ps

-- some CID of the list has no pair
abbrev pub lonely : List Pair → List Cid → Bool
lonely ps cs = any (λ c. not (has ps c)) cs

-- the least of a reading and those of the pairs
unfoldable pub lower : ℕ → List Pair → ℕ
lower o [] = o
lower o (p ∷ ps) = lower (min o p.reading) ps

-- the largest reading that there is
abbrev pub last_reading : ℕ
last_reading = 0xFFFFFFFFFFFFFFFF

-- "Finding a pair answers nothing or its place."
abbrev pub placed : {A : Type 0} → ℕ → Option A → rust.Option ℕ
placed i none = None
placed i (some p) = Some i

abbrev pub found_at : Key → List Pair → rust.Option ℕ
found_at k ps = placed (place key_before key_of k ps) (pair_at k ps)

abbrev pub source_at : Cid → List Cid → rust.Option ℕ
source_at c cs = placed (place before itself c cs) (find before itself c cs)

-- the row's CID is before this one
abbrev pub row_before : Cid → List ℕ → Bool
row_before c row = before (pair_of row).cid c

-- the pair has this key
abbrev pub same_key : Pair → Cid → ℕ → Bool
same_key p c u = same p.cid c && eqb p.universe u

-- the first of the rows has this CID
abbrev pub starts : Cid → Rows → Bool
starts c [] = false
starts c (row ∷ rows) = same (pair_of row).cid c

-- an expired pair of the CID
abbrev pub lapsed : ℕ → Cid → Pair → Bool
lapsed now c p = same p.cid c && expired now p.reading

-- what a pass along the sources notes
abbrev pub note_of : Option Pair → SweepAnswer
note_of none = Quiet
note_of (some p) = TimedOut p.cid p.universe

-- of two notes the later one
abbrev pub later_note : SweepAnswer → SweepAnswer → SweepAnswer
later_note a Quiet = a
later_note a (TimedOut c u) = TimedOut c u

-- what the walk along pairs and sources requires
pub record Walkable (n : ℕ) (pairs : Rows) (m : ℕ) (sources : Rows) : Type 0 where
  pub n_fits : n ≤ capacity
  pub m_fits : m ≤ capacity
  pub pairs_ascend : Ascending key_before key_of (pairs_of n pairs)
  pub sources_ascend : Ascending before itself (listed_sources_of m sources)
