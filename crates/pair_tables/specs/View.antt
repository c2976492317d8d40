-- What a header and the lent rows stand for together: the header says how many rows of each kind are in use.
-- Assumes nothing.
use Rattle.std.specs.Prelude.{◌≡◌, ◌⊎◌, Bool, true, false, not, cond, ◌&&◌, List, ℕ, ◌≤◌, ◌<◌, min, leb, length, Some}
use Rattle.std.proofs.Math.Option.{Option, none, some}
use Rattle.laws.specs.Table.{find, store}
use Rattle.rules.specs.declared.Cid.{Cid}
use Rattle.rules.specs.Cid.{before}
use Rattle.rules.specs.Age.{expired}
use Rattle.rules.specs.Answer.{first_of}
use Rattle.settings.specs.declared.SourceLimit.{SourceLimit}
use Rattle.pairs.specs.declared.Pair.{Pair}
use Rattle.pair_tables.specs.declared.PairTable.{PairTable}
use Rattle.pairs.specs.declared.Checked.{Checked}
use Rattle.pairs.specs.declared.Checked.TheVariants.{Accepted, PairsFull}
use Rattle.pairs.specs.declared.SweepAnswer.{SweepAnswer}
use Rattle.pairs.specs.Table.{Key, key_of, key_before, itself, Table, capacity, empty, pair_at, without, unknown, sequence_stop, check, accepted, Ordered}
use Rattle.pairs.specs.Answers.{answer_of}
use Rattle.pairs.specs.Laws.{stale}
use Rattle.pair_rows.specs.View.{Rows, pairs_of, listed_sources_of, older, lonely, lower, last_reading, found_at}

abbrev pub table_of : PairTable → Rows → Rows → Table
table_of t pairs sources = record { pairs = pairs_of t.count pairs; sources = listed_sources_of t.source_count sources }

-- What calls require and ensure again: rows as long as their types say, tables in order and within their counts, and the header's two
-- notes: no pair is older than `oldest`, and where `tidy` is set each listed CID has a pair. `oldest: 0, tidy: false` is true of every table.
pub record Kept (t : PairTable) (pairs sources : Rows) : Type 0 where
  pub pairs_room : length pairs ≡ capacity
  pub sources_room : length sources ≡ capacity
  pub count_fits : t.count ≤ capacity
  pub source_count_fits : t.source_count ≤ capacity
  pub ordered : Ordered (table_of t pairs sources)
  pub none_older : older t.oldest (pairs_of t.count pairs) ≡ false
  pub none_lonely : t.tidy ≡ true → lonely (pairs_of t.count pairs) (listed_sources_of t.source_count sources) ≡ false

-- the header with its notes as the rows say
abbrev pub renewed : PairTable → Rows → Rows → PairTable
renewed t pairs sources = record {
  count = t.count;
  source_count = t.source_count;
  oldest = lower last_reading (pairs_of t.count pairs);
  tidy = not (lonely (pairs_of t.count pairs) (listed_sources_of t.source_count sources));
}

-- by its notes alone: no pair can be expired, nor, where the sweep looks for that, a CID be without a pair
abbrev pub quiet : Bool → ℕ → PairTable → Bool
quiet announce now t = cond announce (not (expired now t.oldest)) (t.tidy && not (expired now t.oldest))

-- the header with a pair of this reading in its rows
abbrev pub reading_noted : ℕ → PairTable → PairTable
reading_noted now t = record { count = t.count; source_count = t.source_count; oldest = min t.oldest now; tidy = t.tidy }

-- ── what the calls ensure ──
-- a table over any rows is the empty one, with the notes that no rows give it
pub record Emptied (t : PairTable) : Type 0 where
  pub is_empty : (pairs sources : Rows) → table_of t pairs sources ≡ empty
  pub notes_are : (pairs sources : Rows) → t ≡ renewed t pairs sources
  pub kept : (pairs sources : Rows) → length pairs ≡ capacity → length sources ≡ capacity → Kept t pairs sources

-- table, rows and answer are what the definition says, and the next call may follow
pub record Follows {A : Type 0} (t : PairTable) (pairs sources : Rows) (answer : A) (said : Table × A) : Type 0 where
  pub table_is : table_of t pairs sources ≡ said.0
  pub answer_is : answer ≡ said.1
  pub kept : Kept t pairs sources

-- a sweep leaves the rows as they are where no pair is expired and each listed CID has a pair
pub record Unmoved (t : PairTable) (pairs sources : Rows) (now : ℕ) (pairs' sources' : Rows) : Type 0 where
  pub rows_same : stale now (pairs_of t.count pairs) ≡ false → lonely (pairs_of t.count pairs) (listed_sources_of t.source_count sources) ≡ false
      → (pairs' ≡ pairs) × (sources' ≡ sources)

-- an arriving pair
abbrev pub arriving : Cid → ℕ → ℕ → ℕ → Pair
arriving c u s r = record { cid = c; universe = u; sequence = s; reading = r }

-- a sweep with its answer, and a removal that says whether the pair was there
abbrev pub answered : Table × Option Key → Table × SweepAnswer
answered r = (r.0, answer_of r.1)

abbrev pub removal : Key → Table → Table × Bool
removal k t = (without k t, not (unknown (pair_at k t.pairs)))

-- an arrival that is accepted without a sweep, whatever the limit; or all is left
pub record Renews (announce : Bool) (p : Pair) (t : PairTable) (pairs sources pairs' : Rows) (done : Bool) : Type 0 where
  pub accepted : done ≡ true → (limit : SourceLimit) → Follows (reading_noted p.reading t) pairs' sources Accepted (check limit announce p (table_of t pairs sources))
  pub left : done ≡ false → pairs' ≡ pairs

-- ── the pairs alone, for the steps of an arrival ──
pub record PairsKept (t : PairTable) (pairs : Rows) : Type 0 where
  pub pairs_room : length pairs ≡ capacity
  pub count_fits : t.count ≤ capacity
  pub none_older : older t.oldest (pairs_of t.count pairs) ≡ false

-- the pair is stored, and the list of sources is as it was
pub record Stored (t : PairTable) (pairs : Rows) (u : PairTable) (after : Rows) (p : Pair) : Type 0 where
  pub pairs_are : pairs_of u.count after ≡ store key_before key_of p (pairs_of t.count pairs)
  pub same_sources : u.source_count ≡ t.source_count
  pub same_tidy : u.tidy ≡ t.tidy
  pub kept : PairsKept u after

-- what stops an arrival for the pairs' sake: rules 3 and 4
unfoldable pub pair_stop : Pair → List Pair → Option Checked
pair_stop p ps =
    first_of (cond (unknown (pair_at (key_of p) ps) && leb capacity (length ps)) (some PairsFull) none)
    (sequence_stop p.sequence (pair_at (key_of p) ps))

-- a pair is stored, or stopped and all is left as it was
abbrev pub Admitted : PairTable → Rows → PairTable → Rows → Checked → Pair → Type 0
Admitted t pairs u after answer p =
    ((pair_stop p (pairs_of t.count pairs) ≡ none) × (answer ≡ Accepted) × Stored t pairs u after p)
    ⊎ ((pair_stop p (pairs_of t.count pairs) ≡ some answer) × (u ≡ t) × (after ≡ pairs))

-- rules 3 and 4 for a pair that is held
pub record Judged (p : Pair) (ps : List Pair) (answer : Checked) : Type 0 where
  pub passes : accepted answer ≡ true → pair_stop p ps ≡ none
  pub stops : accepted answer ≡ false → pair_stop p ps ≡ some answer

-- a pair that is held is stored anew; or all is left
pub record RenewsPair (t : PairTable) (pairs : Rows) (p : Pair) (after : Rows) (done : Bool) : Type 0 where
  pub stored : done ≡ true → Admitted t pairs (reading_noted p.reading t) after Accepted p
  pub left : done ≡ false → after ≡ pairs

-- what the steps of an arrival require
pub record NewPair (t : PairTable) (pairs : Rows) (p : Pair) : Type 0 where
  pub kept : PairsKept t pairs
  pub room : t.count < capacity
  pub missing : pair_at (key_of p) (pairs_of t.count pairs) ≡ none

pub record KnownPair (t : PairTable) (pairs : Rows) (at : ℕ) (p : Pair) : Type 0 where
  pub kept : PairsKept t pairs
  pub stands : Some at ≡ found_at (key_of p) (pairs_of t.count pairs)

pub record NewSource (t : PairTable) (pairs sources : Rows) (p : Pair) : Type 0 where
  pub kept : Kept t pairs sources
  pub missing : find before itself p.cid (listed_sources_of t.source_count sources) ≡ none
