-- What the header and the lent rows of both tables stand for, and what each call promises of them.
-- Assumes nothing.
use Rattle.std.specs.Prelude.{◌≡◌, Bool, ◌&&◌, ℕ}
use Rattle.std.proofs.Math.Option.{Option}
use Rattle.pairs.specs.declared.SweepAnswer.{SweepAnswer}
use Rattle.pairs.specs.Table.{Table, Key}
use Rattle.pairs.specs.Answers.{answer_of}
use Rattle.pair_rows.specs.View.{Rows}
use Rattle.pair_tables.specs.View as tables
use Rattle.pair_tables.specs.View.{table_of}
use Rattle.sequences.specs.declared.SequenceNumbering.{SequenceNumbering}
use Rattle.sequences.specs.Sequences.{Numbers, numbers}

-- the rows of both tables
pub record Lent : Type 0 where
  pub data_pairs : Rows
  pub data_sources : Rows
  pub sync_pairs : Rows
  pub sync_sources : Rows

abbrev pub lent : Rows → Rows → Rows → Rows → Lent
lent dp ds sp ss = record { data_pairs = dp; data_sources = ds; sync_pairs = sp; sync_sources = ss }

abbrev pub data_of : SequenceNumbering → Lent → Table
data_of n m = table_of n.«data».table m.data_pairs m.data_sources

abbrev pub sync_of : SequenceNumbering → Lent → Table
sync_of n m = table_of n.sync.table m.sync_pairs m.sync_sources

abbrev pub numbers_of : SequenceNumbering → Lent → Numbers
numbers_of n m = numbers (data_of n m) (sync_of n m)

-- by the notes of both tables, the timeouts have nothing to do
abbrev pub quiet : Bool → ℕ → SequenceNumbering → Bool
quiet announce now n = tables.quiet announce now n.«data».table && tables.quiet announce now n.sync.table

-- what calls require and ensure again
pub record Kept (n : SequenceNumbering) (m : Lent) : Type 0 where
  pub kept_data : tables.Kept n.«data».table m.data_pairs m.data_sources
  pub kept_sync : tables.Kept n.sync.table m.sync_pairs m.sync_sources

-- tables and answer are what the definition says, and the next call may follow
pub record Follows {A : Type 0} (n : SequenceNumbering) (m : Lent) (answer : A) (said : Numbers × A) : Type 0 where
  pub numbers_are : numbers_of n m ≡ said.0
  pub answer_is : answer ≡ said.1
  pub kept : Kept n m

abbrev pub answered : Numbers × Option Key → Numbers × SweepAnswer
answered r = (r.0, answer_of r.1)

-- each table's rows stay as they are where none of its pairs is expired and each of its listed CIDs has a pair
pub record Unmoved (n : SequenceNumbering) (m : Lent) (now : ℕ) (m' : Lent) : Type 0 where
  pub data_same : tables.Unmoved n.«data».table m.data_pairs m.data_sources now m'.data_pairs m'.data_sources
  pub sync_same : tables.Unmoved n.sync.table m.sync_pairs m.sync_sources now m'.sync_pairs m'.sync_sources

-- both tables are empty over any rows
pub record Emptied (n : SequenceNumbering) : Type 0 where
  pub no_data : tables.Emptied n.«data».table
  pub no_sync : tables.Emptied n.sync.table
