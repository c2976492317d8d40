-- The receiver and its lent memory as the model's state, what calls presuppose and keep, and what each promises.
-- Assumes nothing.
use Rattle.std.specs.Prelude.{◌≡◌, Bool, true, not, ◌||◌, List, ℕ, ◌≤◌, eqb, length}
use Rattle.pair_rows.specs.View.{Rows}
use Rattle.pair_tables.specs.View as tables
use Rattle.sequences.specs.View as sequences
use Rattle.waiting.specs.Waiting.{store_length}
use Rattle.waiting_store.specs.Entries.{waiting_of}
use Rattle.waiting_store.specs.Entries as waiting
use Rattle.listening.specs.View.{listened_of}
use Rattle.listening.specs.View as listening
use Rattle.discovery_calls.specs.View.{discovered_of}
use Rattle.discovery_calls.specs.View as discovery
use Rattle.discovery_pages.specs.Lent as pool
use Rattle.lengths.specs.Space.{space_of}
use Rattle.model.specs.State.{State, fresh}
use Rattle.model.specs.Step.{Space}
use Rattle.discovery_calls.specs.declared.Discovery.{Discovery}
use Rattle.pairs.specs.Table.{capacity as most_pairs}
use Rattle.waiting.specs.Waiting.{capacity as most_waiting}
use Rattle.discovery.specs.Discovery.{capacity as most_pages, pool_length}
use Rattle.receiver.specs.declared.Receiver.{Receiver}

-- ── the view ──
-- the memory that the caller lends: both pair tables with their sources, waiting data with its values, listened universes, discovery with its universes
pub record Memory : Type 0 where
  pub data_pairs : Rows
  pub data_sources : Rows
  pub sync_pairs : Rows
  pub sync_sources : Rows
  pub rows : Rows
  pub store : List ℕ
  pub heard : List ℕ
  pub sources : Rows
  pub names : Rows
  pub pages : Rows
  pub universes : List ℕ

abbrev pub memory : Rows → Rows → Rows → Rows → Rows → List ℕ → List ℕ → Rows → Rows → Rows → List ℕ → Memory
memory dp ds sp ss rows store heard sources names pages universes = record {
  data_pairs = dp;
  data_sources = ds;
  sync_pairs = sp;
  sync_sources = ss;
  rows = rows;
  store = store;
  heard = heard;
  sources = sources;
  names = names;
  pages = pages;
  universes = universes;
}

abbrev pub sequences_in : Memory → sequences.Lent
sequences_in m = sequences.lent m.data_pairs m.data_sources m.sync_pairs m.sync_sources

-- a memory with a part anew: what a call is lent, in whatever else the caller holds
abbrev pub with_sequence_rows : sequences.Lent → Memory → Memory
with_sequence_rows n m =
    memory n.data_pairs n.data_sources n.sync_pairs n.sync_sources m.rows m.store m.heard m.sources m.names m.pages m.universes

abbrev pub with_data_rows : Rows → Rows → Memory → Memory
with_data_rows dp ds m =
    memory dp ds m.sync_pairs m.sync_sources m.rows m.store m.heard m.sources m.names m.pages m.universes

abbrev pub with_sync_rows : Rows → Rows → Memory → Memory
with_sync_rows sp ss m =
    memory m.data_pairs m.data_sources sp ss m.rows m.store m.heard m.sources m.names m.pages m.universes

abbrev pub with_waiting_rows : Rows → List ℕ → Memory → Memory
with_waiting_rows rows store m =
    memory m.data_pairs m.data_sources m.sync_pairs m.sync_sources rows store m.heard m.sources m.names m.pages m.universes

abbrev pub with_listened_rows : List ℕ → Memory → Memory
with_listened_rows heard m =
    memory m.data_pairs m.data_sources m.sync_pairs m.sync_sources m.rows m.store heard m.sources m.names m.pages m.universes

abbrev pub with_discovery_rows : Rows → Rows → Rows → List ℕ → Memory → Memory
with_discovery_rows sources names pages universes m =
    memory m.data_pairs m.data_sources m.sync_pairs m.sync_sources m.rows m.store m.heard sources names pages universes

abbrev pub state_of : Receiver → Memory → State
state_of r m = record {
  data_pairs = sequences.data_of r.sequences (sequences_in m);
  sync_pairs = sequences.sync_of r.sequences (sequences_in m);
  waiting = waiting_of r.waiting.count m.rows m.store;
  listened = listened_of r.listened m.heard;
  discovered = discovered_of r.discovery m.sources m.names m.pages m.universes;
}

abbrev pub space_in : Memory → List ℕ → Space
space_in m out = space_of out m.store m.universes

-- the receiver with a data pair of this reading in its rows
abbrev pub reading_noted : ℕ → Receiver → Receiver
reading_noted now r = record {
  sequences = record { «data» = record r.sequences.«data» { table = tables.reading_noted now r.sequences.«data».table }; sync = r.sequences.sync };
  waiting = r.waiting;
  listened = r.listened;
  discovery = r.discovery;
}

-- ── what is presupposed ──
-- the lengths that the types of the lent arrays say
pub record Sized (m : Memory) : Type 0 where
  pub data_pairs_room : length m.data_pairs ≡ most_pairs
  pub data_sources_room : length m.data_sources ≡ most_pairs
  pub sync_pairs_room : length m.sync_pairs ≡ most_pairs
  pub sync_sources_room : length m.sync_sources ≡ most_pairs
  pub rows_room : length m.rows ≡ most_waiting
  pub sources_room : length m.sources ≡ most_pages
  pub names_room : length m.names ≡ most_pages
  pub pages_room : length m.pages ≡ most_pages

-- of a store that is too short nothing is presupposed
abbrev pub KeptWaiting : ℕ → Rows → List ℕ → Type 0
KeptWaiting count rows store = store_length ≤ length store → waiting.Kept count rows store

abbrev pub KeptDiscovery : Discovery → Rows → Rows → Rows → List ℕ → Type 0
KeptDiscovery d sources names pages universes = pool_length ≤ length universes → discovery.Kept d sources names pages universes

-- "tables in their order and within their counts, and lent stores as the last call left them"
pub record Kept (r : Receiver) (m : Memory) : Type 0 where
  pub kept_sequences : sequences.Kept r.sequences (sequences_in m)
  pub kept_waiting : KeptWaiting r.waiting.count m.rows m.store
  pub kept_listened : listening.Kept r.listened m.heard
  pub kept_discovery : KeptDiscovery r.discovery m.sources m.names m.pages m.universes

-- ── the further calls ──
-- a receiver that knows nothing
pub record Begins (r : Receiver) (m : Memory) : Type 0 where
  pub state_is : state_of r m ≡ fresh
  pub kept_listened : listening.Kept r.listened m.heard
  pub kept : Sized m → Kept r m

-- 'What stops a call', column Left: of the stops of these calls all but 4 leave all
abbrev pub leaves_all : ℕ → Bool
leaves_all n = not (eqb n 0 || eqb n 4)

-- answer and state are the definition's; the next call may follow; a stop that leaves all leaves header and lent bytes; both stores stay past their 64 blocks and their 64 pages
pub record Does {A : Type 0} (call : State → State × A) (number : A → ℕ) (r : Receiver) (m : Memory) (r' : Receiver) (m' : Memory) (answer : A) : Type 0 where
  pub outcome_is : call (state_of r m) ≡ (state_of r' m', answer)
  pub kept : Kept r m → Kept r' m'
  pub all_left : leaves_all (number answer) ≡ true → (r' ≡ r) × (m' ≡ m)
  pub lent_waiting : waiting.Lent m.rows m.store m'.rows m'.store
  pub lent_pages : pool.Lent m.universes m'.universes

-- a call that touches no memory and nothing stops
pub record Becomes (call : State → State) (r r' : Receiver) (m : Memory) : Type 0 where
  pub state_is : state_of r' m ≡ call (state_of r m)
  pub kept : Kept r m → Kept r' m
