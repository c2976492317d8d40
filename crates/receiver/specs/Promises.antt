-- The lent memory in a contract, named part by part once: as a call finds it (`requires`), and at its entry and exit (`ensures`).
-- A part is lent to be changed, unless the word says that it is lent shared.
-- Assumes nothing.
use Rattle.std.specs.Prelude.{List, ℕ}
use Rattle.std.specs.Borrow.{Bor, MutBor}
use denote.Triple.Both.{Both}
use Rattle.laws.specs.Lent.{Part, SharedPart}
use Rattle.pair_rows.specs.View.{Rows}
use Rattle.sequences.specs.Promises.{sequence_rows_in}
use Rattle.receiver.specs.View.{Memory, memory, with_sequence_rows, with_data_rows, with_sync_rows, with_waiting_rows, with_listened_rows, with_discovery_rows}

-- ── as a call finds it ──
-- the whole memory
abbrev pub lent_in : MutBor Rows → MutBor Rows → MutBor Rows → MutBor Rows → MutBor Rows → MutBor (List ℕ) → MutBor (List ℕ) → MutBor Rows → MutBor Rows → MutBor Rows → MutBor (List ℕ) → Memory
lent_in dp ds sp ss rows store heard sources names pages universes =
    memory dp.now ds.now sp.now ss.now rows.now store.now heard.now sources.now names.now pages.now universes.now

-- the same where discovery's sources and their names are lent shared, as to a data packet
abbrev pub data_packet_lent_in : MutBor Rows → MutBor Rows → MutBor Rows → MutBor Rows → MutBor Rows → MutBor (List ℕ) → MutBor (List ℕ) → Bor Rows → Bor Rows → MutBor Rows → MutBor (List ℕ) → Memory
data_packet_lent_in dp ds sp ss rows store heard sources names pages universes =
    memory dp.now ds.now sp.now ss.now rows.now store.now heard.now sources.now names.now pages.now universes.now

-- the same where the listened universes and discovery are lent shared, as to a synchronisation packet
abbrev pub sync_packet_lent_in : MutBor Rows → MutBor Rows → MutBor Rows → MutBor Rows → MutBor Rows → MutBor (List ℕ) → Bor (List ℕ) → Bor Rows → Bor Rows → Bor Rows → Bor (List ℕ) → Memory
sync_packet_lent_in dp ds sp ss rows store heard sources names pages universes =
    memory dp.now ds.now sp.now ss.now rows.now store.now heard.now sources.now names.now pages.now universes.now

-- the same where the listened universes are lent shared, as to a discovery packet
abbrev pub discovery_packet_lent_in : MutBor Rows → MutBor Rows → MutBor Rows → MutBor Rows → MutBor Rows → MutBor (List ℕ) → Bor (List ℕ) → MutBor Rows → MutBor Rows → MutBor Rows → MutBor (List ℕ) → Memory
discovery_packet_lent_in dp ds sp ss rows store heard sources names pages universes =
    memory dp.now ds.now sp.now ss.now rows.now store.now heard.now sources.now names.now pages.now universes.now

-- ── at entry and at exit ──
abbrev pub Lent : Type 0
Lent = Both Memory Memory

-- the whole memory
abbrev pub lent : Part Rows → Part Rows → Part Rows → Part Rows → Part Rows → Part (List ℕ) → Part (List ℕ) → Part Rows → Part Rows → Part Rows → Part (List ℕ) → Lent
lent dp ds sp ss rows store heard sources names pages universes = record {
  entry = lent_in dp.entry ds.entry sp.entry ss.entry rows.entry store.entry heard.entry sources.entry names.entry pages.entry universes.entry;
  exit = lent_in dp.exit ds.exit sp.exit ss.exit rows.exit store.exit heard.exit sources.exit names.exit pages.exit universes.exit;
}

-- the same where discovery's sources and their names are lent shared, as to a data packet
abbrev pub data_packet_lent : Part Rows → Part Rows → Part Rows → Part Rows → Part Rows → Part (List ℕ) → Part (List ℕ) → SharedPart Rows → SharedPart Rows → Part Rows → Part (List ℕ) → Lent
data_packet_lent dp ds sp ss rows store heard sources names pages universes = record {
  entry = data_packet_lent_in dp.entry ds.entry sp.entry ss.entry rows.entry store.entry heard.entry sources.entry names.entry pages.entry universes.entry;
  exit = data_packet_lent_in dp.exit ds.exit sp.exit ss.exit rows.exit store.exit heard.exit sources.exit names.exit pages.exit universes.exit;
}

-- the same where the listened universes and discovery are lent shared, as to a synchronisation packet
abbrev pub sync_packet_lent : Part Rows → Part Rows → Part Rows → Part Rows → Part Rows → Part (List ℕ) → SharedPart (List ℕ) → SharedPart Rows → SharedPart Rows → SharedPart Rows → SharedPart (List ℕ) → Lent
sync_packet_lent dp ds sp ss rows store heard sources names pages universes = record {
  entry = sync_packet_lent_in dp.entry ds.entry sp.entry ss.entry rows.entry store.entry heard.entry sources.entry names.entry pages.entry universes.entry;
  exit = sync_packet_lent_in dp.exit ds.exit sp.exit ss.exit rows.exit store.exit heard.exit sources.exit names.exit pages.exit universes.exit;
}

-- the same where the listened universes are lent shared, as to a discovery packet
abbrev pub discovery_packet_lent : Part Rows → Part Rows → Part Rows → Part Rows → Part Rows → Part (List ℕ) → SharedPart (List ℕ) → Part Rows → Part Rows → Part Rows → Part (List ℕ) → Lent
discovery_packet_lent dp ds sp ss rows store heard sources names pages universes = record {
  entry = discovery_packet_lent_in dp.entry ds.entry sp.entry ss.entry rows.entry store.entry heard.entry sources.entry names.entry pages.entry universes.entry;
  exit = discovery_packet_lent_in dp.exit ds.exit sp.exit ss.exit rows.exit store.exit heard.exit sources.exit names.exit pages.exit universes.exit;
}

-- a call that is lent some parts only, in whatever else the caller holds
abbrev pub sequences_lent : Part Rows → Part Rows → Part Rows → Part Rows → Lent → Lent
sequences_lent dp ds sp ss m = record {
  entry = with_sequence_rows (sequence_rows_in dp.entry ds.entry sp.entry ss.entry) m.entry;
  exit = with_sequence_rows (sequence_rows_in dp.exit ds.exit sp.exit ss.exit) m.exit;
}

-- the data pairs, with their sources lent shared
abbrev pub data_lent : Part Rows → SharedPart Rows → Lent → Lent
data_lent dp ds m = record {
  entry = with_data_rows dp.entry.now ds.entry.now m.entry;
  exit = with_data_rows dp.exit.now ds.exit.now m.exit;
}

abbrev pub sync_lent : Part Rows → Part Rows → Lent → Lent
sync_lent sp ss m = record {
  entry = with_sync_rows sp.entry.now ss.entry.now m.entry;
  exit = with_sync_rows sp.exit.now ss.exit.now m.exit;
}

abbrev pub waiting_lent : Part Rows → Part (List ℕ) → Lent → Lent
waiting_lent rows store m = record {
  entry = with_waiting_rows rows.entry.now store.entry.now m.entry;
  exit = with_waiting_rows rows.exit.now store.exit.now m.exit;
}

abbrev pub listened_lent : Part (List ℕ) → Lent → Lent
listened_lent heard m = record {
  entry = with_listened_rows heard.entry.now m.entry;
  exit = with_listened_rows heard.exit.now m.exit;
}

-- the same where they are lent shared
abbrev pub listened_lent_shared : SharedPart (List ℕ) → Lent → Lent
listened_lent_shared heard m = record {
  entry = with_listened_rows heard.entry.now m.entry;
  exit = with_listened_rows heard.exit.now m.exit;
}

abbrev pub discovery_lent : Part Rows → Part Rows → Part Rows → Part (List ℕ) → Lent → Lent
discovery_lent sources names pages universes m = record {
  entry = with_discovery_rows sources.entry.now names.entry.now pages.entry.now universes.entry.now m.entry;
  exit = with_discovery_rows sources.exit.now names.exit.now pages.exit.now universes.exit.now m.exit;
}

-- the same where the sources and their names are lent shared
abbrev pub discovery_lent_sources_shared : SharedPart Rows → SharedPart Rows → Part Rows → Part (List ℕ) → Lent → Lent
discovery_lent_sources_shared sources names pages universes m = record {
  entry = with_discovery_rows sources.entry.now names.entry.now pages.entry.now universes.entry.now m.entry;
  exit = with_discovery_rows sources.exit.now names.exit.now pages.exit.now universes.exit.now m.exit;
}
