-- What an arriving packet does behind the poll: for every state that has these tables, the model's definition gives what the code leaves and answers.
-- Assumes nothing.
use Rattle.std.specs.Prelude.{◌≡◌, List, ℕ, Option, Some, None}
use Rattle.settings.specs.declared.Settings.{Settings}
use Rattle.merge.specs.Merge.{Dmx}
use Rattle.waiting.specs.Records.{records, over}
use Rattle.waiting_store.specs.Entries.{waiting_of}
use Rattle.waiting_store.specs.Entries as waiting
use Rattle.listening.specs.View as listening
use Rattle.pair_tables.specs.declared.PairTable.{PairTable}
use Rattle.pairs.specs.Table.{Table}
use Rattle.pair_rows.specs.View.{Rows}
use Rattle.pair_tables.specs.View.{table_of}
use Rattle.pair_tables.specs.View as tables
use Rattle.model.specs.declared.StepAnswer.{StepAnswer}
use Rattle.model.specs.declared.StepAnswer.TheVariants as says
use Rattle.model.specs.Packet as model
use Rattle.model.specs.State.{State}
use Rattle.model.specs.Step.{with_data, with_sync, with_waiting, with_listened, data_arrival, sync_arrival}
use Rattle.acceptance.specs.View.{Lent, waits, hears, Ready}

-- a pair table with its rows
pub record Counted : Type 0 where
  pub table : PairTable
  pub pairs : Rows
  pub sources : Rows

abbrev pub rows_of : PairTable → Rows → Rows → Counted
rows_of t ps ss = record { table = t; pairs = ps; sources = ss }

abbrev pub counts : Counted → Table
counts k = table_of k.table k.pairs k.sources

abbrev pub KeptCounted : Counted → Type 0
KeptCounted k = tables.Kept k.table k.pairs k.sources

-- an arriving data packet
pub record Arrives (S : Settings) (now : ℕ) (d : model.DataPacket) (k : Counted) (m : Lent) (out : List ℕ) (k' : Counted) (m' : Lent) (out' : List ℕ) (answer : StepAnswer) : Type 0 where
  pub released : List Dmx
  pub outcome_is : (s : State) → s.data_pairs ≡ counts k → s.waiting ≡ waits m → s.listened ≡ hears m
      → data_arrival S now d s ≡ record { state = with_data (counts k') (with_waiting (waits m') (with_listened (hears m') s)); answer = answer; released = released }
  pub written : out' ≡ over (records released) out
  pub kept : KeptCounted k'
  pub ready : Ready m m'

-- an arriving synchronisation packet
pub record Synchronises (S : Settings) (now : ℕ) (y : model.SyncPacket) (k : Counted) (n : ℕ) (rows : Rows) (store out : List ℕ) (k' : Counted) (n' : ℕ) (rows' : Rows) (store' out' : List ℕ) (answer : StepAnswer) : Type 0 where
  pub released : List Dmx
  pub outcome_is : (s : State) → s.sync_pairs ≡ counts k → s.waiting ≡ waiting_of n rows store
      → sync_arrival S now y s ≡ record { state = with_sync (counts k') (with_waiting (waiting_of n' rows' store') s); answer = answer; released = released }
  pub written : out' ≡ over (records released) out
  pub kept : KeptCounted k'
  pub kept_waiting : waiting.Kept n' rows' store'
  pub lent_waiting : waiting.Lent rows store rows' store'

-- the short way: the packet arrives and is released while nothing waits, whatever waiting rows and listened universes there are, and those stay; or all is left
pub record Shortens (S : Settings) (now : ℕ) (d : model.DataPacket) (t : PairTable) (n : ℕ) (pairs sources : Rows) (out : List ℕ) (pairs' : Rows) (out' : List ℕ) (answer : Option ℕ) : Type 0 where
  pub arrives : (bytes : ℕ) → answer ≡ Some bytes → (m : Lent) → m.count ≡ n → waiting.Kept m.count m.rows m.store → listening.Kept m.listened m.heard
      → Arrives S now d (rows_of t pairs sources) m out (rows_of (tables.reading_noted now t) pairs' sources) m out' (says.Released 1 bytes)
  pub left : answer ≡ None → (pairs' ≡ pairs) × (out' ≡ out)
