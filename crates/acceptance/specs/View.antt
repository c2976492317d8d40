-- What an accepted data packet does: for every state that has these tables, the model's definition gives what the code leaves and answers.
-- Assumes nothing.
use Rattle.std.specs.Prelude.{◌≡◌, List, [], ◌∷◌, ℕ, length}
use Rattle.settings.specs.declared.Settings.{Settings}
use Rattle.merge.specs.Merge.{Dmx}
use Rattle.waiting.specs.Waiting.{cleared}
use Rattle.waiting.specs.Records.{records, over}
use Rattle.waiting_store.specs.Entries.{waiting_of}
use Rattle.waiting_store.specs.Entries as waiting
use Rattle.waiting_calls.specs.Calls.{Yields}
use Rattle.listening.specs.declared.Listened.{Listened}
use Rattle.listening.specs.View.{listened_of}
use Rattle.listening.specs.View as listening
use Rattle.pair_rows.specs.View.{Rows}
use Rattle.model.specs.declared.StepAnswer.{StepAnswer}
use Rattle.model.specs.Packet as model
use Rattle.model.specs.State.{State}
use Rattle.model.specs.Step.{with_waiting, with_listened, dmx, synchronised, accepted}

-- the waiting data and the listened universes, with their headers
pub record Lent : Type 0 where
  pub count : ℕ
  pub listened : Listened
  pub rows : Rows
  pub store : List ℕ
  pub heard : List ℕ

abbrev pub lent_of : ℕ → Listened → Rows → List ℕ → List ℕ → Lent
lent_of n l rows store heard = record { count = n; listened = l; rows = rows; store = store; heard = heard }

abbrev pub waits : Lent → List Dmx
waits m = waiting_of m.count m.rows m.store

abbrev pub hears : Lent → List ℕ
hears m = listened_of m.listened m.heard

-- a packet released at once
pub record Releases (now : ℕ) (d : model.DataPacket) (n : ℕ) (rows : Rows) (store out : List ℕ) (n' : ℕ) (rows' : Rows) (store' out' : List ℕ) (bytes : ℕ) : Type 0 where
  pub yields : Yields rows store rows' store' n' (cleared d.universe (waiting_of n rows store)).0
  pub written : out' ≡ over (records (dmx now d ∷ [])) out
  pub byte_count : bytes ≡ length (records (dmx now d ∷ []))

-- the tables after the call, ready for the next, in memory that is else unchanged
pub record Ready (m m' : Lent) : Type 0 where
  pub kept_waiting : waiting.Kept m'.count m'.rows m'.store
  pub lent_waiting : waiting.Lent m.rows m.store m'.rows m'.store
  pub kept_listened : listening.Kept m'.listened m'.heard

-- a packet held
pub record Holds (S : Settings) (now : ℕ) (d : model.DataPacket) (m m' : Lent) (answer : StepAnswer) : Type 0 where
  pub outcome_is : (s : State) → s.waiting ≡ waits m → s.listened ≡ hears m
      → synchronised S now d s ≡ record { state = with_waiting (waits m') (with_listened (hears m') s); answer = answer; released = [] }
  pub ready : Ready m m'

-- an accepted data packet
pub record Accepts (S : Settings) (now : ℕ) (d : model.DataPacket) (m : Lent) (out : List ℕ) (m' : Lent) (out' : List ℕ) (answer : StepAnswer) : Type 0 where
  pub released : List Dmx
  pub outcome_is : (s : State) → s.waiting ≡ waits m → s.listened ≡ hears m
      → accepted S now d s ≡ record { state = with_waiting (waits m') (with_listened (hears m') s); answer = answer; released = released }
  pub written : out' ≡ over (records released) out
  pub ready : Ready m m'
