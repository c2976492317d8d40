-- What a caller did with a receiver and saw of it: calls whose contracts hold, each given what the last one left.
-- Assumes nothing.
use Rattle.std.specs.Prelude.{◌≡◌, List, [], ◌∷◌, map, ℕ, zero, suc, take}
use Rattle.settings.specs.declared.Settings.{Settings}
use Rattle.model.specs.declared.StepAnswer.{StepAnswer}
use Rattle.model.specs.declared.StepAnswer.TheVariants as says
use Rattle.model.specs.declared.ListenAnswer.{ListenAnswer}
use Rattle.model.specs.declared.MuteAnswer.{MuteAnswer}
use Rattle.model.specs.Answer.{step_number, step_values, listen_number, mute_number}
use Rattle.model.specs.Packet.{Packet}
use Rattle.model.specs.State.{State}
use Rattle.model.specs.Step.{Space}
use Rattle.model.specs.Calls.{listen_call, mute_call}
use Rattle.reorder.specs.Demand.{Timed, Telling, listen, mute, name_of, Answered}
use Rattle.receiver.specs.declared.Receiver.{Receiver}
use Rattle.receiver.specs.View.{Memory, state_of, space_in, Begins, Does}
use Rattle.handlers.specs.View.{Steps}

-- "released bytes are the output within that length"
abbrev pub byte_length : StepAnswer → ℕ
byte_length says.Nothing = 0
byte_length (says.Released r b) = b
byte_length (says.TooLong n) = 0
byte_length (says.IllegalUniverse u) = 0
byte_length (says.UniverseTimeout c u) = 0
byte_length (says.UniverseTerminated c u) = 0
byte_length (says.SourcesExceeded n) = 0
byte_length (says.OutOfSequence a l d) = 0
byte_length says.DmxMergeError = 0
byte_length says.SourceDiscovered = 0
byte_length says.PairsFull = 0
byte_length says.ListenedFull = 0
byte_length says.WaitingFull = 0
byte_length says.PagesFull = 0
byte_length (says.TooShort n) = 0
byte_length (says.Repeated a l d) = 0

-- what the caller sees of a step: the answer's number and values, and the output within the byte length that the answer names
abbrev pub seen : Packet → StepAnswer → List ℕ → Answered
seen p a out = record { number = step_number a; values = step_values (name_of p) a; bytes = take (byte_length a) out }

-- ── the steps ──
-- one call of a handler: what it was given, what it gave, and that its contract holds
pub record Handling (S : Settings) : Type 0 where
  pub timed : Timed
  pub receiver : Receiver
  pub lent : Memory
  pub out : List ℕ
  pub receiver' : Receiver
  pub lent' : Memory
  pub out' : List ℕ
  pub answer : StepAnswer
  pub contract : Steps S timed.reading timed.packet receiver lent out receiver' lent' out' answer

module _ {S : Settings} where
  -- "Each step gets the state and stores that the last one left; nothing else writes them."
  abbrev pub Linked : Receiver → Memory → List (Handling S) → Type 0
  Linked r m [] = Unit {0}
  Linked r m (h ∷ hs) = (h.receiver ≡ r) × (h.lent ≡ m) × Linked h.receiver' h.lent' hs

  abbrev pub packets : List (Handling S) → List Timed
  packets hs = map (λ (h : Handling S). h.timed) hs

  abbrev pub all_seen : List (Handling S) → List Answered
  all_seen hs = map (λ (h : Handling S). seen h.timed.packet h.answer h.out') hs

  -- the space that step number i was lent
  unfoldable pub lent_to : List (Handling S) → ℕ → Space
  lent_to [] i = record { output = 0; waiting_values = 0; page_universes = 0 }
  lent_to (h ∷ hs) zero = space_in h.lent h.out
  lent_to (h ∷ hs) (suc i) = lent_to hs i

  -- the state at the end
  unfoldable pub left_by : Receiver → Memory → List (Handling S) → State
  left_by r m [] = state_of r m
  left_by r m (h ∷ hs) = left_by h.receiver' h.lent' hs

-- ── what the receiver was told before ──
pub record ListenedTo (us : List ℕ) (r : Receiver) (m : Memory) (r' : Receiver) (m' : Memory) : Type 0 where
  pub answer : ListenAnswer
  pub contract : Does (listen_call us) listen_number r m r' m' answer

pub record Muted (u : ℕ) (r : Receiver) (m : Memory) (r' : Receiver) (m' : Memory) : Type 0 where
  pub answer : MuteAnswer
  pub contract : Does (mute_call u) mute_number r m r' m' answer

abbrev pub Told : Telling → Receiver → Memory → Receiver → Memory → Type 0
Told (listen us) r m r' m' = ListenedTo us r m r' m'
Told (mute u) r m r' m' = Muted u r m r' m'

-- a call of `listen_universes` or `mute_universe`
pub record TellingTo : Type 0 where
  pub telling : Telling
  pub receiver : Receiver
  pub lent : Memory
  pub receiver' : Receiver
  pub lent' : Memory
  pub contract : Told telling receiver lent receiver' lent'

abbrev pub tellings : List TellingTo → List Telling
tellings ts = map (λ (t : TellingTo). t.telling) ts

-- the calls, from r and m to r' and m'
abbrev pub Tells : Receiver → Memory → List TellingTo → Receiver → Memory → Type 0
Tells r m [] r' m' = (r ≡ r') × (m ≡ m')
Tells r m (t ∷ ts) r' m' = (t.receiver ≡ r) × (t.lent ≡ m) × Tells t.receiver' t.lent' ts r' m'

-- "each from a fresh receiver": made fresh, and then told ts
pub record Prepared (ts : List Telling) (r : Receiver) (m : Memory) : Type 0 where
  pub fresh_receiver : Receiver
  pub fresh_memory : Memory
  pub begins : Begins fresh_receiver fresh_memory
  pub calls : List TellingTo
  pub told : tellings calls ≡ ts
  pub tells : Tells fresh_receiver fresh_memory calls r m
