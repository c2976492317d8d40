-- What a step promises.
-- Assumes nothing.
use Rattle.std.specs.Prelude.{◌≡◌, List, ℕ, Option, Some, None}
use Rattle.std.proofs.Math.Option.{some}
use Rattle.rules.specs.Answer.{first_of}
use Rattle.settings.specs.declared.Settings.{Settings}
use Rattle.merge.specs.Merge.{Dmx}
use Rattle.waiting.specs.Records.{records, over}
use Rattle.waiting_store.specs.Entries as waiting
use Rattle.discovery_pages.specs.Lent as pool
use Rattle.model.specs.declared.StepAnswer.{StepAnswer}
use Rattle.model.specs.declared.StepAnswer.TheVariants as says
use Rattle.model.specs.Packet.{DataPacket, Packet, data_packet, too_long}
use Rattle.model.specs.Step.{too_short, step}
use Rattle.receiver.specs.declared.Receiver.{Receiver}
use Rattle.receiver.specs.View.{Memory, state_of, space_in, reading_noted, Kept}

-- answer, state and output are the definition's; the next call may follow; 15 and 1 leave all, header and lent bytes
pub record Steps (S : Settings) (now : ℕ) (p : Packet) (r : Receiver) (m : Memory) (out : List ℕ) (r' : Receiver) (m' : Memory) (out' : List ℕ) (answer : StepAnswer) : Type 0 where
  pub released : List Dmx
  pub outcome_is : step (space_in m out) S now p (state_of r m) ≡ record { state = state_of r' m'; answer = answer; released = released }
  pub written : out' ≡ over (records released) out
  pub kept : Kept r' m'
  pub all_left : (n : ℕ) → first_of (too_short (space_in m out)) (too_long p) ≡ some n → (r' ≡ r) × (m' ≡ m)
  pub lent_waiting : waiting.Lent m.rows m.store m'.rows m'.store
  pub lent_pages : pool.Lent m.universes m'.universes

-- the short way of a data packet: a whole step, or all is left
pub record StepsShort (S : Settings) (now : ℕ) (d : DataPacket) (r : Receiver) (m : Memory) (out : List ℕ) (m' : Memory) (out' : List ℕ) (answer : Option ℕ) : Type 0 where
  pub steps : (bytes : ℕ) → answer ≡ Some bytes → Kept r m → Steps S now (data_packet d) r m out (reading_noted now r) m' out' (says.Released 1 bytes)
  pub left : answer ≡ None → (m' ≡ m) × (out' ≡ out)
