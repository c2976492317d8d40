-- What each kind of packet does behind the opening.
-- Assumes nothing.
use Rattle.std.specs.Prelude.{◌≡◌, List, ℕ, Option, Some, None}
use Rattle.rules.specs.declared.Cid.{Cid}
use Rattle.settings.specs.declared.Settings.{Settings}
use Rattle.merge.specs.Merge.{Dmx}
use Rattle.waiting.specs.Records.{records, over}
use Rattle.waiting_store.specs.Entries as waiting
use Rattle.discovery_pages.specs.Lent as pool
use Rattle.model.specs.declared.StepAnswer.{StepAnswer}
use Rattle.model.specs.declared.StepAnswer.TheVariants as says
use Rattle.model.specs.Packet.{DataPacket, Packet, data_packet}
use Rattle.model.specs.Step.{terminated, packet_step}
use Rattle.receiver.specs.declared.Receiver.{Receiver}
use Rattle.receiver.specs.View.{Memory, state_of, reading_noted, Kept}

-- a stream that ends: both tables and the listed source's pages are the definition's
pub record Ends (c : Cid) (u : ℕ) (r : Receiver) (m : Memory) (r' : Receiver) (m' : Memory) : Type 0 where
  pub state_is : (d : DataPacket) → d.cid ≡ c → d.universe ≡ u → terminated d (state_of r m) ≡ state_of r' m'
  pub kept : Kept r m → Kept r' m'
  pub lent_pages : pool.Lent m.universes m'.universes

-- 3 to 5: what a packet does after the poll
pub record Takes (S : Settings) (now : ℕ) (p : Packet) (r : Receiver) (m : Memory) (out : List ℕ) (r' : Receiver) (m' : Memory) (out' : List ℕ) (answer : StepAnswer) : Type 0 where
  pub released : List Dmx
  pub outcome_is : packet_step S now p (state_of r m) ≡ record { state = state_of r' m'; answer = answer; released = released }
  pub written : out' ≡ over (records released) out
  pub kept : Kept r m → Kept r' m'
  pub lent_waiting : waiting.Lent m.rows m.store m'.rows m'.store
  pub lent_pages : pool.Lent m.universes m'.universes

-- 3, the short way: the packet is released while nothing waits; or all is left
pub record TakesShort (S : Settings) (now : ℕ) (d : DataPacket) (r : Receiver) (m : Memory) (out : List ℕ) (m' : Memory) (out' : List ℕ) (answer : Option ℕ) : Type 0 where
  pub takes : (bytes : ℕ) → answer ≡ Some bytes → waiting.Kept r.waiting.count m.rows m.store
      → Takes S now (data_packet d) r m out (reading_noted now r) m' out' (says.Released 1 bytes)
  pub left : answer ≡ None → (m' ≡ m) × (out' ≡ out)
