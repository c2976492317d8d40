-- The packets that a step takes, with the parts that the caller lends.
-- Assumes nothing.
use Rattle.std.specs.Prelude.{Bool, cond, List, ℕ, ltb, length}
use Rattle.std.proofs.Math.Option.{Option, none, some}
use Rattle.rules.specs.declared.Cid.{Cid}
use Rattle.rules.specs.Answer.{first_of}
use Rattle.merge.specs.Merge.{most_values}
use Rattle.discovery.specs.Discovery.{Announcement, most_name, most_universes}

-- E1.31 6.2: a data packet. Force_Synchronization (option bit 5) is read and not used, as in the crate
pub record DataPacket : Type 0 where
  pub cid : Cid
  pub universe : ℕ
  pub address : ℕ
  pub priority : ℕ
  pub sequence : ℕ
  pub preview : Bool
  pub terminated : Bool
  pub force_synchronization : Bool
  pub values : List ℕ

-- E1.31 6.3: a synchronisation packet
pub record SyncPacket : Type 0 where
  pub cid : Cid
  pub address : ℕ
  pub sequence : ℕ

-- E1.31 6.4 and 8: a discovery packet is `Announcement`
pub data Packet : Type 0 where
  data_packet : DataPacket → Packet
  sync_packet : SyncPacket → Packet
  discovery_packet : Announcement → Packet

-- "values over 513, name over 63, discovery list over 512 | 1 | length"; "name before list"
unfoldable pub over : ℕ → List ℕ → Option ℕ
over most part = cond (ltb most (length part)) (some (length part)) none

unfoldable pub too_long : Packet → Option ℕ
too_long (data_packet d) = over most_values d.values
too_long (sync_packet y) = none
too_long (discovery_packet a) = first_of (over most_name a.name) (over most_universes a.universes)

-- the source of a packet
abbrev pub sender : Packet → Cid
sender (data_packet d) = d.cid
sender (sync_packet y) = y.cid
sender (discovery_packet a) = a.cid
