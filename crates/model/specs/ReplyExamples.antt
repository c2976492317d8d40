-- A computed example of what calls reply: one call of each kind, two of them stopped.
-- Assumes nothing.
use Rattle.std.specs.Prelude.{false, [], ◌∷◌}
use Rattle.rules.specs.declared.Cid.{Cid}
use Rattle.model.specs.Packet.{DataPacket}

abbrev pub desk : Cid
desk = record { hi = 0; lo = 1 }

-- an unsynchronised packet for universe 1
abbrev pub packet : DataPacket
packet = record {
  cid = desk;
  universe = 1;
  address = 0;
  priority = 100;
  sequence = 0;
  preview = false;
  terminated = false;
  force_synchronization = false;
  values = 0 ∷ 255 ∷ [];
}
