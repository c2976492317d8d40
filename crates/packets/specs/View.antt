-- The packets as the model has them, and what is done with a data packet.
-- Assumes nothing.
use Rattle.std.specs.Prelude.{List, ℕ, Bool, cond}
use Rattle.discovery.specs.Discovery.{Announcement}
use Rattle.model.specs.Packet as model
use Rattle.packets.specs.declared.DataPacket.{DataPacket}
use Rattle.packets.specs.declared.SyncPacket.{SyncPacket}
use Rattle.packets.specs.declared.DiscoveryPacket.{DiscoveryPacket}
use Rattle.merge.specs.declared.DmxData.{DmxData}
use Rattle.merge.specs.declared.SourceCid.TheVariants.{Of}
use Rattle.packets.specs.declared.Course.{Course}
use Rattle.packets.specs.declared.Course.TheVariants as course

abbrev pub packet_of : DataPacket → List ℕ → model.DataPacket
packet_of p vs = record {
  cid = p.cid;
  universe = p.universe;
  address = p.address;
  priority = p.priority;
  sequence = p.sequence.0;
  preview = p.preview;
  terminated = p.terminated;
  force_synchronization = p.force_synchronization;
  values = vs;
}

abbrev pub sync_of : SyncPacket → model.SyncPacket
sync_of y = record { cid = y.cid; address = y.address; sequence = y.sequence.0 }

abbrev pub announcement_of : DiscoveryPacket → List ℕ → List ℕ → Announcement
announcement_of d name list = record { cid = d.cid; name = name; page = d.page; last_page = d.last_page; universes = list }

-- a data packet as data received at this reading
abbrev pub data_of : DataPacket → ℕ → DmxData
data_of p now = record {
  universe = p.universe;
  sync_uni = p.address;
  priority = p.priority;
  src_cid = Of p.cid;
  preview = p.preview;
  recv_timestamp = now;
}

-- 3: "Terminated .. Not listened: nothing. Data pair table.", in this order
abbrev pub course_of : Bool → Bool → Course
course_of terminated listening = cond terminated course.End (cond listening course.Arrive course.Pass)
