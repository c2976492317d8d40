-- The step under the settings of demand 3, without the stops for full tables, as an effect on each part of the state;
-- packets of different sources at one reading commute, unless one is a synchronisation packet of the other's address.
-- Assumes nothing.
use Rattle.std.specs.Prelude.{◌≡◌, ◌≢◌, true, cond, ◌&&◌, List, [], ◌∷◌, ℕ, eqb, length}
use Rattle.std.proofs.Math.Option.{Option, none, some}
use Rattle.std.proofs.Math.Bool.{not}
use Rattle.rules.specs.declared.Cid.{Cid}
use Rattle.settings.specs.declared.Settings.{Settings}
use Rattle.pairs.specs.declared.Pair.{Pair}
use Rattle.pairs.specs.declared.Checked.{Checked}
use Rattle.pairs.specs.Table as pairs
use Rattle.pairs.specs.Table.{Table, Key, key, key_of, key_before, pair_at, live, recorded, without, sequence_stop}
use Rattle.merge.specs.Merge.{Dmx}
use Rattle.waiting.specs.Waiting as waiting
use Rattle.waiting.specs.Records.{records}
use Rattle.waiting.specs.Laws.{Move, rest, wait, clear, release, move}
use Rattle.discovery.specs.Discovery as discovery
use Rattle.discovery.specs.Discovery.{Discovered, Announcement, Source, Note, noted, noting, lookup, ended}
use Rattle.discovery.specs.Laws.{About, Alike}
use Rattle.model.specs.declared.StepAnswer.{StepAnswer}
use Rattle.model.specs.declared.StepAnswer.TheVariants as says
use Rattle.model.specs.Packet.{DataPacket, SyncPacket, Packet, data_packet, sync_packet, discovery_packet, sender}
use Rattle.model.specs.State.{State}
use Rattle.model.specs.Step as model
use Rattle.reorder.specs.Demand.{Timed, Free}

-- what a step tells: its answer, and the data that it releases
pub record Told : Type 0 where
  pub answer : StepAnswer
  pub released : List Dmx

-- ── one change for each part of the state ──
pub data Change : Type 0 where
  same : Change
  put : Pair → Change
  drop : Key → Change

unfoldable pub change : Change → Table → Table
change same t = t
change (put p) t = recorded p t
change (drop k) t = without k t

pub data News : Type 0 where
  quiet : News
  note : Note → News
  forget : Cid → ℕ → News

unfoldable pub learn : News → Discovered → Discovered
learn quiet d = d
learn (note n) d = noting n d
learn (forget c u) d = ended c u d

pub record Effect : Type 0 where
  pub to_data : Change
  pub to_sync : Change
  pub to_waiting : Move
  pub to_discovered : News
  pub told : Told

abbrev pub say : StepAnswer → Told
say a = record { answer = a; released = [] }

abbrev pub only : StepAnswer → Effect
only a = record { to_data = same; to_sync = same; to_waiting = rest; to_discovered = quiet; told = say a }

unfoldable pub apply : Effect → State → State
apply e s = record {
  data_pairs = change e.to_data s.data_pairs;
  sync_pairs = change e.to_sync s.sync_pairs;
  waiting = move e.to_waiting s.waiting;
  listened = s.listened;
  discovered = learn e.to_discovered s.discovered;
}

-- the poll, timeout announcements being off
unfoldable pub polled : ℕ → State → State
polled now s = record {
  data_pairs = pairs.swept now s.data_pairs;
  sync_pairs = pairs.swept now s.sync_pairs;
  waiting = waiting.swept now s.waiting;
  listened = s.listened;
  discovered = s.discovered;
}

-- ── the effect of a packet ──
unfoldable pub unless : Option Checked → Effect → Effect
unless none e = e
unless (some a) e = only (model.stopped a)

abbrev pub if_known : Option Pair → Change → Change
if_known none c = same
if_known (some p) c = c

unfoldable pub ending : Settings → DataPacket → Option Pair → Effect
ending S d o = record {
  to_data = drop (key d.cid d.universe);
  to_sync = if_known o (drop (key d.cid d.universe));
  to_waiting = rest;
  to_discovered = forget d.cid d.universe;
  told = say (cond S.announce_stream_termination (says.UniverseTerminated d.cid d.universe) says.Nothing);
}

-- a data packet whose sequence is stored
unfoldable pub arriving : ℕ → DataPacket → Move → Told → Effect
arriving now d m t = record { to_data = put (model.data_pair now d); to_sync = same; to_waiting = m; to_discovered = quiet; told = t }

-- what a release tells
unfoldable pub releasing : List Dmx → Told
releasing [] = say says.Nothing
releasing (d ∷ ds) = record { answer = says.Released (length (d ∷ ds)) (length (records (d ∷ ds))); released = d ∷ ds }

unfoldable pub data_effect : Settings → ℕ → DataPacket → Option Pair → Effect
data_effect S now d o =
    cond (d.preview && not S.process_preview_data) (only says.Nothing)
    (cond d.terminated (ending S d o)
    (unless (sequence_stop d.sequence o)
    (cond (eqb d.address 0) (arriving now d (clear d.universe) (releasing (model.dmx now d ∷ [])))
    (arriving now d (wait (model.dmx now d)) (say says.Nothing)))))

unfoldable pub syncing : ℕ → SyncPacket → List Dmx → Effect
syncing now y ds = record { to_data = same; to_sync = put (model.sync_pair now y); to_waiting = release y.address; to_discovered = quiet; told = releasing ds }

unfoldable pub sync_effect : ℕ → SyncPacket → Option Pair → List Dmx → Effect
sync_effect now y o ds = cond (eqb y.address 0) (only says.Nothing) (unless (sequence_stop y.sequence o) (syncing now y ds))

unfoldable pub discovery_effect : Settings → Note → Effect
discovery_effect S n = record { to_data = same; to_sync = same; to_waiting = rest; to_discovered = note n; told = say (model.listed S (discovery.told n)) }

unfoldable pub effect : Settings → ℕ → Packet → State → Effect
effect S now (data_packet d) s = data_effect S now d (pair_at (key d.cid d.universe) s.data_pairs.pairs)
effect S now (sync_packet y) s = sync_effect now y (pair_at (key y.cid y.address) s.sync_pairs.pairs) (waiting.released now y.address s.waiting)
effect S now (discovery_packet a) s = discovery_effect S (noted now a (lookup a.cid s.discovered.partial))

-- One step: the poll, then the packet.
unfoldable pub step : Settings → State → Timed → State × Told
step S s p =
    let t = polled p.reading s in
    let e = effect S p.reading p.packet t in
    (apply e t, e.told)

-- ── demand 3's words ──
-- packets that may be moved past one another
pub record Indep (p q : Timed) : Type 0 where
  pub same_reading : p.reading ≡ q.reading
  pub other_source : sender p.packet ≢ sender q.packet
  pub free : Free p.packet q.packet

-- "equal sequence records, waiting data and listened universes, and equal discovery records source by source"
pub record Same (s t : State) : Type 0 where
  pub same_data : s.data_pairs ≡ t.data_pairs
  pub same_sync : s.sync_pairs ≡ t.sync_pairs
  pub same_waiting : s.waiting ≡ t.waiting
  pub same_listened : s.listened ≡ t.listened
  pub same_discovered : Alike s.discovered t.discovered

-- ── changes of pair tables ──
-- the change is one of this source's pairs
abbrev pub Local : Cid → Change → Type 0
Local c same = Unit {0}
Local c (put p) = p.cid ≡ c
Local c (drop k) = k.cid ≡ c

-- nothing that it puts in is expired
abbrev pub Fresh : ℕ → Change → Type 0
Fresh now same = Unit {0}
Fresh now (put p) = live now p ≡ true
Fresh now (drop k) = Unit {0}

-- ── news of discovery ──
abbrev pub Concerns : Cid → News → Type 0
Concerns c quiet = Unit {0}
Concerns c (note n) = About c n
Concerns c (forget d u) = d ≡ c
