-- Document 01, 'The receiver': the step on a packet, rule by rule.
-- Assumes nothing.
use Rattle.std.specs.Prelude.{Bool, true, false, not, cond, ◌&&◌, List, [], ◌∷◌, ℕ, ◌+◌, ltb, eqb, length}
use Rattle.std.proofs.Math.Option.{Option, none, some}
use Rattle.laws.specs.Table.{store}
use Rattle.rules.specs.Universe.{legal}
use Rattle.rules.specs.Answer.{first_of}
use Rattle.settings.specs.declared.Settings.{Settings}
use Rattle.pairs.specs.Table as pairs
use Rattle.pairs.specs.declared.Pair.{Pair}
use Rattle.pairs.specs.declared.Checked.{Checked}
use Rattle.pairs.specs.declared.Checked.TheVariants as checked
use Rattle.merge.specs.declared.SourceCid.TheVariants.{Of}
use Rattle.merge.specs.Merge.{Dmx}
use Rattle.waiting.specs.Waiting as waiting
use Rattle.waiting.specs.declared.StoreAnswer.{StoreAnswer}
use Rattle.waiting.specs.declared.StoreAnswer.TheVariants as storing
use Rattle.waiting.specs.Records.{records, most_bytes}
use Rattle.discovery.specs.Discovery as discovery
use Rattle.discovery.specs.Discovery.{Discovered, Announcement}
use Rattle.discovery.specs.declared.PageAnswer.{PageAnswer}
use Rattle.discovery.specs.declared.PageAnswer.TheVariants as paging
use Rattle.model.specs.declared.StepAnswer.{StepAnswer}
use Rattle.model.specs.declared.StepAnswer.TheVariants as says
use Rattle.model.specs.declared.ListenAnswer.{ListenAnswer}
use Rattle.model.specs.declared.ListenAnswer.TheVariants as listen
use Rattle.model.specs.Packet.{DataPacket, SyncPacket, Packet, data_packet, sync_packet, discovery_packet, too_long}
use Rattle.model.specs.State.{State, itself, listens}

-- what a step leaves, answers and releases
pub record Outcome : Type 0 where
  pub state : State
  pub answer : StepAnswer
  pub released : List Dmx

abbrev pub outcome : State → StepAnswer → Outcome
outcome s a = record { state = s; answer = a; released = [] }

-- the state with one part anew
abbrev pub with_data : pairs.Table → State → State
with_data t s = record { data_pairs = t; sync_pairs = s.sync_pairs; waiting = s.waiting; listened = s.listened; discovered = s.discovered }

abbrev pub with_sync : pairs.Table → State → State
with_sync t s = record { data_pairs = s.data_pairs; sync_pairs = t; waiting = s.waiting; listened = s.listened; discovered = s.discovered }

abbrev pub with_waiting : List Dmx → State → State
with_waiting w s = record { data_pairs = s.data_pairs; sync_pairs = s.sync_pairs; waiting = w; listened = s.listened; discovered = s.discovered }

abbrev pub with_listened : List ℕ → State → State
with_listened l s = record { data_pairs = s.data_pairs; sync_pairs = s.sync_pairs; waiting = s.waiting; listened = l; discovered = s.discovered }

abbrev pub with_discovered : Discovered → State → State
with_discovered d s = record { data_pairs = s.data_pairs; sync_pairs = s.sync_pairs; waiting = s.waiting; listened = s.listened; discovered = d }

-- ── `listen_universes`: "all tested for 2 before any is added; then 11 if more than 1,024 would stand" ──
abbrev pub most_listened : ℕ
most_listened = 1024

-- the first illegal universe
unfoldable pub illegal : List ℕ → Option ℕ
illegal [] = none
illegal (u ∷ us) = cond (legal u) (illegal us) (some u)

-- the set that would stand: a repeat, or a universe already listened to, is free
unfoldable pub joined_by : List ℕ → List ℕ → List ℕ
joined_by [] l = l
joined_by (u ∷ us) l = joined_by us (store ltb itself u l)

unfoldable pub listen_all : List ℕ → List ℕ → List ℕ × ListenAnswer
listen_all us l = elim (illegal us) [
  | some u ↦ (l, listen.IllegalUniverse u)
  | none ↦ cond (ltb most_listened (length (joined_by us l))) (l, listen.ListenedFull) (joined_by us l, listen.Listening)
]

-- ── 1. "Output under 35,072 bytes: 15. A lent part too long: 1, name before list." ──
-- the lent space, in bytes: the output, the waiting values, the page universes
pub record Space : Type 0 where
  pub output : ℕ
  pub waiting_values : ℕ
  pub page_universes : ℕ

-- 64 times 513 bytes; 64 times 512 numbers of two bytes
abbrev pub waiting_bytes : ℕ
waiting_bytes = waiting.store_length

abbrev pub page_bytes : ℕ
page_bytes = discovery.pool_length + discovery.pool_length

abbrev pub short : ℕ → ℕ → Option ℕ
short needed room = cond (ltb room needed) (some needed) none

-- "after the output's test and before 1; waiting values are tested before pages"
unfoldable pub too_short : Space → Option ℕ
too_short m = first_of (short most_bytes m.output) (first_of (short waiting_bytes m.waiting_values) (short page_bytes m.page_universes))

-- ── 2. "Poll: sweep the data table, then the sync table, then waiting data; a 4 ends the step" ──
unfoldable pub poll_waiting : ℕ → State → State × Option pairs.Key
poll_waiting now s = (with_waiting (waiting.swept now s.waiting) s, none)

unfoldable pub poll_sync : Settings → ℕ → State → State × Option pairs.Key
poll_sync S now s =
    let r = pairs.sweep S.announce_timeout now s.sync_pairs in
    elim r.1 [ some k ↦ (with_sync r.0 s, some k) | none ↦ poll_waiting now (with_sync r.0 s) ]

unfoldable pub poll : Settings → ℕ → State → State × Option pairs.Key
poll S now s =
    let r = pairs.sweep S.announce_timeout now s.data_pairs in
    elim r.1 [ some k ↦ (with_data r.0 s, some k) | none ↦ poll_sync S now (with_data r.0 s) ]

-- ── 3. data packet ──
-- the arriving pair, and the packet's seven fields
abbrev pub data_pair : ℕ → DataPacket → Pair
data_pair now d = record { cid = d.cid; universe = d.universe; sequence = d.sequence; reading = now }

abbrev pub dmx : ℕ → DataPacket → Dmx
dmx now d = record {
  head = record {
    universe = d.universe;
    sync_uni = d.address;
    priority = d.priority;
    src_cid = Of d.cid;
    preview = d.preview;
    recv_timestamp = now;
  };
  values = d.values;
}

-- an arrival's stops, as the step's
abbrev pub stopped : Checked → StepAnswer
stopped checked.Accepted = says.Nothing
stopped (checked.UniverseTimeout c u) = says.UniverseTimeout c u
stopped (checked.SourcesExceeded n) = says.SourcesExceeded n
stopped (checked.OutOfSequence a l d) = says.OutOfSequence a l d
stopped checked.PairsFull = says.PairsFull
stopped (checked.Repeated a l d) = says.Repeated a l d

-- what goes on where the arrival is accepted
unfoldable pub if_accepted : Checked → Outcome → Outcome → Outcome
if_accepted a go stay = cond (pairs.accepted a) go stay

-- a release: "answers its record count and byte length"
unfoldable pub release : List Dmx → State → Outcome
release [] s = outcome s says.Nothing
release (d ∷ ds) s = record { state = s; answer = says.Released (length (d ∷ ds)) (length (records (d ∷ ds))); released = d ∷ ds }

-- "Terminated: drop the pair from data; only if it was there, from sync too; drop the universe from the listed source's pages"
abbrev pub known : Option Pair → Bool
known none = false
known (some p) = true

unfoldable pub terminated : DataPacket → State → State
terminated d s =
    let k = pairs.key d.cid d.universe in
    record {
      data_pairs = pairs.without k s.data_pairs;
      sync_pairs = cond (known (pairs.pair_at k s.data_pairs.pairs)) (pairs.without k s.sync_pairs) s.sync_pairs;
      waiting = s.waiting;
      listened = s.listened;
      discovered = discovery.ended d.cid d.universe s.discovered;
    }

-- "Address 0: clear this universe's waiting data and release the packet."
unfoldable pub unsynchronised : ℕ → DataPacket → State → Outcome
unsynchronised now d s = release (dmx now d ∷ []) (with_waiting (waiting.cleared d.universe s.waiting).0 s)

-- ".. store (12, 8), answer nothing."
abbrev pub kept : StoreAnswer → StepAnswer
kept storing.Stored = says.Nothing
kept storing.MergeRefused = says.DmxMergeError
kept storing.WaitingFull = says.WaitingFull

unfoldable pub stored : Settings → ℕ → DataPacket → State → Outcome
stored S now d s =
    let r = waiting.stored S.merge (dmx now d) s.waiting in
    outcome (with_waiting r.0 s) (kept r.1)

-- "Otherwise listen to the address (2, 11) .."
unfoldable pub heard : ListenAnswer → Outcome → State → Outcome
heard listen.Listening go s = go
heard (listen.IllegalUniverse u) go s = outcome s (says.IllegalUniverse u)
heard listen.ListenedFull go s = outcome s says.ListenedFull

unfoldable pub synchronised : Settings → ℕ → DataPacket → State → Outcome
synchronised S now d s =
    let r = listen_all (d.address ∷ []) s.listened in
    heard r.1 (stored S now d (with_listened r.0 s)) s

unfoldable pub accepted : Settings → ℕ → DataPacket → State → Outcome
accepted S now d s = cond (eqb d.address 0) (unsynchronised now d s) (synchronised S now d s)

-- "Data pair table."
unfoldable pub data_arrival : Settings → ℕ → DataPacket → State → Outcome
data_arrival S now d s =
    let r = pairs.check S.source_limit S.announce_timeout (data_pair now d) s.data_pairs in
    if_accepted r.1 (accepted S now d (with_data r.0 s)) (outcome (with_data r.0 s) (stopped r.1))

unfoldable pub data_step : Settings → ℕ → DataPacket → State → Outcome
data_step S now d s =
    -- "preview not wanted, nothing"
    cond (d.preview && not S.process_preview_data) (outcome s says.Nothing)
    -- "then 5 if announced, else nothing"
    (cond d.terminated (outcome (terminated d s) (cond S.announce_stream_termination (says.UniverseTerminated d.cid d.universe) says.Nothing))
    -- "Not listened: nothing."
    (cond (listens d.universe s.listened) (data_arrival S now d s)
    (outcome s says.Nothing)))

-- ── 4. "Synchronisation packet: not listened, nothing; sync pair table; release, or nothing if none is left." ──
abbrev pub sync_pair : ℕ → SyncPacket → Pair
sync_pair now y = record { cid = y.cid; universe = y.address; sequence = y.sequence; reading = now }

unfoldable pub synchronise : ℕ → ℕ → State → Outcome
synchronise now a s = release (waiting.released now a s.waiting) (with_waiting (waiting.left a s.waiting) s)

unfoldable pub sync_arrival : Settings → ℕ → SyncPacket → State → Outcome
sync_arrival S now y s =
    let r = pairs.check S.source_limit S.announce_timeout (sync_pair now y) s.sync_pairs in
    if_accepted r.1 (synchronise now y.address (with_sync r.0 s)) (outcome (with_sync r.0 s) (stopped r.1))

unfoldable pub sync_step : Settings → ℕ → SyncPacket → State → Outcome
sync_step S now y s = cond (listens y.address s.listened) (sync_arrival S now y s) (outcome s says.Nothing)

-- ── 5. "Discovery packet: as above, 13 first; 9 if listed and announced." ──
abbrev pub listed : Settings → PageAnswer → StepAnswer
listed S paging.Taken = says.Nothing
listed S paging.Listed = cond S.announce_source_discovery says.SourceDiscovered says.Nothing
listed S paging.PagesFull = says.PagesFull

unfoldable pub discovery_step : Settings → ℕ → Announcement → State → Outcome
discovery_step S now a s =
    let r = discovery.arrived now a s.discovered in
    outcome (with_discovered r.0 s) (listed S r.1)

-- ── the step ──
unfoldable pub packet_step : Settings → ℕ → Packet → State → Outcome
packet_step S now (data_packet d) s = data_step S now d s
packet_step S now (sync_packet y) s = sync_step S now y s
packet_step S now (discovery_packet a) s = discovery_step S now a s

-- "a 4 ends the step, the packet is not taken and may be offered again"
unfoldable pub polled : Settings → ℕ → Packet → State × Option pairs.Key → Outcome
polled S now p (s, none) = packet_step S now p s
polled S now p (s, some k) = outcome s (says.UniverseTimeout k.cid k.universe)

unfoldable pub measured : Settings → ℕ → Packet → State → Option ℕ → Outcome
measured S now p s (some n) = outcome s (says.TooLong n)
measured S now p s none = polled S now p (poll S now s)

unfoldable pub step : Space → Settings → ℕ → Packet → State → Outcome
step m S now p s = elim (too_short m) [
  | some n ↦ outcome s (says.TooShort n)
  | none ↦ measured S now p s (too_long p)
]
