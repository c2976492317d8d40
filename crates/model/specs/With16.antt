-- Document 01, 'The receiver', the step and what it answers as they were before document 02's F-11: the definition with the branch that gave 16,
-- word for word, but that `pairs.Key` is `Key` and that the discovery sweep takes the settings (F-3). The pair tables' part is pairs/specs/With16.antt. Repeated is what gives or takes an answer of a step, and
-- what rests on `step`; the rest is that of Step.antt and Calls.antt. `reply` and `replies` came with F-11 and are as in Calls.antt.
-- Used by nothing but the theorem that it replied the same, `replies-as-was` in Without16.antt.
-- Assumes nothing.
use Rattle.std.specs.Prelude.{not, cond, ◌&&◌, List, [], ◌∷◌, ℕ, eqb, length}
use Rattle.std.proofs.Math.Option.{Option, none, some}
use Rattle.rules.specs.Answer.{Value, number, integer, source, name}
use Rattle.settings.specs.declared.Settings.{Settings}
use Rattle.pairs.specs.With16 as pairs
use Rattle.pairs.specs.Checked16.{Checked}
use Rattle.pairs.specs.Checked16 as checked
use Rattle.pairs.specs.Table.{Key}
use Rattle.merge.specs.Merge.{Dmx}
use Rattle.waiting.specs.Waiting as waiting
use Rattle.waiting.specs.declared.StoreAnswer.{StoreAnswer}
use Rattle.waiting.specs.declared.StoreAnswer.TheVariants as storing
use Rattle.waiting.specs.Records.{records}
use Rattle.discovery.specs.Discovery as discovery
use Rattle.discovery.specs.Discovery.{Announcement}
use Rattle.discovery.specs.declared.PageAnswer.{PageAnswer}
use Rattle.discovery.specs.declared.PageAnswer.TheVariants as paging
use Rattle.model.specs.StepAnswer16.{StepAnswer}
use Rattle.model.specs.StepAnswer16 as says
use Rattle.model.specs.declared.ListenAnswer.{ListenAnswer}
use Rattle.model.specs.declared.ListenAnswer.TheVariants as listen
use Rattle.model.specs.Packet.{DataPacket, SyncPacket, Packet, data_packet, sync_packet, discovery_packet, too_long}
use Rattle.model.specs.State.{State, listens}
use Rattle.model.specs.Step.{Space, with_data, with_sync, with_waiting, with_listened, with_discovered, listen_all, too_short, poll, data_pair, dmx, terminated, sync_pair}
use Rattle.model.specs.Calls.{poll_call, expiry_call, listen_call, mute_call, clear_call, clear_all_call, reset_pairs_call, reset_discovery_call, reset_call}
use Rattle.model.specs.Calls.{Call, on_packet, on_poll, on_expiry, on_listen, on_mute, on_ask, on_clear, on_clear_all, on_reset_pairs, on_reset_discovery, on_reset}
use Rattle.model.specs.Calls.{Reply, of_packet, of_poll, of_expiry, of_listen, of_mute, of_ask, of_clear, of_clear_all, of_reset_pairs, of_reset_discovery, of_reset}

-- ── document 01, 'What stops a call' ──
abbrev pub step_number : StepAnswer → ℕ
step_number says.Nothing = 0
step_number (says.Released r b) = 0
step_number (says.TooLong n) = 1
step_number (says.IllegalUniverse u) = 2
step_number (says.UniverseTimeout c u) = 4
step_number (says.UniverseTerminated c u) = 5
step_number (says.SourcesExceeded n) = 6
step_number (says.OutOfSequence a l d) = 7
step_number says.DmxMergeError = 8
step_number says.SourceDiscovered = 9
step_number says.PairsFull = 10
step_number says.ListenedFull = 11
step_number says.WaitingFull = 12
step_number says.PagesFull = 13
step_number (says.TooShort n) = 15
step_number says.SourceWithoutPairs = 16
step_number (says.Repeated a l d) = 21

-- the values of a step's answer; number 9 returns the name of the packet in hand
abbrev pub step_values : List ℕ → StepAnswer → List Value
step_values own says.Nothing = []
step_values own (says.Released r b) = number r ∷ number b ∷ []
step_values own (says.TooLong n) = number n ∷ []
step_values own (says.IllegalUniverse u) = number u ∷ []
step_values own (says.UniverseTimeout c u) = source c ∷ number u ∷ []
step_values own (says.UniverseTerminated c u) = source c ∷ number u ∷ []
step_values own (says.SourcesExceeded n) = number n ∷ []
step_values own (says.OutOfSequence a l d) = number a ∷ number l ∷ integer d ∷ []
step_values own says.DmxMergeError = []
step_values own says.SourceDiscovered = name own ∷ []
step_values own says.PairsFull = []
step_values own says.ListenedFull = []
step_values own says.WaitingFull = []
step_values own says.PagesFull = []
step_values own (says.TooShort n) = number n ∷ []
step_values own says.SourceWithoutPairs = []
step_values own (says.Repeated a l d) = number a ∷ number l ∷ integer d ∷ []

-- ── document 01, 'The receiver' ──
-- what a step leaves, answers and releases
pub record Outcome : Type 0 where
  pub state : State
  pub answer : StepAnswer
  pub released : List Dmx

abbrev pub outcome : State → StepAnswer → Outcome
outcome s a = record { state = s; answer = a; released = [] }

-- an arrival's stops, as the step's
abbrev pub stopped : Checked → StepAnswer
stopped checked.Accepted = says.Nothing
stopped (checked.UniverseTimeout c u) = says.UniverseTimeout c u
stopped (checked.SourcesExceeded n) = says.SourcesExceeded n
stopped (checked.OutOfSequence a l d) = says.OutOfSequence a l d
stopped checked.PairsFull = says.PairsFull
stopped checked.SourceWithoutPairs = says.SourceWithoutPairs
stopped (checked.Repeated a l d) = says.Repeated a l d

-- what goes on where the arrival is accepted
unfoldable pub if_accepted : Checked → Outcome → Outcome → Outcome
if_accepted a go stay = cond (pairs.accepted a) go stay

-- a release: "answers its record count and byte length"
unfoldable pub release : List Dmx → State → Outcome
release [] s = outcome s says.Nothing
release (d ∷ ds) s = record { state = s; answer = says.Released (length (d ∷ ds)) (length (records (d ∷ ds))); released = d ∷ ds }

-- "Address 0: clear this universe's waiting data and release the packet."
unfoldable pub unsynchronised : ℕ → DataPacket → State → Outcome
unsynchronised now d s = release (dmx now d ∷ []) (with_waiting (waiting.cleared d.universe s.waiting).0 s)

-- ".. store (12, 8), answer nothing."
abbrev pub kept : StoreAnswer → StepAnswer
kept storing.Stored = says.Nothing
kept storing.MergeRefused = says.DmxMergeError
kept storing.WaitingFull = says.WaitingFull

unfoldable pub stored : Settings → ℕ → DataPacket → State → Outcome
stored S now d s =
    let r = waiting.stored S.merge (dmx now d) s.waiting in
    outcome (with_waiting r.0 s) (kept r.1)

-- "Otherwise listen to the address (2, 11) .."
unfoldable pub heard : ListenAnswer → Outcome → State → Outcome
heard listen.Listening go s = go
heard (listen.IllegalUniverse u) go s = outcome s (says.IllegalUniverse u)
heard listen.ListenedFull go s = outcome s says.ListenedFull

unfoldable pub synchronised : Settings → ℕ → DataPacket → State → Outcome
synchronised S now d s =
    let r = listen_all (d.address ∷ []) s.listened in
    heard r.1 (stored S now d (with_listened r.0 s)) s

unfoldable pub accepted : Settings → ℕ → DataPacket → State → Outcome
accepted S now d s = cond (eqb d.address 0) (unsynchronised now d s) (synchronised S now d s)

-- "Data pair table."
unfoldable pub data_arrival : Settings → ℕ → DataPacket → State → Outcome
data_arrival S now d s =
    let r = pairs.check S.source_limit S.announce_timeout (data_pair now d) s.data_pairs in
    if_accepted r.1 (accepted S now d (with_data r.0 s)) (outcome (with_data r.0 s) (stopped r.1))

unfoldable pub data_step : Settings → ℕ → DataPacket → State → Outcome
data_step S now d s =
    -- "preview not wanted, nothing"
    cond (d.preview && not S.process_preview_data) (outcome s says.Nothing)
    -- "then 5 if announced, else nothing"
    (cond d.terminated (outcome (terminated d s) (cond S.announce_stream_termination (says.UniverseTerminated d.cid d.universe) says.Nothing))
    -- "Not listened: nothing."
    (cond (listens d.universe s.listened) (data_arrival S now d s)
    (outcome s says.Nothing)))

-- ── 4. "Synchronisation packet: not listened, nothing; sync pair table; release, or nothing if none is left." ──
unfoldable pub synchronise : ℕ → ℕ → State → Outcome
synchronise now a s = release (waiting.released now a s.waiting) (with_waiting (waiting.left a s.waiting) s)

unfoldable pub sync_arrival : Settings → ℕ → SyncPacket → State → Outcome
sync_arrival S now y s =
    let r = pairs.check S.source_limit S.announce_timeout (sync_pair now y) s.sync_pairs in
    if_accepted r.1 (synchronise now y.address (with_sync r.0 s)) (outcome (with_sync r.0 s) (stopped r.1))

unfoldable pub sync_step : Settings → ℕ → SyncPacket → State → Outcome
sync_step S now y s = cond (listens y.address s.listened) (sync_arrival S now y s) (outcome s says.Nothing)

-- ── 5. "Discovery packet: as above, 13 first; 9 if listed and announced." ──
abbrev pub listed : Settings → PageAnswer → StepAnswer
listed S paging.Taken = says.Nothing
listed S paging.Listed = cond S.announce_source_discovery says.SourceDiscovered says.Nothing
listed S paging.PagesFull = says.PagesFull

unfoldable pub discovery_step : Settings → ℕ → Announcement → State → Outcome
discovery_step S now a s =
    let r = discovery.arrived now a s.discovered in
    outcome (with_discovered r.0 s) (listed S r.1)

-- ── the step ──
unfoldable pub packet_step : Settings → ℕ → Packet → State → Outcome
packet_step S now (data_packet d) s = data_step S now d s
packet_step S now (sync_packet y) s = sync_step S now y s
packet_step S now (discovery_packet a) s = discovery_step S now a s

-- "a 4 ends the step, the packet is not taken and may be offered again"
unfoldable pub polled : Settings → ℕ → Packet → State × Option Key → Outcome
polled S now p (s, none) = packet_step S now p s
polled S now p (s, some k) = outcome s (says.UniverseTimeout k.cid k.universe)

unfoldable pub measured : Settings → ℕ → Packet → State → Option ℕ → Outcome
measured S now p s (some n) = outcome s (says.TooLong n)
measured S now p s none = polled S now p (poll S now s)

unfoldable pub step : Space → Settings → ℕ → Packet → State → Outcome
step m S now p s = elim (too_short m) [
  | some n ↦ outcome s (says.TooShort n)
  | none ↦ measured S now p s (too_long p)
]

-- ── lists of calls ──
unfoldable pub call : Call → State → State
call (on_packet m S now p) s = (step m S now p s).state
call (on_poll room S now) s = (poll_call room S now s).0
call (on_expiry room S now) s = (expiry_call room S now s).0
call (on_listen us) s = (listen_call us s).0
call (on_mute u) s = (mute_call u s).0
call (on_ask u) s = s
call (on_clear room u) s = (clear_call room u s).0
call on_clear_all s = clear_all_call s
call on_reset_pairs s = reset_pairs_call s
call on_reset_discovery s = reset_discovery_call s
call on_reset s = reset_call s

-- what a list of calls leaves of a state
unfoldable pub run : List Call → State → State
run [] s = s
run (c ∷ cs) s = run cs (call c s)

-- a step with its answer and what it releases
unfoldable pub reply : Call → State → Reply StepAnswer
reply (on_packet m S now p) s = of_packet (step m S now p s).answer (step m S now p s).released
reply (on_poll room S now) s = of_poll (poll_call room S now s).1
reply (on_expiry room S now) s = of_expiry (expiry_call room S now s).1
reply (on_listen us) s = of_listen (listen_call us s).1
reply (on_mute u) s = of_mute (mute_call u s).1
reply (on_ask u) s = of_ask (listens u s.listened)
reply (on_clear room u) s = of_clear (clear_call room u s).1
reply on_clear_all s = of_clear_all
reply on_reset_pairs s = of_reset_pairs
reply on_reset_discovery s = of_reset_discovery
reply on_reset s = of_reset

-- what the calls of a list reply, in order
unfoldable pub replies : List Call → State → List (Reply StepAnswer)
replies [] s = []
replies (c ∷ cs) s = reply c s ∷ replies cs (call c s)
