-- Document 02, F-11: "Show that from a fresh receiver, after every list of calls, each CID counted as a source has a pair in that table, and then
-- remove 16 and the branch that gave it. The number is not used again. From a fresh receiver all later answers are those of the receiver with the branch".
-- Assumes nothing.
use Rattle.std.specs.Prelude.{◌≡◌, ◌≢◌, Bool, cond, ◌&&◌, List, [], ◌∷◌, map, ℕ, eqb}
use Rattle.std.proofs.Math.Path.{refl, ap}
use Rattle.std.proofs.Math.Bool.{not}
use Rattle.std.proofs.Math.Option.{Option, none, some}
use Rattle.std.proofs.Common.{arith}
use Rattle.laws.specs.Cases.{found, cond_map}
use Rattle.settings.specs.declared.Settings.{Settings}
use Rattle.pairs.specs.declared.Checked.{Checked}
use Rattle.pairs.specs.declared.Checked.TheVariants as checked
use Rattle.pairs.specs.Table as pairs
use Rattle.pairs.proofs.Laws as pair_laws
use Rattle.pairs.specs.Without16 as arrivals
use Rattle.pairs.proofs.Without16Laws as arrivals_laws
use Rattle.merge.specs.Merge.{Dmx}
use Rattle.waiting.specs.Waiting as waiting
use Rattle.waiting.specs.declared.StoreAnswer.{StoreAnswer}
use Rattle.waiting.specs.declared.StoreAnswer.TheVariants as storing
use Rattle.discovery.specs.Discovery as discovery
use Rattle.discovery.specs.declared.PageAnswer.{PageAnswer}
use Rattle.discovery.specs.declared.PageAnswer.TheVariants as paging
use Rattle.model.specs.declared.StepAnswer.{StepAnswer}
use Rattle.model.specs.declared.StepAnswer.TheVariants as says
use Rattle.model.specs.declared.PollAnswer.TheVariants as polling
use Rattle.model.specs.declared.ExpiryAnswer.TheVariants as expiry
use Rattle.model.specs.declared.ListenAnswer.{ListenAnswer}
use Rattle.model.specs.declared.ListenAnswer.TheVariants as listening
use Rattle.model.specs.declared.MuteAnswer.TheVariants as muting
use Rattle.model.specs.declared.ClearAnswer.TheVariants as clearing
use Rattle.model.specs.Answer.{step_number, step_values}
use Rattle.model.specs.Packet.{DataPacket, SyncPacket, Packet, data_packet, sync_packet, discovery_packet, too_long}
use Rattle.model.specs.State.{State, fresh, listens}
use Rattle.model.specs.Step.{Space, Outcome, with_data, with_sync, with_waiting, with_listened, with_discovered, listen_all, too_short, poll, data_pair, dmx, sync_pair, stopped, if_accepted, release, unsynchronised, kept, stored, heard, synchronised, accepted, data_arrival, data_step, synchronise, sync_arrival, sync_step, listed, discovery_step, packet_step, polled, measured, step}
use Rattle.model.specs.Calls.{Call, on_packet, on_poll, on_expiry, on_listen, on_mute, on_ask, on_clear, on_clear_all, on_reset_pairs, on_reset_discovery, on_reset, call, run}
use Rattle.model.specs.Calls.{Reply, of_packet, of_poll, of_expiry, of_listen, of_mute, of_ask, of_clear, of_clear_all, of_reset_pairs, of_reset_discovery, of_reset, reply, replies}
use Rattle.model.specs.Invariant.{Kept}
use Rattle.model.proofs.InvariantLaws.{poll_kept, call_kept, kept_fresh, run_kept}
use Rattle.model.specs.StepAnswer16 as was
use Rattle.model.specs.With16 as old
use Rattle.model.specs.Without16.{ListedAsPaired, as_was, out, reply_as_was, reply_number}

-- after every list of calls, stopped ones too; each call with settings, readings and lent lengths of its own, whatever they are
pub listed_as_paired : (cs : List Call) → ListedAsPaired (run cs fresh).data_pairs × ListedAsPaired (run cs fresh).sync_pairs
listed_as_paired cs =
    let k = run_kept cs in
    (λ c. pair_laws.listed_good c _ k.kept_data.good, λ c. pair_laws.listed_good c _ k.kept_sync.good)

-- whatever the state
pub never_16 : (r : Reply StepAnswer) → reply_number r ≢ 16
never_16 (of_packet says.Nothing ds) e = omega (arith, e)
never_16 (of_packet (says.Released r b) ds) e = omega (arith, e)
never_16 (of_packet (says.TooLong n) ds) e = omega (arith, e)
never_16 (of_packet (says.IllegalUniverse u) ds) e = omega (arith, e)
never_16 (of_packet (says.UniverseTimeout c u) ds) e = omega (arith, e)
never_16 (of_packet (says.UniverseTerminated c u) ds) e = omega (arith, e)
never_16 (of_packet (says.SourcesExceeded n) ds) e = omega (arith, e)
never_16 (of_packet (says.OutOfSequence a l d) ds) e = omega (arith, e)
never_16 (of_packet says.DmxMergeError ds) e = omega (arith, e)
never_16 (of_packet says.SourceDiscovered ds) e = omega (arith, e)
never_16 (of_packet says.PairsFull ds) e = omega (arith, e)
never_16 (of_packet says.ListenedFull ds) e = omega (arith, e)
never_16 (of_packet says.WaitingFull ds) e = omega (arith, e)
never_16 (of_packet says.PagesFull ds) e = omega (arith, e)
never_16 (of_packet (says.TooShort n) ds) e = omega (arith, e)
never_16 (of_packet (says.Repeated a l d) ds) e = omega (arith, e)
never_16 (of_poll polling.Polled) e = omega (arith, e)
never_16 (of_poll (polling.UniverseTimeout c u)) e = omega (arith, e)
never_16 (of_poll (polling.TooShort n)) e = omega (arith, e)
never_16 (of_expiry expiry.Swept) e = omega (arith, e)
never_16 (of_expiry (expiry.TooShort n)) e = omega (arith, e)
never_16 (of_listen listening.Listening) e = omega (arith, e)
never_16 (of_listen (listening.IllegalUniverse u)) e = omega (arith, e)
never_16 (of_listen listening.ListenedFull) e = omega (arith, e)
never_16 (of_mute muting.Muted) e = omega (arith, e)
never_16 (of_mute (muting.IllegalUniverse u)) e = omega (arith, e)
never_16 (of_mute (muting.UniverseNotRegistered u)) e = omega (arith, e)
never_16 (of_ask b) e = omega (arith, e)
never_16 (of_clear (clearing.Cleared b)) e = omega (arith, e)
never_16 (of_clear (clearing.TooShort n)) e = omega (arith, e)
never_16 of_clear_all e = omega (arith, e)
never_16 of_reset_pairs e = omega (arith, e)
never_16 of_reset_discovery e = omega (arith, e)
never_16 of_reset e = omega (arith, e)

-- with its number and its values
pub told_as_was : (own : List ℕ) (a : StepAnswer) → (old.step_number (as_was a) ≡ step_number a) × (old.step_values own (as_was a) ≡ step_values own a)
told_as_was own says.Nothing = (refl, refl)
told_as_was own (says.Released r b) = (refl, refl)
told_as_was own (says.TooLong n) = (refl, refl)
told_as_was own (says.IllegalUniverse u) = (refl, refl)
told_as_was own (says.UniverseTimeout c u) = (refl, refl)
told_as_was own (says.UniverseTerminated c u) = (refl, refl)
told_as_was own (says.SourcesExceeded n) = (refl, refl)
told_as_was own (says.OutOfSequence a l d) = (refl, refl)
told_as_was own says.DmxMergeError = (refl, refl)
told_as_was own says.SourceDiscovered = (refl, refl)
told_as_was own says.PairsFull = (refl, refl)
told_as_was own says.ListenedFull = (refl, refl)
told_as_was own says.WaitingFull = (refl, refl)
told_as_was own says.PagesFull = (refl, refl)
told_as_was own (says.TooShort n) = (refl, refl)
told_as_was own (says.Repeated a l d) = (refl, refl)

in_turn_out : (a b c : Bool) (w x y z : Outcome) → cond a (out w) (cond b (out x) (cond c (out y) (out z))) ≡ out (cond a w (cond b x (cond c y z)))
in_turn_out a b c w x y z = rw (cond_map out c y z, cond_map out b x (cond c y z)) (cond_map out a w (cond b x (cond c y z)))

release_out : (ds : List Dmx) (s : State) → old.release ds s ≡ out (release ds s)
unfolding old.release release
release_out [] s = refl
release_out (d ∷ ds) s = refl

heard_out : (a : ListenAnswer) (go : Outcome) (s : State) → old.heard a (out go) s ≡ out (heard a go s)
unfolding old.heard heard
heard_out listening.Listening go s = refl
heard_out (listening.IllegalUniverse u) go s = refl
heard_out listening.ListenedFull go s = refl

kept_out : (a : StoreAnswer) → old.kept a ≡ as_was (kept a)
kept_out storing.Stored = refl
kept_out storing.MergeRefused = refl
kept_out storing.WaitingFull = refl

listed_out : (S : Settings) (a : PageAnswer) → old.listed S a ≡ as_was (listed S a)
listed_out S paging.Taken = refl
listed_out S paging.Listed = cond_map as_was S.announce_source_discovery says.SourceDiscovered says.Nothing
listed_out S paging.PagesFull = refl

if_accepted_out : (a : Checked) (go stay : Outcome) → old.if_accepted (arrivals.as_was a) (out go) (out stay) ≡ out (if_accepted a go stay)
unfolding old.if_accepted if_accepted
if_accepted_out checked.Accepted go stay = refl
if_accepted_out (checked.UniverseTimeout c u) go stay = refl
if_accepted_out (checked.SourcesExceeded n) go stay = refl
if_accepted_out (checked.OutOfSequence a l d) go stay = refl
if_accepted_out checked.PairsFull go stay = refl
if_accepted_out (checked.Repeated a l d) go stay = refl

stopped_out : (a : Checked) → old.stopped (arrivals.as_was a) ≡ as_was (stopped a)
stopped_out checked.Accepted = refl
stopped_out (checked.UniverseTimeout c u) = refl
stopped_out (checked.SourcesExceeded n) = refl
stopped_out (checked.OutOfSequence a l d) = refl
stopped_out checked.PairsFull = refl
stopped_out (checked.Repeated a l d) = refl

module _ (S : Settings) (now : ℕ) where
  stored_out : (d : DataPacket) (s : State) → old.stored S now d s ≡ out (stored S now d s)
  unfolding old.stored stored
  stored_out d s = let r = waiting.stored S.merge (dmx now d) s.waiting in ap (λ (a : was.StepAnswer). old.outcome (with_waiting r.0 s) a) (kept_out r.1)

  accepted_out : (d : DataPacket) (s : State) → old.accepted S now d s ≡ out (accepted S now d s)
  unfolding old.accepted accepted old.unsynchronised unsynchronised old.synchronised synchronised
  accepted_out d s =
      let r = listen_all (d.address ∷ []) s.listened in
      let t = with_listened r.0 s in
      rw (release_out (dmx now d ∷ []) (with_waiting (waiting.cleared d.universe s.waiting).0 s), stored_out d t, heard_out r.1 (stored S now d t) s)
      (cond_map out (eqb d.address 0) _ _)

  data_arrival_out : (d : DataPacket) (s : State) → Kept s → old.data_arrival S now d s ≡ out (data_arrival S now d s)
  unfolding old.data_arrival data_arrival
  data_arrival_out d s k =
      let r = pairs.check S.source_limit S.announce_timeout (data_pair now d) s.data_pairs in
      rw (arrivals_laws.check_as_was S.source_limit S.announce_timeout (data_pair now d) s.data_pairs k.kept_data.good, accepted_out d (with_data r.0 s), stopped_out r.1)
      (if_accepted_out r.1 _ _)

  sync_arrival_out : (y : SyncPacket) (s : State) → Kept s → old.sync_arrival S now y s ≡ out (sync_arrival S now y s)
  unfolding old.sync_arrival sync_arrival old.synchronise synchronise
  sync_arrival_out y s k =
      let r = pairs.check S.source_limit S.announce_timeout (sync_pair now y) s.sync_pairs in
      rw (arrivals_laws.check_as_was S.source_limit S.announce_timeout (sync_pair now y) s.sync_pairs k.kept_sync.good, release_out (waiting.released now y.address s.waiting) (with_waiting (waiting.left y.address s.waiting) (with_sync r.0 s)), stopped_out r.1)
      (if_accepted_out r.1 _ _)

  packet_out : (p : Packet) (s : State) → Kept s → old.packet_step S now p s ≡ out (packet_step S now p s)
  unfolding old.packet_step packet_step old.data_step data_step old.sync_step sync_step old.discovery_step discovery_step
  packet_out (data_packet d) s k =
      rw (data_arrival_out d s k, cond_map as_was S.announce_stream_termination (says.UniverseTerminated d.cid d.universe) says.Nothing)
      (in_turn_out (d.preview && not S.process_preview_data) d.terminated (listens d.universe s.listened) _ _ _ _)
  packet_out (sync_packet y) s k = rw (sync_arrival_out y s k) (cond_map out (listens y.address s.listened) _ _)
  packet_out (discovery_packet a) s k =
      let r = discovery.arrived now a s.discovered in
      ap (λ (a : was.StepAnswer). old.outcome (with_discovered r.0 s) a) (listed_out S r.1)

  polled_out : (p : Packet) (r : State × Option pairs.Key) → Kept r.0 → old.polled S now p r ≡ out (polled S now p r)
  unfolding old.polled polled
  polled_out p (s, none) k = packet_out p s k
  polled_out p (s, some j) k = refl

  measured_out : (p : Packet) (s : State) (o : Option ℕ) → Kept s → old.measured S now p s o ≡ out (measured S now p s o)
  unfolding old.measured measured
  measured_out p s none k = polled_out p (poll S now s) (poll_kept S now s k)
  measured_out p s (some n) k = refl

step_out : (m : Space) (S : Settings) (now : ℕ) (p : Packet) (s : State) → Kept s → old.step m S now p s ≡ out (step m S now p s)
unfolding old.step step
step_out m S now p s k =
    found (too_short m)
    (λ e. rw (e, old.step, step) (measured_out S now p s (too_long p) k))
    (λ n e. rw (e, old.step, step))

-- ── THE RECEIVER WITH THE BRANCH GAVE THE SAME REPLIES AND LEFT THE SAME STATE ──
call_as_was : (c : Call) (s : State) → Kept s → (old.reply c s ≡ reply_as_was (reply c s)) × (old.call c s ≡ call c s)
unfolding old.reply reply old.call call
call_as_was (on_packet m S now p) s k = let e = step_out m S now p s k in (ap (λ (o : old.Outcome). of_packet o.answer o.released) e, ap (λ (o : old.Outcome). o.state) e)
call_as_was (on_poll room S now) s k = (refl, refl)
call_as_was (on_expiry room S now) s k = (refl, refl)
call_as_was (on_listen us) s k = (refl, refl)
call_as_was (on_mute u) s k = (refl, refl)
call_as_was (on_ask u) s k = (refl, refl)
call_as_was (on_clear room u) s k = (refl, refl)
call_as_was on_clear_all s k = (refl, refl)
call_as_was on_reset_pairs s k = (refl, refl)
call_as_was on_reset_discovery s k = (refl, refl)
call_as_was on_reset s k = (refl, refl)

run_as_was : (cs : List Call) (s : State) → Kept s → (old.replies cs s ≡ map reply_as_was (replies cs s)) × (old.run cs s ≡ run cs s)
unfolding old.replies replies old.run run
run_as_was [] s k = (refl, refl)
run_as_was (c ∷ cs) s k =
    let e = call_as_was c s k in
    let r = run_as_was cs (call c s) (call_kept c s k) in
    (rw (e.0, e.1, r.0), rw e.1 r.1)

-- for every list of calls from a fresh receiver
pub replies_as_was : (cs : List Call) → (old.replies cs fresh ≡ map reply_as_was (replies cs fresh)) × (old.run cs fresh ≡ run cs fresh)
replies_as_was cs = run_as_was cs fresh kept_fresh
