-- A run of the code is the definition's run: by the contracts, step for step. So demand 3 holds of the code.
-- Assumes nothing.
use Rattle.std.specs.Prelude.{◌≢◌, ◌≡◌, Bool, true, false, cond, ◌&&◌, eqb, length, take, drop}
use Rattle.std.proofs.Math.Path.{refl, ap}
use Rattle.std.proofs.Common.{sym, ◌∙◌, subst, zero-add}
use Rattle.std.proofs.Math.Bool.{not}
use Rattle.std.proofs.Math.Option.{Option, none, some}
use mathlib.Core.List.{List, [], ◌∷◌}
use Prim.Native.Nat.{ℕ, suc, ◌+◌}
use native.Mathlib.Omega.{arith}
use Rattle.std.proofs.Math.Seq.{take-append_seam}
use Rattle.laws.specs.Cases.{split, found}
use Rattle.settings.specs.declared.Settings.{Settings}
use Rattle.pairs.specs.declared.Checked.{Checked}
use Rattle.pairs.specs.declared.Checked.TheVariants as checked
use Rattle.pairs.specs.Table as pairs
use Rattle.merge.specs.Merge.{Dmx}
use Rattle.waiting.specs.Waiting as waiting
use Rattle.waiting.specs.declared.StoreAnswer.{StoreAnswer}
use Rattle.waiting.specs.declared.StoreAnswer.TheVariants as storing
use Rattle.waiting.specs.Records.{records, over}
use Rattle.discovery.specs.Discovery as discovery
use Rattle.discovery.specs.declared.PageAnswer.{PageAnswer}
use Rattle.discovery.specs.declared.PageAnswer.TheVariants as paging
use Rattle.model.specs.declared.StepAnswer.{StepAnswer}
use Rattle.model.specs.declared.StepAnswer.TheVariants as says
use Rattle.model.specs.declared.ListenAnswer.{ListenAnswer}
use Rattle.model.specs.declared.ListenAnswer.TheVariants as listening
use Rattle.model.specs.Answer.{step_number, step_values}
use Rattle.model.specs.Packet.{DataPacket, SyncPacket, Packet, data_packet, sync_packet, discovery_packet, too_long}
use Rattle.model.specs.State.{State, listens, fresh}
use Rattle.model.specs.Step as model
use Rattle.model.specs.Step.{Space, Outcome, outcome, if_accepted, stopped, kept, listed, release, heard, too_short, measured, polled, poll, packet_step, step}
use Rattle.model.specs.declared.MuteAnswer.{MuteAnswer}
use Rattle.model.specs.Calls.{listen_call, mute_call}
use Rattle.reorder.specs.Demand.{Telling, listen, mute, tell, start, name_of, Answered, answered, outcome_of, end, answers, Picks, NoneFull, EndAlike, Asked, NeitherFull}
use Rattle.reorder.proofs.ProofLaws.{demand_3}
use Rattle.receiver.specs.declared.Receiver.{Receiver}
use Rattle.receiver.specs.View.{Memory, state_of, space_in}
use Rattle.reorder_code.specs.Runs.{byte_length, seen, Handling, Linked, packets, all_seen, lent_to, left_by, Told, TellingTo, tellings, Tells, Prepared}

-- ── an answer names the length of the released bytes ──
record Frank (o : Outcome) : Type 0 where
  length_is : byte_length o.answer ≡ length (records o.released)

-- a step that releases nothing
silent : (s : State) (a : StepAnswer) → byte_length a ≡ 0 → Frank (outcome s a)
unfolding records
silent s a e = record { length_is = e }

frank_stopped : (a : Checked) → byte_length (stopped a) ≡ 0
frank_stopped checked.Accepted = refl
frank_stopped (checked.UniverseTimeout c u) = refl
frank_stopped (checked.SourcesExceeded n) = refl
frank_stopped (checked.OutOfSequence a l d) = refl
frank_stopped checked.PairsFull = refl
frank_stopped (checked.Repeated a l d) = refl

frank_kept : (a : StoreAnswer) → byte_length (kept a) ≡ 0
frank_kept storing.Stored = refl
frank_kept storing.MergeRefused = refl
frank_kept storing.WaitingFull = refl

frank_listed : (S : Settings) (a : PageAnswer) → byte_length (listed S a) ≡ 0
frank_listed S paging.Taken = refl
frank_listed S paging.Listed = split S.announce_source_discovery (λ e. rw e) (λ e. rw e)
frank_listed S paging.PagesFull = refl

frank_release : (ds : List Dmx) (s : State) → Frank (release ds s)
unfolding release records
frank_release [] s = record { length_is = refl }
frank_release (d ∷ ds) s = record { length_is = refl }

frank_heard : (a : ListenAnswer) (go : Outcome) (s : State) → Frank go → Frank (heard a go s)
unfolding heard
frank_heard listening.Listening go s g = g
frank_heard (listening.IllegalUniverse u) go s g = silent s (says.IllegalUniverse u) refl
frank_heard listening.ListenedFull go s g = silent s says.ListenedFull refl

-- both ways of a test
either : (b : Bool) (x y : Outcome) → Frank x → Frank y → Frank (cond b x y)
either true x y f g = f
either false x y f g = g

frank_accepted : (a : Checked) (go stay : Outcome) → Frank go → Frank stay → Frank (if_accepted a go stay)
unfolding if_accepted
frank_accepted a go stay g h = either (pairs.accepted a) go stay g h

module _ (S : Settings) (now : ℕ) where
  frank_stored : (d : DataPacket) (s : State) → Frank (model.stored S now d s)
  unfolding model.stored
  frank_stored d s =
      let r = waiting.stored S.merge (model.dmx now d) s.waiting in
      silent (model.with_waiting r.0 s) (kept r.1) (frank_kept r.1)

  frank_synchronised : (d : DataPacket) (s : State) → Frank (model.synchronised S now d s)
  unfolding model.synchronised
  frank_synchronised d s =
      let r = model.listen_all (d.address ∷ []) s.listened in
      frank_heard r.1 (model.stored S now d (model.with_listened r.0 s)) s (frank_stored d (model.with_listened r.0 s))

  frank_unsynchronised : (d : DataPacket) (s : State) → Frank (model.unsynchronised now d s)
  unfolding model.unsynchronised
  frank_unsynchronised d s = frank_release (model.dmx now d ∷ []) (model.with_waiting (waiting.cleared d.universe s.waiting).0 s)

  frank_data : (d : DataPacket) (s : State) → Frank (model.data_arrival S now d s)
  unfolding model.data_arrival model.accepted
  frank_data d s =
      let r = pairs.check S.source_limit S.announce_timeout (model.data_pair now d) s.data_pairs in
      let t = model.with_data r.0 s in
      frank_accepted r.1 (model.accepted S now d t) (outcome t (stopped r.1))
      (either (eqb d.address 0) (model.unsynchronised now d t) (model.synchronised S now d t) (frank_unsynchronised d t) (frank_synchronised d t))
      (silent t (stopped r.1) (frank_stopped r.1))

  frank_sync : (y : SyncPacket) (s : State) → Frank (model.sync_arrival S now y s)
  unfolding model.sync_arrival model.synchronise
  frank_sync y s =
      let r = pairs.check S.source_limit S.announce_timeout (model.sync_pair now y) s.sync_pairs in
      let t = model.with_sync r.0 s in
      frank_accepted r.1 (model.synchronise now y.address t) (outcome t (stopped r.1))
      (frank_release (waiting.released now y.address t.waiting) (model.with_waiting (waiting.left y.address t.waiting) t))
      (silent t (stopped r.1) (frank_stopped r.1))

  ended : (d : DataPacket) → StepAnswer
  ended d = cond S.announce_stream_termination (says.UniverseTerminated d.cid d.universe) says.Nothing

  frank_ended : (d : DataPacket) → byte_length (ended d) ≡ 0
  unfolding ended
  frank_ended d = split S.announce_stream_termination (λ e. rw e) (λ e. rw e)

  frank_packet : (p : Packet) (s : State) → Frank (packet_step S now p s)
  unfolding packet_step model.data_step model.sync_step model.discovery_step ended
  frank_packet (data_packet d) s =
      either (d.preview && not S.process_preview_data) (outcome s says.Nothing) _ (silent s says.Nothing refl)
      (either d.terminated (outcome (model.terminated d s) (ended d)) _ (silent (model.terminated d s) (ended d) (frank_ended d))
      (either (listens d.universe s.listened) (model.data_arrival S now d s) (outcome s says.Nothing) (frank_data d s) (silent s says.Nothing refl)))
  frank_packet (sync_packet y) s =
      either (listens y.address s.listened) (model.sync_arrival S now y s) (outcome s says.Nothing) (frank_sync y s) (silent s says.Nothing refl)
  frank_packet (discovery_packet a) s =
      let r = discovery.arrived now a s.discovered in
      silent (model.with_discovered r.0 s) (listed S r.1) (frank_listed S r.1)

  frank_polled : (p : Packet) (r : State × Option pairs.Key) → Frank (polled S now p r)
  unfolding polled
  frank_polled p (s, none) = frank_packet p s
  frank_polled p (s, some k) = silent s (says.UniverseTimeout k.cid k.universe) refl

  frank_measured : (p : Packet) (s : State) (o : Option ℕ) → Frank (measured S now p s o)
  unfolding measured
  frank_measured p s none = frank_polled p (poll S now s)
  frank_measured p s (some n) = silent s (says.TooLong n) refl

frank_step : (m : Space) (S : Settings) (now : ℕ) (p : Packet) (s : State) → Frank (step m S now p s)
unfolding step
frank_step m S now p s =
    found (too_short m)
    (λ e. rw (e, step) (frank_measured S now p s (too_long p)))
    (λ n e. rw (e, step) (silent s (says.TooShort n) refl))

-- ── a run of the code is the definition's ──
front : (bytes out : List ℕ) (n : ℕ) → n ≡ length bytes → take n (over bytes out) ≡ bytes
front bytes out n e = ap (λ (k : ℕ). take k (over bytes out)) e ∙ take-append_seam bytes (drop (length bytes) out)

-- the answer names the length of what the step releases
named_length : {S : Settings} (h : Handling S) → byte_length h.answer ≡ length (records h.contract.released)
named_length {S} h =
    let c = h.contract in
    let f = (frank_step (space_in h.lent h.out) S h.timed.reading h.timed.packet (state_of h.receiver h.lent)).length_is in
    sym (ap (λ (o : Outcome). byte_length o.answer) c.outcome_is) ∙ f ∙ ap (λ (o : Outcome). length (records o.released)) c.outcome_is

-- what is seen of a step is the definition's answer
seen_step : {S : Settings} (h : Handling S)
    → answered h.timed.packet (step (space_in h.lent h.out) S h.timed.reading h.timed.packet (state_of h.receiver h.lent)) ≡ seen h.timed.packet h.answer h.out'
seen_step {S} h =
    let c = h.contract in
    let n = named_length h in
    let b : records c.released ≡ take (byte_length h.answer) h.out' =
    sym (ap (λ (x : List ℕ). take (byte_length h.answer) x) c.written ∙ front (records c.released) h.out (byte_length h.answer) n) in
    ap (answered h.timed.packet) c.outcome_is
    ∙ (λ i. record { number = step_number h.answer; values = step_values (name_of h.timed.packet) h.answer; bytes = b i })

-- "No stopped call writes output": nor does any step that releases nothing
nil : (xs : List ℕ) → length xs ≡ 0 → xs ≡ []
nil [] e = refl
nil (x ∷ xs) e = absurd (omega arith)

stop_silent : (a : StepAnswer) → step_number a ≢ 0 → byte_length a ≡ 0
stop_silent says.Nothing n = refl
stop_silent (says.Released r b) n = absurd (n refl)
stop_silent (says.TooLong k) n = refl
stop_silent (says.IllegalUniverse u) n = refl
stop_silent (says.UniverseTimeout c u) n = refl
stop_silent (says.UniverseTerminated c u) n = refl
stop_silent (says.SourcesExceeded k) n = refl
stop_silent (says.OutOfSequence a l d) n = refl
stop_silent says.DmxMergeError n = refl
stop_silent says.SourceDiscovered n = refl
stop_silent says.PairsFull n = refl
stop_silent says.ListenedFull n = refl
stop_silent says.WaitingFull n = refl
stop_silent says.PagesFull n = refl
stop_silent (says.TooShort k) n = refl
stop_silent (says.Repeated a l d) n = refl

pub silent_output : {S : Settings} (h : Handling S) → byte_length h.answer ≡ 0 → h.out' ≡ h.out
silent_output h e = h.contract.written ∙ ap (λ (b : List ℕ). over b h.out) (nil (records h.contract.released) (sym (named_length h) ∙ e))

pub stopped_output : {S : Settings} (h : Handling S) → step_number h.answer ≢ 0 → h.out' ≡ h.out
stopped_output h n = silent_output h (stop_silent h.answer n)

module _ {S : Settings} (lent : ℕ → Space) where
  -- step number i of the run is lent what the calls were lent
  pub run_is : (i : ℕ) (r : Receiver) (m : Memory) (hs : List (Handling S)) → Linked r m hs → ((j : ℕ) → lent (i + j) ≡ lent_to hs j)
      → (answers S lent i (state_of r m) (packets hs) ≡ all_seen hs) × (end S lent i (state_of r m) (packets hs) ≡ left_by r m hs)
  unfolding answers end left_by lent_to
  run_is i r m [] l e = (refl, refl)
  run_is i r m (h ∷ hs) l e =
      let p = h.timed in
      let z : i ≡ i + 0 = omega arith in
      let a : lent i ≡ space_in h.lent h.out = ap lent z ∙ e 0 in
      let x : outcome_of S lent i (state_of r m) p ≡ step (space_in h.lent h.out) S p.reading p.packet (state_of h.receiver h.lent) =
      λ k. step (a k) S p.reading p.packet (state_of (sym l.0 k) (sym l.1 k)) in
      let y : (outcome_of S lent i (state_of r m) p).state ≡ state_of h.receiver' h.lent' = ap (λ (o : Outcome). o.state) (x ∙ h.contract.outcome_is) in
      let t = run_is (suc i) h.receiver' h.lent' hs l.2 (λ j. let w : suc i + j ≡ i + suc j = omega arith in ap lent w ∙ e (suc j)) in (
        (λ k. (ap (answered p.packet) x ∙ seen_step h) k ∷ (ap (λ (v : State). answers S lent (suc i) v (packets hs)) y ∙ t.0) k),
        ap (λ (v : State). end S lent (suc i) v (packets hs)) y ∙ t.1,
      )

-- ── a fresh receiver that was told ──
told_is : (r : Receiver) (m : Memory) (calls : List TellingTo) (r' : Receiver) (m' : Memory) → Tells r m calls r' m' → tell (tellings calls) (state_of r m) ≡ state_of r' m'
unfolding tell
told_is r m [] r' m' l = λ i. state_of (l.0 i) (l.1 i)
told_is r m (t ∷ ts) r' m' l = next t.telling t.contract (told_is t.receiver' t.lent' ts r' m' l.2)
  where
    same : state_of r m ≡ state_of t.receiver t.lent
    same = λ i. state_of (sym l.0 i) (sym l.1 i)

    next : (w : Telling) → Told w t.receiver t.lent t.receiver' t.lent' → tell (tellings ts) (state_of t.receiver' t.lent') ≡ state_of r' m'
        → tell (w ∷ tellings ts) (state_of r m) ≡ state_of r' m'
    next (listen us) c e =
        ap (tell (tellings ts)) (ap (λ (s : State). (listen_call us s).0) same ∙ ap (λ (x : State × ListenAnswer). x.0) c.contract.outcome_is) ∙ e
    next (mute u) c e =
        ap (tell (tellings ts)) (ap (λ (s : State). (mute_call u s).0) same ∙ ap (λ (x : State × MuteAnswer). x.0) c.contract.outcome_is) ∙ e

pub prepared : (ts : List Telling) (r : Receiver) (m : Memory) → Prepared ts r m → state_of r m ≡ start ts
prepared ts r m p =
    sym (told_is p.fresh_receiver p.fresh_memory p.calls r m p.tells)
    ∙ ap (tell (tellings p.calls)) p.begins.state_is
    ∙ ap (λ (us : List Telling). tell us fresh) p.told

-- the whole run, from the fresh receiver on
told_run : {S : Settings} (ts : List Telling) (hs : List (Handling S)) (r : Receiver) (m : Memory) → Prepared ts r m → Linked r m hs
    → (answers S (lent_to hs) 0 (start ts) (packets hs) ≡ all_seen hs) × (end S (lent_to hs) 0 (start ts) (packets hs) ≡ left_by r m hs)
told_run {S} ts hs r m p l =
    let e = run_is (lent_to hs) 0 r m hs l (λ j. ap (lent_to hs) (zero-add j)) in
    let b = sym (prepared ts r m p) in (
      ap (λ (s : State). answers S (lent_to hs) 0 s (packets hs)) b ∙ e.0,
      ap (λ (s : State). end S (lent_to hs) 0 s (packets hs)) b ∙ e.1,
    )

-- ── demand 3 for the code ──
-- Two receivers made fresh and told to listen to the same universes, each handed its list of packets, every call by its contract. With the demand's
-- premises on the lists and on what was lent, and none of 10 to 13 among the answers that the caller sees, the caller sees the same answer and bytes
-- of each packet, and the receivers end alike.
pub code_demand_3 : (S : Settings) (told_north told_south : List Telling) (places : List ℕ) (north south : List (Handling S))
    (rn : Receiver) (mn : Memory) (rs : Receiver) (ms : Memory)
    → Prepared told_north rn mn → Prepared told_south rs ms → Linked rn mn north → Linked rs ms south
    → Asked S told_north told_south places (packets north) (packets south) (lent_to north) (lent_to south)
    → NeitherFull (all_seen north) (all_seen south)
    → Picks places (all_seen north) (all_seen south) × EndAlike (left_by rs ms south) (left_by rn mn north)
code_demand_3 S told_north told_south places north south rn mn rs ms pn ps ln ls asked fits =
    let (seen_north, end_north) = told_run told_north north rn mn pn ln in
    let (seen_south, end_south) = told_run told_south south rs ms ps ls in
    let d = demand_3 S told_north told_south places (packets north) (packets south) (lent_to north) (lent_to south) asked
    (record { north_fits = subst NoneFull (sym seen_north) fits.north_fits; south_fits = subst NoneFull (sym seen_south) fits.south_fits }) in (
      subst (λ (x : List Answered). Picks places x (all_seen south)) seen_north (subst (λ (x : List Answered). Picks places (answers S (lent_to north) 0 (start told_north) (packets north)) x) seen_south d.same_answers),
      subst (λ (x : State). EndAlike x (left_by rn mn north)) end_south (subst (λ (x : State). EndAlike (end S (lent_to south) 0 (start told_south) (packets south)) x) end_north d.same_end),
    )
