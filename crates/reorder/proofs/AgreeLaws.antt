-- The model's step is the ideal one wherever it gives none of 10 to 13, from a state that the runs of demand 3 reach.
-- Assumes nothing.
use Rattle.std.specs.Prelude.{◌≡◌, ◌≢◌, Bool, cond, ◌&&◌, ℕ, ltb, leb, eqb, length}
use Rattle.std.proofs.Math.Path.{refl, ap, subst}
use Rattle.std.proofs.Common.{sym, ◌∙◌, arith, eqb-true, le-ltb}
use Rattle.std.proofs.Math.Option.{Option, none, some}
use Rattle.std.proofs.Math.Bool.{true, false, not}
use mathlib.Core.List.{List, [], ◌∷◌}
use Rattle.std.proofs.lemmas.Bool.{eqb-false}
use Rattle.laws.specs.Cases.{split, found, clash}
use Rattle.laws.specs.Order.{ℕOrder}
use Rattle.laws.specs.Table.{find, store, find_key, store_known}
use Rattle.rules.specs.declared.Cid.{Cid}
use Rattle.settings.specs.declared.Settings.{Settings}
use Rattle.settings.specs.declared.MergeChoice.TheVariants.{HtpDmxMerge}
use Rattle.settings.specs.declared.SourceLimit.{SourceLimit}
use Rattle.pairs.specs.declared.Pair.{Pair}
use Rattle.pairs.specs.declared.Checked.{Checked}
use Rattle.pairs.specs.declared.Checked.TheVariants as checked
use Rattle.pairs.specs.Table.{Table, Key, key, key_of, pair_at, has, recorded, without, source_stop, full, sequence_stop, stop, settle, admit, check, swept, reached}
use Rattle.pairs.specs.Laws.{GoodTable}
use Rattle.pairs.proofs.Laws.{refused_either, source_stop_good, check_quiet, swept_quiet}
use Rattle.merge.specs.Merge.{Dmx}
use Rattle.waiting.specs.Waiting as waiting
use Rattle.waiting.specs.Laws.{wait, clear, move, hold}
use Rattle.waiting.proofs.Laws.{GoodWaiting, stored_hold}
use Rattle.discovery.specs.Discovery as discovery
use Rattle.discovery.specs.Discovery.{Discovered, Announcement, Note, noted, noting, lookup}
use Rattle.model.specs.declared.StepAnswer.{StepAnswer}
use Rattle.model.specs.declared.StepAnswer.TheVariants as says
use Rattle.model.specs.declared.ListenAnswer.TheVariants as listen
use Rattle.model.specs.Answer.{step_number}
use Rattle.model.specs.Packet.{DataPacket, SyncPacket, data_packet}
use Rattle.model.specs.State.{State, listens, itself}
use Rattle.model.specs.Invariant.{Heard}
use Rattle.model.specs.Step as model
use Rattle.model.specs.Step.{Outcome, outcome}
use Rattle.reorder.specs.Ideal.{Told, drop, change, learn, Effect, say, only, apply, unless, if_known, ending, arriving, releasing, data_effect, syncing, sync_effect, discovery_effect}
use Rattle.reorder.proofs.IdealLaws.{Good}
use Rattle.reorder.proofs.IdealLaws.{FitsPacket}

-- what an outcome leaves and tells
abbrev pub out : Outcome → State × Told
out o = (o.state, record { answer = o.answer; released = o.released })

abbrev pub done : Effect → State → State × Told
done e s = (apply e s, e.told)

-- "neither run gives 10 to 13"
unfoldable pub capped : StepAnswer → Bool
capped a = leb 10 (step_number a) && leb (step_number a) 13

-- ── the pair tables ──
-- under the limit: a source that has no pair yet finds room
abbrev pub Room : SourceLimit → Cid → Table → Type 0
Room limit c t = has t.pairs c ≡ false → reached limit (length t.sources) ≡ false

stop_agree : (limit : SourceLimit) (p : Pair) (t : Table) → GoodTable t → Room limit p.cid t → stop limit p t ≢ some checked.PairsFull
    → stop limit p t ≡ sequence_stop p.sequence (pair_at (key_of p) t.pairs)
unfolding stop
stop_agree limit p t g r n =
    let e = source_stop_good limit p.cid t g in
    let f : source_stop limit p.cid t ≡ none = split (has t.pairs p.cid) (λ h. e ∙ (rw h)) (λ h. e ∙ (rw (h, r h))) in
    split (full p t) (λ h. absurd (n (rw (f, h)))) (λ h. rw (f, h))

check_agree : (limit : SourceLimit) (announce : Bool) (p : Pair) (t : Table) → announce ≡ false → swept p.reading t ≡ t
    → check limit announce p t ≡ settle p t (stop limit p t)
unfolding admit
check_agree limit announce p t off e =
    check_quiet limit announce p t t (rw off (swept_quiet p.reading t ∙ ap (λ (u : Table). (u, none)) e))

-- ── an effect that only answers ──
apply_only : (a : StepAnswer) (s : State) → apply (only a) s ≡ s
unfolding apply change move learn
apply_only a s = refl

-- ── termination ──
ended_sync : (k : Key) (o : Option Pair) (t : Table) → cond (model.known o) (without k t) t ≡ change (if_known o (drop k)) t
unfolding change
ended_sync k none t = refl
ended_sync k (some p) t = refl

terminated_agree : (S : Settings) (d : DataPacket) (s : State)
    → model.terminated d s ≡ apply (ending S d (pair_at (key d.cid d.universe) s.data_pairs.pairs)) s
unfolding model.terminated apply ending change move learn
terminated_agree S d s =
    let k = key d.cid d.universe in
    let e = ended_sync k (pair_at k s.data_pairs.pairs) s.sync_pairs in
    λ i. record {
      data_pairs = without k s.data_pairs;
      sync_pairs = e i;
      waiting = s.waiting;
      listened = s.listened;
      discovered = discovery.ended d.cid d.universe s.discovered;
    }

ending_agree : (S : Settings) (d : DataPacket) (s : State)
    → out (outcome (model.terminated d s) (cond S.announce_stream_termination (says.UniverseTerminated d.cid d.universe) says.Nothing))
    ≡ done (ending S d (pair_at (key d.cid d.universe) s.data_pairs.pairs)) s
ending_agree S d s =
    unfold ending in ap {B = State × Told} (λ (x : State). (x, say (cond S.announce_stream_termination (says.UniverseTerminated d.cid d.universe) says.Nothing)))
    (unfold ending in terminated_agree S d s)

-- the tests of a data packet, one after the other
in_turn : (s : State) (a b c : Bool) (w x y z : Outcome) (e f g : Effect) → out w ≡ done e s → out x ≡ done f s → (capped y.answer ≡ false → out y ≡ done g s)
    → c ≡ true → capped (cond a w (cond b x (cond c y z))).answer ≡ false
    → out (cond a w (cond b x (cond c y z))) ≡ done (cond a e (cond b f g)) s
in_turn s true b c w x y z e f g p q r t n = p
in_turn s false true c w x y z e f g p q r t n = q
in_turn s false false true w x y z e f g p q r t n = r n
in_turn s false false false w x y z e f g p q r t n = clash t refl

-- ── listening to an address that is listened to already ──
heard_already : (a : ℕ) (L : List ℕ) → Heard L → listens a L ≡ true → model.listen_all (a ∷ []) L ≡ (L, listen.Listening)
unfolding model.listen_all model.illegal model.joined_by
heard_already a L h l =
    let g = h.all_legal a l in
    let n : model.illegal (a ∷ []) ≡ none = rw g in
    let e : store ltb itself a L ≡ L = found (find ltb itself a L)
    (λ n. clash l (rw n))
    (λ u n. store_known ltb itself ℕOrder a L h.ascends (n ∙ ap {B = Option ℕ} some (find_key ltb itself ℕOrder a u L n))) in
    let r = le-ltb 1024 (length L) h.few in
    cc

listens_on : (S : Settings) (now : ℕ) (d : DataPacket) (s : State) → Heard s.listened → listens d.address s.listened ≡ true
    → model.synchronised S now d s ≡ model.stored S now d s
unfolding model.synchronised model.heard
listens_on S now d s H h = rw (heard_already d.address s.listened H h)

-- ── a release ──
release_agree : (ds : List Dmx) (s : State) → out (model.release ds s) ≡ (s, releasing ds)
unfolding model.release releasing
release_agree [] s = refl
release_agree (d ∷ ds) s = refl

-- ── a data packet that is accepted ──
stored_agree : (address_at first_of : ℕ → ℕ) (S : Settings) (now : ℕ) (d : DataPacket) (t : Table) (s : State) → S.merge ≡ HtpDmxMerge
    → GoodWaiting address_at first_of s.waiting → FitsPacket address_at first_of S now (data_packet d) → eqb d.address 0 ≡ false
    → capped (model.stored S now d (model.with_data t s)).answer ≡ false
    → out (model.stored S now d (model.with_data t s)) ≡ (model.with_waiting (hold (model.dmx now d) s.waiting) (model.with_data t s), say says.Nothing)
unfolding model.stored capped
stored_agree address_at first_of S now d t s m g f z n =
    let p = model.dmx now d in
    let e = stored_hold address_at first_of p s.waiting g (f, λ q. eqb-false d.address 0 z (f.of_address ∙ q))
    (λ w. let y : true ≡ false = rw (m, w) at n in clash refl y) in
    rw (m, e)

-- ── arrivals ──
-- what follows a checked arrival of data, and of a synchronisation packet
data_after : Settings → ℕ → DataPacket → State → Table × Checked → Outcome
data_after S now d s r = model.if_accepted r.1 (model.accepted S now d (model.with_data r.0 s)) (outcome (model.with_data r.0 s) (model.stopped r.1))

sync_after : ℕ → SyncPacket → State → Table × Checked → Outcome
sync_after now y s r = model.if_accepted r.1 (model.synchronise now y.address (model.with_sync r.0 s)) (outcome (model.with_sync r.0 s) (model.stopped r.1))

-- 10 would be capped
data_not_full : (S : Settings) (now : ℕ) (d : DataPacket) (s : State) (o : Option Checked)
    → capped (data_after S now d s (settle (model.data_pair now d) s.data_pairs o)).answer ≡ false → o ≢ some checked.PairsFull
unfolding data_after settle model.if_accepted capped
data_not_full S now d s o n e = let y : true ≡ false = rw e at n in let z : ◌≡◌ {A = ℕ} 0 1 = cc in omega arith

sync_not_full : (now : ℕ) (y : SyncPacket) (s : State) (o : Option Checked)
    → capped (sync_after now y s (settle (model.sync_pair now y) s.sync_pairs o)).answer ≡ false → o ≢ some checked.PairsFull
unfolding sync_after settle model.if_accepted capped
sync_not_full now y s o n e = let y : true ≡ false = rw e at n in let z : ◌≡◌ {A = ℕ} 0 1 = cc in omega arith

-- a refused sequence leaves all
data_refused : (S : Settings) (now : ℕ) (d : DataPacket) (s : State) (o : Option Pair) (a : Checked) → sequence_stop d.sequence o ≡ some a
    → out (data_after S now d s (s.data_pairs, a)) ≡ (s, say (model.stopped a))
data_refused S now d s o a e = refused_either (λ x. out (data_after S now d s (s.data_pairs, x)) ≡ (s, say (model.stopped x))) d.sequence o a e (λ x y z. unfold data_after model.if_accepted in refl) (λ x y z. unfold data_after model.if_accepted in refl)

sync_refused : (now : ℕ) (y : SyncPacket) (s : State) (o : Option Pair) (a : Checked) → sequence_stop y.sequence o ≡ some a
    → out (sync_after now y s (s.sync_pairs, a)) ≡ (s, say (model.stopped a))
sync_refused now y s o a e = refused_either (λ x. out (sync_after now y s (s.sync_pairs, x)) ≡ (s, say (model.stopped x))) y.sequence o a e (λ x y z. unfold sync_after model.if_accepted in refl) (λ x y z. unfold sync_after model.if_accepted in refl)

-- ── a synchronisation packet of address 0 ──
-- it is not taken, since 0 is illegal and so never listened to
pub no_zero : (L : List ℕ) → Heard L → listens 0 L ≡ false
no_zero L H = split (listens 0 L) (λ h. clash (H.all_legal 0 h) refl) (λ h. h)

pub zero_not_taken : (S : Settings) (now : ℕ) (y : SyncPacket) (s : State) → Heard s.listened → y.address ≡ 0
    → model.sync_step S now y s ≡ outcome s says.Nothing
unfolding model.sync_step
zero_not_taken S now y s H z = rw (z, no_zero s.listened H)

module _ (address_at first_of : ℕ → ℕ) (S : Settings) (L : List ℕ) (off : S.announce_timeout ≡ false) (highest : S.merge ≡ HtpDmxMerge) (H : Heard L) (now : ℕ) where
  -- an accepted data packet: released, or stored
  module _ (d : DataPacket) (s : State) (l : s.listened ≡ L) where
    t : Table
    t = recorded (model.data_pair now d) s.data_pairs

    goal : Effect
    goal = cond (eqb d.address 0) (arriving now d (clear d.universe) (releasing (model.dmx now d ∷ []))) (arriving now d (wait (model.dmx now d)) (say says.Nothing))

    at_once : eqb d.address 0 ≡ true → out (model.accepted S now d (model.with_data t s)) ≡ done goal s
    unfolding t goal model.accepted model.unsynchronised waiting.cleared apply arriving change move learn
    at_once z = rw z (release_agree (model.dmx now d ∷ []) _)

    goes_on : eqb d.address 0 ≡ false → listens d.address L ≡ true → model.accepted S now d (model.with_data t s) ≡ model.stored S now d (model.with_data t s)
    unfolding model.accepted
    goes_on z h = rw z (listens_on S now d (model.with_data t s) (subst Heard (sym l) H) (subst (λ (x : List ℕ). listens d.address x ≡ true) (sym l) h))

    held : eqb d.address 0 ≡ false → (model.with_waiting (hold (model.dmx now d) s.waiting) (model.with_data t s), say says.Nothing) ≡ done goal s
    unfolding t goal apply arriving change move learn
    held z = rw z

    waits : Good address_at first_of S s → FitsPacket address_at first_of S now (data_packet d) → eqb d.address 0 ≡ false → listens d.address L ≡ true
        → capped (model.accepted S now d (model.with_data t s)).answer ≡ false
        → out (model.accepted S now d (model.with_data t s)) ≡ done goal s
    waits g f z h n =
        let p = goes_on z h in
        ap out p ∙ stored_agree address_at first_of S now d t s highest g.good_waiting f z (rw p at n) ∙ held z

    accepted_agree : Good address_at first_of S s → FitsPacket address_at first_of S now (data_packet d)
        → (eqb d.address 0 ≡ false → listens d.address L ≡ true)
        → capped (model.accepted S now d (model.with_data t s)).answer ≡ false
        → out (model.accepted S now d (model.with_data t s)) ≡ done goal s
    accepted_agree g f h n = split (eqb d.address 0) at_once (λ z. waits g f z (h z) n)

  -- ── an arriving data packet ──
  module _ (d : DataPacket) (s : State) (g : Good address_at first_of S s) (f : FitsPacket address_at first_of S now (data_packet d)) (l : s.listened ≡ L)
      (h : eqb d.address 0 ≡ false → listens d.address L ≡ true)
      (r : Room S.source_limit d.cid s.data_pairs) (w : swept now s.data_pairs ≡ s.data_pairs) where
    p : Pair
    p = model.data_pair now d

    o : Option Pair
    o = pair_at (key d.cid d.universe) s.data_pairs.pairs

    as_settled : model.data_arrival S now d s ≡ data_after S now d s (settle p s.data_pairs (stop S.source_limit p s.data_pairs))
    unfolding model.data_arrival data_after p
    as_settled = ap (data_after S now d s) (check_agree S.source_limit S.announce_timeout (model.data_pair now d) s.data_pairs off w)

    let_in : stop S.source_limit p s.data_pairs ≡ none → model.data_arrival S now d s ≡ model.accepted S now d (model.with_data (t d s l) s)
    unfolding data_after settle model.if_accepted p t
    let_in e = as_settled ∙ ap (λ (x : Option Checked). data_after S now d s (settle p s.data_pairs x)) e

    kept_out : (a : Checked) → stop S.source_limit p s.data_pairs ≡ some a → model.data_arrival S now d s ≡ data_after S now d s (s.data_pairs, a)
    unfolding settle
    kept_out a e = as_settled ∙ ap (λ (x : Option Checked). data_after S now d s (settle p s.data_pairs x)) e

    by_sequence : capped (model.data_arrival S now d s).answer ≡ false → stop S.source_limit p s.data_pairs ≡ sequence_stop d.sequence o
    unfolding p o
    by_sequence n =
        stop_agree S.source_limit p s.data_pairs g.good_data r
        (data_not_full S now d s (stop S.source_limit p s.data_pairs) (rw as_settled at n))

    arrival_agree : capped (model.data_arrival S now d s).answer ≡ false
        → out (model.data_arrival S now d s) ≡ done (unless (sequence_stop d.sequence o) (goal d s l)) s
    unfolding unless
    arrival_agree n =
        let e = by_sequence n in
        found (sequence_stop d.sequence o)
        (λ q.
        let x = let_in (e ∙ q) in
        ap out x ∙ accepted_agree d s l g f h (rw x at n) ∙ ap (λ (y : Option Checked). done (unless y (goal d s l)) s) (sym q))
        (λ a q.
        let x = kept_out a (e ∙ q) in
        ap out x ∙ data_refused S now d s o a q ∙ ap (λ (u : State). (u, say (model.stopped a))) (sym (apply_only (model.stopped a) s)) ∙ ap (λ (y : Option Checked). done (unless y (goal d s l)) s) (sym q))

    pub data_agree : listens d.universe L ≡ true → capped (model.data_step S now d s).answer ≡ false
        → out (model.data_step S now d s) ≡ done (data_effect S now d (pair_at (key d.cid d.universe) s.data_pairs.pairs)) s
    unfolding model.data_step data_effect goal o
    data_agree u n =
        in_turn s (d.preview && not S.process_preview_data) d.terminated (listens d.universe s.listened) _ _ _ _ _ _ _
        (ap (λ (x : State). (x, say says.Nothing)) (sym (apply_only says.Nothing s)))
        (ending_agree S d s)
        arrival_agree
        (subst (λ (x : List ℕ). listens d.universe x ≡ true) (sym l) u)
        n

  -- ── a synchronisation packet ──
  module _ (y : SyncPacket) (s : State) (g : Good address_at first_of S s) (l : s.listened ≡ L)
      (r : Room S.source_limit y.cid s.sync_pairs) (w : swept now s.sync_pairs ≡ s.sync_pairs) where
    sync_p : Pair
    sync_p = model.sync_pair now y

    sync_o : Option Pair
    sync_o = pair_at (key y.cid y.address) s.sync_pairs.pairs

    taken : List Dmx
    taken = waiting.released now y.address s.waiting

    sync_settled : model.sync_arrival S now y s ≡ sync_after now y s (settle sync_p s.sync_pairs (stop S.source_limit sync_p s.sync_pairs))
    unfolding model.sync_arrival sync_after sync_p
    sync_settled = ap (sync_after now y s) (check_agree S.source_limit S.announce_timeout (model.sync_pair now y) s.sync_pairs off w)

    sync_in : stop S.source_limit sync_p s.sync_pairs ≡ none
        → model.sync_arrival S now y s ≡ model.synchronise now y.address (model.with_sync (recorded sync_p s.sync_pairs) s)
    unfolding sync_after settle model.if_accepted sync_p
    sync_in e = sync_settled ∙ ap (λ (x : Option Checked). sync_after now y s (settle sync_p s.sync_pairs x)) e

    sync_out : (a : Checked) → stop S.source_limit sync_p s.sync_pairs ≡ some a → model.sync_arrival S now y s ≡ sync_after now y s (s.sync_pairs, a)
    unfolding settle
    sync_out a e = sync_settled ∙ ap (λ (x : Option Checked). sync_after now y s (settle sync_p s.sync_pairs x)) e

    sync_sequence : capped (model.sync_arrival S now y s).answer ≡ false → stop S.source_limit sync_p s.sync_pairs ≡ sequence_stop y.sequence sync_o
    unfolding sync_p sync_o
    sync_sequence n =
        stop_agree S.source_limit sync_p s.sync_pairs g.good_sync r
        (sync_not_full now y s (stop S.source_limit sync_p s.sync_pairs) (rw sync_settled at n))

    sync_released : out (model.synchronise now y.address (model.with_sync (recorded sync_p s.sync_pairs) s)) ≡ done (syncing now y taken) s
    unfolding model.synchronise apply syncing change move learn sync_p taken
    sync_released = release_agree (waiting.released now y.address s.waiting) _

    sync_arrival_agree : capped (model.sync_arrival S now y s).answer ≡ false
        → out (model.sync_arrival S now y s) ≡ done (unless (sequence_stop y.sequence sync_o) (syncing now y taken)) s
    unfolding unless
    sync_arrival_agree n =
        let e = sync_sequence n in
        found (sequence_stop y.sequence sync_o)
        (λ q. ap out (sync_in (e ∙ q)) ∙ sync_released ∙ ap (λ (x : Option Checked). done (unless x (syncing now y taken)) s) (sym q))
        (λ a q.
        ap out (sync_out a (e ∙ q)) ∙ sync_refused now y s sync_o a q
        ∙ ap (λ (u : State). (u, say (model.stopped a))) (sym (apply_only (model.stopped a) s))
        ∙ ap (λ (x : Option Checked). done (unless x (syncing now y taken)) s) (sym q))

    pub sync_agree : (eqb y.address 0 ≡ false → listens y.address L ≡ true)
        → capped (model.sync_step S now y s).answer ≡ false
        → out (model.sync_step S now y s)
        ≡ done (sync_effect now y (pair_at (key y.cid y.address) s.sync_pairs.pairs) (waiting.released now y.address s.waiting)) s
    unfolding model.sync_step sync_effect sync_o taken
    sync_agree h n =
        split (eqb y.address 0)
        (λ b.
        ap out (zero_not_taken S now y s (subst Heard (sym l) H) (eqb-true y.address 0 b))
        ∙ (rw b (ap (λ (x : State). (x, say says.Nothing)) (sym (apply_only says.Nothing s)))))
        (λ b.
        let v : listens y.address s.listened ≡ true = subst (λ (x : List ℕ). listens y.address x ≡ true) (sym l) (h b) in
        rw (b, v) (sync_arrival_agree (rw v at n)))

  -- ── a discovery packet ──
  pub discovery_agree : (a : Announcement) (s : State) → capped (model.discovery_step S now a s).answer ≡ false
      → out (model.discovery_step S now a s) ≡ done (discovery_effect S (noted now a (lookup a.cid s.discovered.partial))) s
  unfolding model.discovery_step discovery.arrived discovery.taken discovery_effect apply change move learn capped
  discovery_agree a s n =
      split (leb discovery.capacity (discovery.pages_held s.discovered))
      (λ h. let y : true ≡ false = rw h at n in clash refl y)
      (λ h. rw h)
