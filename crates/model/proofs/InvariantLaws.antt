-- What every list of calls from a fresh receiver keeps: tables in order and within their counts, each listed CID with a pair, each CID once in
-- each discovery list, at most 64 waiting, 64 pages, 1,024 pairs and 1,024 listened universes, all of them legal.
-- Assumes nothing.
use Rattle.std.specs.Prelude.{◌≡◌, ◌≢◌, Bool, true, false, cond, ◌&&◌, ℕ, ◌≤◌, ltb, eqb, length}
use Rattle.std.proofs.Math.Path.{refl, subst}
use Rattle.std.proofs.Common.{sym, arith, ltb-false}
use Rattle.std.proofs.Math.Option.{Option, none, some}
use Rattle.std.proofs.Math.Bool.{not}
use mathlib.Core.List.{List, [], ◌∷◌}
use Rattle.laws.specs.Cases.{split, found, clash, missing}
use Rattle.laws.specs.Order.{ℕOrder, keyed, tri}
use Rattle.laws.specs.Table.{find, store, remove, Ascending, find_store_other, ascending_store, ascending_remove, length_remove, find_remove_other, find_remove_same}
use Rattle.rules.specs.Universe.{legal}
use Rattle.settings.specs.declared.Settings.{Settings}
use Rattle.pairs.specs.declared.Pair.{Pair}
use Rattle.pairs.specs.declared.Checked.{Checked}
use Rattle.pairs.specs.Table as pairs
use Rattle.pairs.proofs.Laws as pair_laws
use Rattle.merge.specs.Merge.{Dmx, most_values}
use Rattle.waiting.specs.Waiting as waiting
use Rattle.waiting.proofs.Laws as waiting_laws
use Rattle.discovery.specs.Discovery as discovery
use Rattle.discovery.specs.Discovery.{Announcement, most_name, most_universes}
use Rattle.discovery.specs.Kept as discovery_laws
use Rattle.discovery.proofs.KeptLaws as discovery_laws_laws
use Rattle.model.specs.declared.StepAnswer.{StepAnswer}
use Rattle.model.specs.declared.ListenAnswer.{ListenAnswer}
use Rattle.model.specs.declared.ListenAnswer.TheVariants as listening
use Rattle.model.specs.Packet.{DataPacket, SyncPacket, Packet, data_packet, sync_packet, discovery_packet, over, too_long}
use Rattle.model.specs.State.{State, fresh, listens, itself}
use Rattle.model.specs.Step.{Space, Outcome, outcome, with_data, with_sync, with_waiting, with_listened, with_discovered, most_listened, illegal, joined_by, listen_all, too_short, short, poll_waiting, poll_sync, poll, if_accepted, release, terminated, unsynchronised, stored, heard, synchronised, accepted, data_arrival, data_step, synchronise, sync_arrival, sync_step, discovery_step, packet_step, polled, measured, step, dmx, data_pair, sync_pair, known, waiting_bytes, page_bytes}
use Rattle.model.specs.Calls.{poll_call, polled_by, expiry_call, listen_call, muted, mute_call, clear_call, clear_all_call, reset_pairs_call, reset_discovery_call, reset_call, Call, on_packet, on_poll, on_expiry, on_listen, on_mute, on_ask, on_clear, on_clear_all, on_reset_pairs, on_reset_discovery, on_reset, call, run}
use Rattle.model.specs.Invariant.{Heard, Kept, StateKept, TableKept}

-- ── what a fresh receiver can be told to listen to ──
listens_store : (u v : ℕ) (L : List ℕ) → listens u (store ltb itself v L) ≡ true → u ≢ v → listens u L ≡ true
listens_store u v L h n = rw (find_store_other ltb itself ℕOrder u v L n) at h

joined_heard : (us L : List ℕ) → illegal us ≡ none → Ascending ltb itself L → ((u : ℕ) → listens u L ≡ true → legal u ≡ true)
    → Ascending ltb itself (joined_by us L) × ((u : ℕ) → listens u (joined_by us L) ≡ true → legal u ≡ true)
unfolding illegal joined_by
joined_heard [] L i a l = (a, l)
joined_heard (v ∷ us) L i a l =
    split (legal v)
    (λ g. joined_heard us (store ltb itself v L) (rw g at i) (ascending_store ltb itself ℕOrder v L a)
    (λ u h. keyed ltb ℕOrder u v (λ e. rw e g) (λ n. l u (listens_store u v L h n))))
    (λ g. missing v refl (rw g at i))

-- a call that is refused leaves the list
listen_kept : (us L : List ℕ) (u : ℕ) → illegal us ≡ some u → (listen_all us L).0 ≡ L
unfolding listen_all
listen_kept us L u e = cc

listen_full : (us L : List ℕ) → illegal us ≡ none → ltb most_listened (length (joined_by us L)) ≡ true → (listen_all us L).0 ≡ L
unfolding listen_all
listen_full us L e f = cc

listen_done : (us L : List ℕ) → illegal us ≡ none → ltb most_listened (length (joined_by us L)) ≡ false → (listen_all us L).0 ≡ joined_by us L
unfolding listen_all
listen_done us L e f = cc

pub listen_heard : (us L : List ℕ) → Heard L → Heard (listen_all us L).0
listen_heard us L h =
    found (illegal us)
    (λ e. split (ltb most_listened (length (joined_by us L)))
    (λ f. rw (listen_full us L e f) h)
    (λ f.
    let j = joined_heard us L e h.ascends h.all_legal in
    rw (listen_done us L e f) (record { ascends = j.0; few = ltb-false 1024 (length (joined_by us L)) f; all_legal = j.1 })))
    (λ u e. rw (listen_kept us L u e) h)

listens_remove : (u v : ℕ) (L : List ℕ) → Ascending ltb itself L → listens u (remove ltb itself v L) ≡ true → listens u L ≡ true
listens_remove u v L a h =
    keyed ltb ℕOrder u v
    (λ e.
    let z : false ≡ true = rw (e, find_remove_same ltb itself ℕOrder v L a) at h in
    clash z refl)
    (λ n. rw (find_remove_other ltb itself ℕOrder u v L a n) at h)

pub remove_heard : (v : ℕ) (L : List ℕ) → Heard L → Heard (remove ltb itself v L)
remove_heard v L h = record {
  ascends = ascending_remove ltb itself ℕOrder v L h.ascends;
  few = let r = length_remove ltb itself ℕOrder v L in let f = h.few in omega arith;
  all_legal = λ u l. h.all_legal u (listens_remove u v L h.ascends l);
}

pub mute_heard : (v : ℕ) (L : List ℕ) → Heard L → Heard (muted v L).0
unfolding muted
mute_heard v L h =
    split (legal v)
    (λ e. split (listens v L) (λ f. rw (e, f) (remove_heard v L h)) (λ f. rw (e, f) h))
    (λ e. rw e h)

pub heard_fresh : Heard fresh.listened
unfolding find
heard_fresh = record {
  ascends = (tt, tt);
  few = omega arith;
  all_legal = λ u h. keyed ltb ℕOrder u 64214 (λ e. rw e) (λ n. clash h (absent u n));
}
  where
    absent : (u : ℕ) → u ≢ 64214 → listens u fresh.listened ≡ false
    absent u n = tri ltb ℕOrder u 64214 (λ p q. rw (q, p)) (λ e. absurd (n e)) (λ p q. rw q)

-- ── each part, through each call ──
empty_kept : TableKept pairs.empty
empty_kept = record { ordered = pair_laws.good_ordered pairs.empty pair_laws.good_empty (omega arith); good = pair_laws.good_empty }

swept_kept : (announce : Bool) (now : ℕ) (t : pairs.Table) → TableKept t → TableKept (pairs.sweep announce now t).0
swept_kept announce now t k = record { ordered = pair_laws.ordered_sweep announce now t k.ordered; good = pair_laws.good_sweep announce now t k.good }

checked_kept : (S : Settings) (p : Pair) (t : pairs.Table) → TableKept t → TableKept (pairs.check S.source_limit S.announce_timeout p t).0
checked_kept S p t k = record {
  ordered = pair_laws.ordered_check S.source_limit S.announce_timeout p t k.ordered;
  good = pair_laws.good_check S.source_limit S.announce_timeout p t k.good;
}

without_kept : (k : pairs.Key) (t : pairs.Table) → TableKept t → TableKept (pairs.without k t)
without_kept k t h = record { ordered = pair_laws.ordered_without k t h.ordered; good = pair_laws.good_without k t h.good }

pub kept_fresh : Kept fresh
unfolding discovery.page_count
kept_fresh = record {
  kept_data = empty_kept;
  kept_sync = empty_kept;
  kept_waiting = waiting_laws.ordered_none;
  kept_listened = heard_fresh;
  kept_discovered = record { partial_once = tt; listed_once = tt; partial_proper = tt; listed_proper = tt; fit = omega arith };
}

module _ (s : State) (k : Kept s) where
  data_anew : (t : pairs.Table) → TableKept t → Kept (with_data t s)
  data_anew t h = record { kept_data = h; kept_sync = k.kept_sync; kept_waiting = k.kept_waiting; kept_listened = k.kept_listened; kept_discovered = k.kept_discovered }

  sync_anew : (t : pairs.Table) → TableKept t → Kept (with_sync t s)
  sync_anew t h = record { kept_data = k.kept_data; kept_sync = h; kept_waiting = k.kept_waiting; kept_listened = k.kept_listened; kept_discovered = k.kept_discovered }

  waiting_anew : (ds : List Dmx) → waiting.Ordered ds → Kept (with_waiting ds s)
  waiting_anew ds h = record { kept_data = k.kept_data; kept_sync = k.kept_sync; kept_waiting = h; kept_listened = k.kept_listened; kept_discovered = k.kept_discovered }

  listened_anew : (l : List ℕ) → Heard l → Kept (with_listened l s)
  listened_anew l h = record { kept_data = k.kept_data; kept_sync = k.kept_sync; kept_waiting = k.kept_waiting; kept_listened = h; kept_discovered = k.kept_discovered }

  discovered_anew : (d : discovery.Discovered) → discovery.Ordered d → Kept (with_discovered d s)
  discovered_anew d h = record { kept_data = k.kept_data; kept_sync = k.kept_sync; kept_waiting = k.kept_waiting; kept_listened = k.kept_listened; kept_discovered = h }

-- ── the poll ──
poll_waiting_kept : (now : ℕ) (s : State) → Kept s → Kept (poll_waiting now s).0
unfolding poll_waiting
poll_waiting_kept now s k = waiting_anew s k _ (waiting_laws.ordered_swept now s.waiting k.kept_waiting)

poll_sync_kept : (S : Settings) (now : ℕ) (s : State) → Kept s → Kept (poll_sync S now s).0
poll_sync_kept S now s k =
    let r = pairs.sweep S.announce_timeout now s.sync_pairs in
    let h = sync_anew s k r.0 (swept_kept S.announce_timeout now s.sync_pairs k.kept_sync) in
    found r.1
    (λ e. let q : (poll_sync S now s).0 ≡ (poll_waiting now (with_sync r.0 s)).0 = unfold poll_sync in cc in subst Kept (sym q) (poll_waiting_kept now _ h))
    (λ j e. let q : (poll_sync S now s).0 ≡ with_sync r.0 s = unfold poll_sync in cc in subst Kept (sym q) h)

pub poll_kept : (S : Settings) (now : ℕ) (s : State) → Kept s → Kept (poll S now s).0
poll_kept S now s k =
    let r = pairs.sweep S.announce_timeout now s.data_pairs in
    let h = data_anew s k r.0 (swept_kept S.announce_timeout now s.data_pairs k.kept_data) in
    found r.1
    (λ e. let q : (poll S now s).0 ≡ (poll_sync S now (with_data r.0 s)).0 = unfold poll in cc in subst Kept (sym q) (poll_sync_kept S now _ h))
    (λ j e. let q : (poll S now s).0 ≡ with_data r.0 s = unfold poll in cc in subst Kept (sym q) h)

-- ── the packets ──
-- either way of a test, with its equation and without, and of an arrival
pub cond_by {ℓ} : {A : Type 0} (P : A → Type ℓ) (b : Bool) (x y : A) → (b ≡ true → P x) → (b ≡ false → P y) → P (cond b x y)
cond_by P true x y f g = f refl
cond_by P false x y f g = g refl

pub cond_either {ℓ} : {A : Type 0} (P : A → Type ℓ) (b : Bool) (x y : A) → P x → P y → P (cond b x y)
cond_either P b x y p q = cond_by P b x y (λ e. p) (λ e. q)

pub if_accepted_either : (P : Outcome → Type 0) (a : Checked) (go stay : Outcome) → P go → P stay → P (if_accepted a go stay)
unfolding if_accepted
if_accepted_either P a go stay x y = cond_either P (pairs.accepted a) go stay x y

pub heard_either : (P : Outcome → Type 0) (a : ListenAnswer) (go : Outcome) (s : State) → P go → ((w : StepAnswer) → P (outcome s w)) → P (heard a go s)
unfolding heard
heard_either P listening.Listening go s x y = x
heard_either P (listening.IllegalUniverse u) go s x y = y _
heard_either P listening.ListenedFull go s x y = y _

pub release_state : (ds : List Dmx) (s : State) → (release ds s).state ≡ s
unfolding release
release_state [] s = refl
release_state (d ∷ ds) s = refl

release_kept : (ds : List Dmx) (s : State) → Kept s → Kept (release ds s).state
release_kept ds s k = rw (release_state ds s) k

terminated_kept : (d : DataPacket) (s : State) → Kept s → Kept (terminated d s)
unfolding terminated
terminated_kept d s k =
    let j = pairs.key d.cid d.universe in
    record {
      kept_data = without_kept j s.data_pairs k.kept_data;
      kept_sync = cond_either TableKept (known (pairs.pair_at j s.data_pairs.pairs)) _ _ (without_kept j s.sync_pairs k.kept_sync) k.kept_sync;
      kept_waiting = k.kept_waiting;
      kept_listened = k.kept_listened;
      kept_discovered = discovery_laws_laws.ordered_ended d.cid d.universe s.discovered k.kept_discovered;
    }

module _ (S : Settings) (now : ℕ) (d : DataPacket) (fits : length d.values ≤ most_values) where
  stored_kept : (s : State) → Kept s → StateKept (stored S now d s)
  unfolding stored
  stored_kept s k = waiting_anew s k _ (waiting_laws.ordered_stored S.merge (dmx now d) s.waiting k.kept_waiting fits)

  accepted_kept : (s : State) → Kept s → StateKept (accepted S now d s)
  unfolding accepted unsynchronised synchronised
  accepted_kept s k =
      cond_either StateKept (eqb d.address 0) _ _
      (release_kept _ _ (waiting_anew s k _ (waiting_laws.ordered_cleared d.universe s.waiting k.kept_waiting)))
      (heard_either StateKept _ _ s (stored_kept _ (listened_anew s k _ (listen_heard (d.address ∷ []) s.listened k.kept_listened))) (λ w. k))

  data_kept : (s : State) → Kept s → StateKept (data_step S now d s)
  unfolding data_step data_arrival
  data_kept s k =
      let h = data_anew s k _ (checked_kept S (data_pair now d) s.data_pairs k.kept_data) in
      cond_either StateKept (d.preview && not S.process_preview_data) _ _ k
      (cond_either StateKept d.terminated _ _ (terminated_kept d s k)
      (cond_either StateKept (listens d.universe s.listened) _ _ (if_accepted_either StateKept _ _ _ (accepted_kept _ h) h) k))

sync_kept : (S : Settings) (now : ℕ) (y : SyncPacket) (s : State) → Kept s → StateKept (sync_step S now y s)
unfolding sync_step sync_arrival synchronise
sync_kept S now y s k =
    let h = sync_anew s k _ (checked_kept S (sync_pair now y) s.sync_pairs k.kept_sync) in
    cond_either StateKept (listens y.address s.listened) _ _
    (if_accepted_either StateKept _ _ _
    (release_kept _ _ (waiting_anew _ h _ (waiting_laws.ordered_left y.address s.waiting k.kept_waiting))) h)
    k

discovery_kept : (S : Settings) (now : ℕ) (a : Announcement) (s : State) → discovery_laws.Fitting a → Kept s → StateKept (discovery_step S now a s)
unfolding discovery_step
discovery_kept S now a s f k = discovered_anew s k _ (discovery_laws_laws.ordered_arrived now a s.discovered k.kept_discovered f)

-- a lent part that is not too long
within : (most : ℕ) (part : List ℕ) → over most part ≡ none → length part ≤ most
unfolding over
within most part e = split (ltb most (length part)) (λ h. missing (length part) (rw h) e) (λ h. ltb-false most (length part) h)

packet_kept : (S : Settings) (now : ℕ) (p : Packet) (s : State) → too_long p ≡ none → Kept s → StateKept (packet_step S now p s)
unfolding packet_step too_long
packet_kept S now (data_packet d) s e k = data_kept S now d (within most_values d.values e) s k
packet_kept S now (sync_packet y) s e k = sync_kept S now y s k
packet_kept S now (discovery_packet a) s e k =
    found (over most_name a.name)
    (λ f. discovery_kept S now a s (record { short_name = within most_name a.name f; few_universes = within most_universes a.universes (rw f at e) }) k)
    (λ n f. missing n (rw f) e)

polled_kept : (S : Settings) (now : ℕ) (p : Packet) (r : State × Option pairs.Key) → too_long p ≡ none → Kept r.0 → StateKept (polled S now p r)
unfolding polled
polled_kept S now p (s, none) e k = packet_kept S now p s e k
polled_kept S now p (s, some j) e k = k

measured_kept : (S : Settings) (now : ℕ) (p : Packet) (s : State) (o : Option ℕ) → too_long p ≡ o → Kept s → StateKept (measured S now p s o)
unfolding measured
measured_kept S now p s none e k = polled_kept S now p (poll S now s) e (poll_kept S now s k)
measured_kept S now p s (some n) e k = k

pub step_kept : (m : Space) (S : Settings) (now : ℕ) (p : Packet) (s : State) → Kept s → StateKept (step m S now p s)
step_kept m S now p s k =
    found (too_short m)
    (λ e. let q : step m S now p s ≡ measured S now p s (too_long p) = unfold step in cc in subst StateKept (sym q) (measured_kept S now p s (too_long p) refl k))
    (λ n e. let q : (step m S now p s).state ≡ s = unfold step in cc in subst Kept (sym q) k)

-- ── the further calls ──
pub polled_by_state : (r : State × Option pairs.Key) → (polled_by r).0 ≡ r.0
unfolding polled_by
polled_by_state (s, none) = refl
polled_by_state (s, some k) = refl

mute_kept : (u : ℕ) (s : State) → Kept s → Kept (mute_call u s).0
unfolding mute_call
mute_kept u s k = listened_anew s k _ (mute_heard u s.listened k.kept_listened)

reset_pairs_kept : (s : State) → Kept s → Kept (reset_pairs_call s)
unfolding reset_pairs_call
reset_pairs_kept s k = sync_anew _ (data_anew s k pairs.empty empty_kept) pairs.empty empty_kept

reset_discovery_kept : (s : State) → Kept s → Kept (reset_discovery_call s)
unfolding reset_discovery_call
reset_discovery_kept s k = discovered_anew s k _ kept_fresh.kept_discovered

pub call_kept : (c : Call) (s : State) → Kept s → Kept (call c s)
unfolding call
call_kept (on_packet m S now p) s k = step_kept m S now p s k
call_kept (on_poll room S now) s k =
    found (short waiting_bytes room)
    (λ e. let q : (poll_call room S now s).0 ≡ (poll S now s).0 = unfold poll_call in (rw (e, poll_call) (polled_by_state (poll S now s))) in subst Kept (sym q) (poll_kept S now s k))
    (λ n e. let q : (poll_call room S now s).0 ≡ s = unfold poll_call in cc in subst Kept (sym q) k)
call_kept (on_expiry room S now) s k =
    found (short page_bytes room)
    (λ e. let q : (expiry_call room S now s).0 ≡ with_discovered (discovery.swept S.discovery_expiry now s.discovered) s = unfold expiry_call in cc in
    subst Kept (sym q) (discovered_anew s k _ (discovery_laws_laws.ordered_swept S.discovery_expiry now s.discovered k.kept_discovered)))
    (λ n e. let q : (expiry_call room S now s).0 ≡ s = unfold expiry_call in cc in subst Kept (sym q) k)
call_kept (on_listen us) s k = unfold listen_call in listened_anew s k _ (listen_heard us s.listened k.kept_listened)
call_kept (on_mute u) s k = mute_kept u s k
call_kept (on_ask u) s k = k
call_kept (on_clear room u) s k =
    found (short waiting_bytes room)
    (λ e. let q : (clear_call room u s).0 ≡ with_waiting (waiting.cleared u s.waiting).0 s = unfold clear_call in cc in
    subst Kept (sym q) (waiting_anew s k _ (waiting_laws.ordered_cleared u s.waiting k.kept_waiting)))
    (λ n e. let q : (clear_call room u s).0 ≡ s = unfold clear_call in cc in subst Kept (sym q) k)
call_kept on_clear_all s k = unfold clear_all_call in waiting_anew s k [] waiting_laws.ordered_none
call_kept on_reset_pairs s k = reset_pairs_kept s k
call_kept on_reset_discovery s k = reset_discovery_kept s k
call_kept on_reset s k = unfold reset_call in reset_discovery_kept _ (reset_pairs_kept s k)

pub run_from : (cs : List Call) (s : State) → Kept s → Kept (run cs s)
unfolding run
run_from [] s k = k
run_from (c ∷ cs) s k = run_from cs (call c s) (call_kept c s k)

-- THE INVARIANT of every list of calls from a fresh receiver
pub run_kept : (cs : List Call) → Kept (run cs fresh)
run_kept cs = run_from cs fresh kept_fresh
