-- Demand 3 is not vacuous: two desks' data, a synchronisation and a discovery packet in one millisecond, really reordered, meet its premises.
-- Assumes nothing.
use Rattle.std.specs.Prelude.{◌≡◌, refl, ◌≢◌, true, false, List, [], ◌∷◌, map, ℕ, zero, suc, ◌≤◌, ◌<◌, length}
use Rattle.std.proofs.Common.{sym, ap, ◌∙◌, subst, arith}
use Rattle.std.proofs.Math.Option.{none, some}
use Rattle.std.proofs.Math.ListN.{get_elem?}
use Rattle.laws.specs.Order.{before_by}
use Rattle.laws.specs.Table.{keep, any, find, store, remove}
use Rattle.rules.specs.declared.Cid.{Cid}
use Rattle.settings.specs.declared.Settings.{Settings}
use Rattle.settings.specs.declared.MergeChoice.TheVariants.{HtpDmxMerge}
use Rattle.settings.specs.declared.SourceLimit.TheVariants.{AtMost}
use Rattle.settings.specs.Settings.{with_merge, with_limit}
use Rattle.settings.specs.Settings as settings
use Rattle.pairs.specs.Table as pairs
use Rattle.merge.specs.Merge.{same_start, mergeable, highest, blended, joined, htp_merge}
use Rattle.waiting.specs.Waiting as waiting
use Rattle.discovery.specs.Discovery as discovery
use Rattle.discovery.specs.Discovery.{Announcement}
use Rattle.model.specs.Packet.{DataPacket, SyncPacket, Packet, data_packet, sync_packet, discovery_packet, sender, over, too_long}
use Rattle.model.specs.State.{listens}
use Rattle.model.specs.Step as model
use Rattle.model.specs.Step.{Space, too_short}
use Rattle.model.specs.Calls.{listen_call, muted, mute_call}
use Rattle.reorder.specs.Demand.{Timed, At, count, Reordering, MovedPast, Free, Telling, listen, mute, tell, start, Answered, answers, DataAt, SyncAt, counted, sources_of, Asked, NeitherFull, Agreed}
use Rattle.reorder.proofs.ReorderLaws.{All}
use Rattle.reorder.proofs.ProofLaws.{demand_3}

-- ── what is given for each element of a list holds at each place ──
each : {A : Type 0} (P : A → Type 0) (xs : List A) → All P xs → (i : ℕ) (x : A) → At xs i x → P x
each P [] a i x e = let z : ◌≡◌ {A = ℕ} 0 1 = cc in absurd (omega arith)
each P (y ∷ xs) a zero x e = let q : y ≡ x = cc in subst P q a.0
each P (y ∷ xs) a (suc i) x e = each P xs a.1 i x e

-- and for each element with each later one
abbrev Later : {A : Type 0} → (A → A → Type 0) → List A → Type 0
Later P [] = Unit {0}
Later P (x ∷ xs) = All (P x) xs × Later P xs

later : {A : Type 0} (P : A → A → Type 0) (xs : List A) → Later P xs → (k l : ℕ) (x y : A) → k < l → At xs k x → At xs l y → P x y
later P [] a k l x y o e f = let z : ◌≡◌ {A = ℕ} 0 1 = cc in absurd (omega arith)
later P (w ∷ xs) a zero zero x y o e f = absurd (omega arith)
later P (w ∷ xs) a zero (suc l) x y o e f = let q : w ≡ x = cc in subst (λ v. P v y) q (each (P w) xs a.0 l y f)
later P (w ∷ xs) a (suc k) zero x y o e f = absurd (omega arith)
later P (w ∷ xs) a (suc k) (suc l) x y o e f = later P xs a.1 k l x y (omega arith) e f

-- ── the two desks ──
abbrev cid : ℕ → Cid
cid n = record { hi = 0; lo = n }

abbrev desk : ℕ → List ℕ → DataPacket
desk c vs = record {
  cid = cid c;
  universe = 1;
  address = 7;
  priority = 100;
  sequence = 3;
  preview = false;
  terminated = false;
  force_synchronization = false;
  values = vs;
}

abbrev master : SyncPacket
master = record { cid = cid 1; address = 7; sequence = 9 }

abbrev announcer : Announcement
announcer = record { cid = cid 3; name = 0x41 ∷ []; page = 0; last_page = 0; universes = 1 ∷ 2 ∷ [] }

abbrev now : Packet → Timed
now p = record { reading = 1000; packet = p }

abbrev north : List Timed
north = now (data_packet (desk 1 (0 ∷ 10 ∷ 200 ∷ []))) ∷ now (data_packet (desk 2 (0 ∷ 50 ∷ []))) ∷ now (sync_packet master) ∷ now (discovery_packet announcer) ∷ []

abbrev south : List Timed
south = now (data_packet (desk 2 (0 ∷ 50 ∷ []))) ∷ now (discovery_packet announcer) ∷ now (data_packet (desk 1 (0 ∷ 10 ∷ 200 ∷ []))) ∷ now (sync_packet master) ∷ []

abbrev places : List ℕ
places = 1 ∷ 3 ∷ 0 ∷ 2 ∷ []

abbrev S : Settings
S = with_limit (AtMost 2) (with_merge HtpDmxMerge settings.fresh)

-- South is told otherwise, and listens to the same universes
abbrev told_north : List Telling
told_north = listen (1 ∷ 7 ∷ []) ∷ []

abbrev told_south : List Telling
told_south = listen (7 ∷ 5 ∷ []) ∷ mute 5 ∷ listen (1 ∷ []) ∷ []

abbrev lent : ℕ → Space
lent i = record { output = 35072; waiting_values = 32832; page_universes = 65536 }

-- ── the premises ──
reordered : Reordering places north south
unfolding count
reordered = record { picks = refl; once = λ i h. let e = once i h in omega arith }
  where
    once : (i : ℕ) → i < 4 → count i places ≡ 1
    once zero h = refl
    once (suc zero) h = refl
    once (suc (suc zero)) h = refl
    once (suc (suc (suc zero))) h = refl
    once (suc (suc (suc (suc i)))) h = absurd (omega arith)

-- of North's packets number i and j, j stands before i in South
abbrev Passed : (Timed → Timed → Type 0) → ℕ → ℕ → Type 0
Passed P j i = i < j → (p q : Timed) → At north i p → At north j q → P p q

passed : (P : Timed → Timed → Type 0) → Later (Passed P) places → (i j : ℕ) (p q : Timed) → MovedPast places i j → At north i p → At north j q → P p q
passed P a i j p q m = later (Passed P) places a m.k m.l j i m.south_order m.first m.second m.north_order p q

-- two concrete packets in the place of two that are given by number
given : (P : Timed → Timed → Type 0) (x y p q : Timed) → some x ≡ some p → some y ≡ some q → P x y → P p q
given P x y p q e f h = let a : x ≡ p = cc in let b : y ≡ q = cc in subst (λ t. P t q) a (subst (P x) b h)

apart : (m n : ℕ) → (m ≡ n → ⊥) → cid m ≢ cid n
apart m n f e = f (ap (λ (c : Cid). c.lo) e)

own : Later (Passed (λ p q. sender p.packet ≢ sender q.packet)) places
own = (
  (
    λ o. absurd (omega arith),
    (
      λ o p q e f. given (λ p q. sender p.packet ≢ sender q.packet) _ _ p q e f (apart 1 2 (omega arith)),
      (λ o. absurd (omega arith), tt),
    ),
  ),
  (
    (
      λ o p q e f. given (λ p q. sender p.packet ≢ sender q.packet) _ _ p q e f (apart 1 3 (omega arith)),
      (λ o p q e f. given (λ p q. sender p.packet ≢ sender q.packet) _ _ p q e f (apart 1 3 (omega arith)), tt),
    ),
    ((λ o. absurd (omega arith), tt), (tt, tt)),
  ),
)

free : Later (Passed (λ p q. Free p.packet q.packet)) places
free = (
  (
    λ o. absurd (omega arith),
    (
      λ o p q e f. given (λ p q. Free p.packet q.packet) _ _ p q e f tt,
      (λ o. absurd (omega arith), tt),
    ),
  ),
  (
    (
      λ o p q e f. given (λ p q. Free p.packet q.packet) _ _ p q e f tt,
      (λ o p q e f. given (λ p q. Free p.packet q.packet) _ _ p q e f tt, tt),
    ),
    ((λ o. absurd (omega arith), tt), (tt, tt)),
  ),
)

north_now : (i : ℕ) (p : Timed) → At north i p → p.reading ≡ 1000
north_now = each (λ p. p.reading ≡ 1000) north (refl, (refl, (refl, (refl, tt))))

south_now : (i : ℕ) (p : Timed) → At south i p → p.reading ≡ 1000
south_now = each (λ p. p.reading ≡ 1000) south (refl, (refl, (refl, (refl, tt))))

-- what is known of each data packet: it is one of the desks'
abbrev IsDesk : Timed → Type 0
IsDesk p = (t : ℕ) (d : DataPacket) → p ≡ record { reading = t; packet = data_packet d } → (d.universe ≡ 1) × (d.address ≡ 7) × (get_elem? d.values 0 ≡ some 0)

desk_is : (c : ℕ) (vs : List ℕ) → get_elem? vs 0 ≡ some 0 → IsDesk (now (data_packet (desk c vs)))
desk_is c vs h t d e =
    let q : desk c vs ≡ d = cc (ap (λ (p : Timed). p.packet) e) in
    (sym (ap (λ (x : DataPacket). x.universe) q), sym (ap (λ (x : DataPacket). x.address) q), sym (ap (λ (x : DataPacket). get_elem? x.values 0) q) ∙ h)

no_desk : (y : SyncPacket) → IsDesk (now (sync_packet y))
no_desk y t d e = let z : ◌≡◌ {A = ℕ} 0 1 = cc (ap (λ (p : Timed). p.packet) e) in absurd (omega arith)

no_desk' : (a : Announcement) → IsDesk (now (discovery_packet a))
no_desk' a t d e = let z : ◌≡◌ {A = ℕ} 0 1 = cc (ap (λ (p : Timed). p.packet) e) in absurd (omega arith)

desks : (i t : ℕ) (d : DataPacket) → DataAt north i t d → (d.universe ≡ 1) × (d.address ≡ 7) × (get_elem? d.values 0 ≡ some 0)
desks i t d a =
    each IsDesk north (desk_is 1 (0 ∷ 10 ∷ 200 ∷ []) refl, (desk_is 2 (0 ∷ 50 ∷ []) refl, (no_desk master, (no_desk' announcer, tt))))
    i (record { reading = t; packet = data_packet d }) a t d refl

abbrev IsSync : Timed → Type 0
IsSync p = (t : ℕ) (y : SyncPacket) → p ≡ record { reading = t; packet = sync_packet y } → y.address ≡ 7

syncs : (i t : ℕ) (y : SyncPacket) → SyncAt north i t y → y.address ≡ 7
syncs i t y a = each IsSync north (other_data, (other_data, (the_sync, (other_page, tt)))) i (record { reading = t; packet = sync_packet y }) a t y refl
  where
    other_data : {d : DataPacket} → IsSync (now (data_packet d))
    other_data t x e = let z : ◌≡◌ {A = ℕ} 0 1 = cc (ap (λ (p : Timed). p.packet) e) in absurd (omega arith)

    the_sync : IsSync (now (sync_packet master))
    the_sync t x e = let q : master ≡ x = cc (ap (λ (p : Timed). p.packet) e) in sym (ap (λ (w : SyncPacket). w.address) q)

    other_page : {d : Announcement} → IsSync (now (discovery_packet d))
    other_page t x e = let z : ◌≡◌ {A = ℕ} 0 1 = cc (ap (λ (p : Timed). p.packet) e) in absurd (omega arith)

alike : (start told_north).listened ≡ (start told_south).listened
unfolding tell listen_call muted mute_call model.listen_all model.illegal model.joined_by find store remove
alike = refl

-- 1 and 7 are listened to
hears_1 : listens 1 (start told_north).listened ≡ true
unfolding tell listen_call model.listen_all model.illegal model.joined_by find store
hears_1 = refl

hears_7 : listens 7 (start told_north).listened ≡ true
unfolding tell listen_call model.listen_all model.illegal model.joined_by find store
hears_7 = refl

two_sources : length (sources_of north) ≤ 2
unfolding sources_of counted store before_by
two_sources = omega arith

enough : too_short (lent 0) ≡ none
unfolding too_short
enough = refl

-- all answers have the number 0, so none is one of 10 to 13
unmap : {A B : Type 0} (f : A → B) (Q : B → Type 0) (xs : List A) → All Q (map f xs) → All (λ x. Q (f x)) xs
unmap f Q [] a = tt
unmap f Q (x ∷ xs) a = (a.0, unmap f Q xs a.1)

none_stopped : (rs : List Answered) → map (λ (a : Answered). a.number) rs ≡ 0 ∷ 0 ∷ 0 ∷ 0 ∷ [] → (i : ℕ) (a : Answered) → At rs i a → a.number ≡ 0
none_stopped rs e =
    each (λ (x : Answered). x.number ≡ 0) rs
    (unmap (λ (x : Answered). x.number) (λ n. n ≡ 0) rs (subst (All (λ n. n ≡ 0)) (sym e) (refl, (refl, (refl, (refl, tt))))))

north_numbers : map (λ (a : Answered). a.number) (answers S lent 0 (start told_north) north) ≡ 0 ∷ 0 ∷ 0 ∷ 0 ∷ []
unfolding answers model.step too_short model.measured too_long over model.polled model.poll model.poll_sync model.poll_waiting pairs.sweep pairs.swept model.packet_step model.data_step model.data_arrival pairs.check pairs.after_sweep pairs.admit pairs.stop pairs.source_stop pairs.listed pairs.full pairs.sequence_stop pairs.settle pairs.recorded model.if_accepted model.accepted model.unsynchronised model.synchronised model.heard model.stored model.release model.sync_step model.sync_arrival model.synchronise waiting.cleared waiting.stored waiting.joining waiting.merged waiting.released waiting.left same_start mergeable highest blended joined htp_merge model.discovery_step discovery.arrived discovery.taken discovery.noted discovery.noting discovery.lookup discovery.drop_source discovery.relisted discovery.begun discovery.page_count tell listen_call model.listen_all model.illegal model.joined_by find store remove keep any before_by
north_numbers = refl

south_numbers : map (λ (a : Answered). a.number) (answers S lent 0 (start told_south) south) ≡ 0 ∷ 0 ∷ 0 ∷ 0 ∷ []
unfolding answers model.step too_short model.measured too_long over model.polled model.poll model.poll_sync model.poll_waiting pairs.sweep pairs.swept model.packet_step model.data_step model.data_arrival pairs.check pairs.after_sweep pairs.admit pairs.stop pairs.source_stop pairs.listed pairs.full pairs.sequence_stop pairs.settle pairs.recorded model.if_accepted model.accepted model.unsynchronised model.synchronised model.heard model.stored model.release model.sync_step model.sync_arrival model.synchronise waiting.cleared waiting.stored waiting.joining waiting.merged waiting.released waiting.left same_start mergeable highest blended joined htp_merge model.discovery_step discovery.arrived discovery.taken discovery.noted discovery.noting discovery.lookup discovery.drop_source discovery.relisted discovery.begun discovery.page_count tell listen_call muted mute_call model.listen_all model.illegal model.joined_by find store remove keep any before_by
south_numbers = refl

asked : Asked S told_north told_south places north south lent lent
asked = record {
  reordering = reordered;
  alike_told = let e = alike in cc;
  own_order = λ i j p q m a b e. passed (λ p q. sender p.packet ≢ sender q.packet) own i j p q m a b (cc);
  address_order = passed (λ p q. Free p.packet q.packet) free;
  north_rises = λ k l p q o a b. let x = north_now k p a in let y = north_now l q b in omega arith;
  south_rises = λ k l p q o a b. let x = south_now k p a in let y = south_now l q b in omega arith;
  timeouts_off = refl;
  highest_value = refl;
  in_limit = let h = two_sources in omega arith;
  north_space = λ i h. let e = enough in cc;
  south_space = λ i h. let e = enough in cc;
  universe_heard = λ i t d a. let e = (desks i t d a).0 in let h = hears_1 in cc;
  address_heard = λ i t d a n. let e = (desks i t d a).1 in let h = hears_7 in cc;
  sync_heard = λ i t y a n. let e = syncs i t y a in let h = hears_7 in cc;
  one_address = λ i j t r d e a b q. let x = (desks i t d a).1 in let y = (desks j r e b).1 in cc;
  not_empty = λ i t d a q. let h = (desks i t d a).2 in let z : ◌≡◌ {A = ℕ} 0 1 = cc in omega arith;
  one_first = λ i j t r d e a b q. let x = (desks i t d a).2 in let y = (desks j r e b).2 in cc;
}

fits : NeitherFull (answers S lent 0 (start told_north) north) (answers S lent 0 (start told_south) south)
fits = record {
  north_fits = λ i a h r. let z = none_stopped (answers S lent 0 (start told_north) north) north_numbers i a h in omega (arith, r.0);
  south_fits = λ i a h r. let z = none_stopped (answers S lent 0 (start told_south) south) south_numbers i a h in omega (arith, r.0);
}

-- so the theorem speaks of them
pub worked : Agreed S told_north told_south places north south lent lent
worked = demand_3 S told_north told_south places north south lent lent asked fits
