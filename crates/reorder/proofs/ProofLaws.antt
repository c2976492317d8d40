-- Demand 3 proved. The model's run equals the ideal run, since neither gives 10 to 13; in the ideal run packets that are moved past one
-- another commute; so the general theorem of Reorder.antt applies.
-- Assumes nothing.
use Rattle.std.specs.Prelude.{◌≡◌, ◌≢◌, Bool, true, false, cond, ◌&&◌, ℕ, zero, suc, ◌+◌, ◌≤◌, ◌<◌, leb, eqb, length}
use Rattle.std.proofs.Math.Path.{refl, sym, ap, subst}
use Rattle.std.proofs.Common.{◌∙◌, eqb-true, eq-eqb, leb-true}
use Rattle.std.proofs.Math.Option.{Option, none, some}
use mathlib.Core.List.{List, [], ◌∷◌}
use native.Mathlib.Omega.{arith}
use Rattle.std.proofs.Math.ListN.{get_elem?}
use Rattle.std.proofs.lemmas.Bool.{eqb-false}
use Rattle.laws.specs.Cases.{split, found, clash, missing}
use Rattle.laws.specs.Order.{keyed}
use Rattle.laws.specs.Table.{any, store, Ascending, find_store_same, find_store_other, ascending_store}
use Rattle.rules.specs.declared.Cid.{Cid}
use Rattle.rules.specs.Cid.{before}
use Rattle.rules.proofs.CidLaws.{cid_order}
use Rattle.settings.specs.declared.Settings.{Settings}
use Rattle.settings.specs.declared.MergeChoice.TheVariants.{HtpDmxMerge}
use Rattle.pairs.specs.Table as pairs
use Rattle.pairs.specs.Table.{Table, has, swept, itself}
use Rattle.pairs.specs.Laws.{GoodTable}
use Rattle.pairs.proofs.Laws.{good_empty}
use Rattle.merge.specs.Merge.{Dmx}
use Rattle.waiting.specs.Records.{records}
use Rattle.waiting.proofs.Laws.{GoodWaiting, good_none}
use Rattle.model.specs.declared.StepAnswer.TheVariants as says
use Rattle.model.specs.Answer.{step_number, step_values}
use Rattle.model.specs.Packet.{DataPacket, SyncPacket, Packet, data_packet, sync_packet, discovery_packet, too_long}
use Rattle.model.specs.State.{State, fresh, listens}
use Rattle.model.specs.Step as model
use Rattle.model.specs.Step.{Space, Outcome, outcome, too_short}
use Rattle.model.specs.Calls.{listen_call, mute_call}
use Rattle.model.specs.Invariant.{Heard}
use Rattle.model.proofs.InvariantLaws.{listen_heard, mute_heard, heard_fresh}
use Rattle.reorder.specs.Demand.{Timed, At, Picks, MovedPast, Telling, listen, mute, tell, start, name_of, Answered, answered, outcome_of, end, answers, DataAt, SyncAt, counted, sources_of, InLimit, NoneFull, Asked, NeitherFull, Agreed, Demand3}
use Rattle.reorder.proofs.ReorderLaws.{Commutes, All, at_all, guarded, passes, fails, guarded_commutes, as_ideal}
use Rattle.reorder.proofs.ReorderLaws as reorder
use Rattle.reorder.specs.Ideal.{Told, say, apply, effect, polled, step, Same, Indep, change, discovery_effect}
use Rattle.reorder.proofs.IdealLaws.{Good, Sound}
use Rattle.reorder.proofs.IdealLaws.{Fits, FitsPacket, sound, good_apply, good_polled, polled_polled, commutes}
use Rattle.reorder.proofs.AgreeLaws.{out, done, capped, zero_not_taken, data_agree, sync_agree, discovery_agree}
use Rattle.reorder.proofs.LimitLaws.{In, Within, room, within_swept, within_change}

-- ── what a fresh receiver can be told to listen to ──
-- telling changes the listened universes alone
record Quiet (s t : State) : Type 0 where
  quiet_data : t.data_pairs ≡ s.data_pairs
  quiet_sync : t.sync_pairs ≡ s.sync_pairs
  quiet_waiting : t.waiting ≡ s.waiting
  quiet_discovered : t.discovered ≡ s.discovered

quiet_tell : (ts : List Telling) (s : State) → Quiet s (tell ts s)
unfolding tell listen_call mute_call
quiet_tell [] s = record { quiet_data = refl; quiet_sync = refl; quiet_waiting = refl; quiet_discovered = refl }
quiet_tell (listen us ∷ ts) s =
    let r = quiet_tell ts (listen_call us s).0 in
    record { quiet_data = r.quiet_data; quiet_sync = r.quiet_sync; quiet_waiting = r.quiet_waiting; quiet_discovered = r.quiet_discovered }
quiet_tell (mute v ∷ ts) s =
    let r = quiet_tell ts (mute_call v s).0 in
    record { quiet_data = r.quiet_data; quiet_sync = r.quiet_sync; quiet_waiting = r.quiet_waiting; quiet_discovered = r.quiet_discovered }

heard_tell : (ts : List Telling) (s : State) → Heard s.listened → Heard (tell ts s).listened
unfolding tell listen_call mute_call
heard_tell [] s h = h
heard_tell (listen us ∷ ts) s h = heard_tell ts (listen_call us s).0 (listen_heard us s.listened h)
heard_tell (mute v ∷ ts) s h = heard_tell ts (mute_call v s).0 (mute_heard v s.listened h)

-- told alike, two fresh receivers start alike
same_start : (ts us : List Telling) → (start ts).listened ≡ (start us).listened → start ts ≡ start us
same_start ts us e =
    let p = quiet_tell ts fresh in
    let q = quiet_tell us fresh in
    let d = p.quiet_data ∙ sym q.quiet_data in
    let y = p.quiet_sync ∙ sym q.quiet_sync in
    let w = p.quiet_waiting ∙ sym q.quiet_waiting in
    let n = p.quiet_discovered ∙ sym q.quiet_discovered in
    λ i. record { data_pairs = d i; sync_pairs = y i; waiting = w i; listened = e i; discovered = n i }

-- ── the machine: the model's step where space is enough ──
fault : Timed → Option Told
fault p = elim (too_long p.packet) [ none ↦ none | some n ↦ some (say (says.TooLong n)) ]

receive : Settings → State → Timed → State × Told
receive S s p = out (model.measured S p.reading p.packet s (too_long p.packet))

enough_space : (m : Space) (S : Settings) (p : Timed) (s : State) → too_short m ≡ none → out (model.step m S p.reading p.packet s) ≡ receive S s p
unfolding model.step receive
enough_space m S p s e = rw (e, model.step)

fault_none : (p : Timed) → too_long p.packet ≡ none → fault p ≡ none
unfolding fault
fault_none p e = rw (e, fault)

fault_some : (p : Timed) (n : ℕ) → too_long p.packet ≡ some n → fault p ≡ some (say (says.TooLong n))
unfolding fault
fault_some p n e = rw (e, fault)

receive_long : (S : Settings) (s : State) (p : Timed) (n : ℕ) → too_long p.packet ≡ some n → receive S s p ≡ (s, say (says.TooLong n))
unfolding receive model.measured
receive_long S s p n e = rw e

receive_fine : (S : Settings) (s : State) (p : Timed) → too_long p.packet ≡ none
    → receive S s p ≡ out (model.polled S p.reading p.packet (model.poll S p.reading s))
unfolding receive model.measured
receive_fine S s p e = rw e

-- the poll, announcements being off
poll_off : (S : Settings) (now : ℕ) (s : State) → S.announce_timeout ≡ false → model.poll S now s ≡ (polled now s, none)
unfolding model.poll model.poll_sync model.poll_waiting polled pairs.sweep
poll_off S now s off = rw off

-- a synchronisation packet of address 0 changes nothing but what the poll sweeps, and answers nothing
pub zero_address : (m : Space) (S : Settings) (now : ℕ) (y : SyncPacket) (s : State) → too_short m ≡ none → S.announce_timeout ≡ false → Heard s.listened
    → y.address ≡ 0 → model.step m S now (sync_packet y) s ≡ outcome (polled now s) says.Nothing
unfolding model.step model.measured too_long model.polled model.packet_step
zero_address m S now y s e off H z =
    rw (e, model.step, poll_off S now s off) (zero_not_taken S now y (polled now s) (unfold polled in H) z)

-- ── an answer seen with its packet ──
abbrev relabel : {State Packet Answer Label : Type 0} → (Packet → Answer → Label) → (State → Packet → State × Answer) → State → Packet → State × Label
relabel f step s p = ((step s p).0, f p (step s p).1)

relabel_commutes : {State Packet Answer Label : Type 0} (f : Packet → Answer → Label) (step : State → Packet → State × Answer)
    (Same : State → State → Type 0) (Good : State → Type 0) (Fits : Packet → Type 0) (Indep : Packet → Packet → Type 0)
    → Commutes step Same Good Fits Indep → Commutes (relabel f step) Same Good Fits Indep
relabel_commutes f step Same Good Fits Indep C = record {
  same_refl = C.same_refl;
  same_trans = C.same_trans;
  keeps = C.keeps;
  same_after = C.same_after;
  same_answer = λ s t p g h x e. ap (f p) (C.same_answer s t p g h x e);
  swap_after = C.swap_after;
  swap_first = λ s p q g x y i. ap (f p) (C.swap_first s p q g x y i);
  swap_second = λ s p q g x y i. ap (f q) (C.swap_second s p q g x y i);
}

answer_of : Timed → Told → Answered
answer_of p t = record { number = step_number t.answer; values = step_values (name_of p.packet) t.answer; bytes = records t.released }

-- ── runs of demand 3 are runs of the machine ──
module _ (S : Settings) (lent : ℕ → Space) (n : ℕ) (space : (i : ℕ) → i < n → too_short (lent i) ≡ none) where
  state_of : (i : ℕ) (s : State) (p : Timed) → i < n → (outcome_of S lent i s p).state ≡ (receive S s p).0
  state_of i s p h = ap (λ (r : State × Told). r.0) (enough_space (lent i) S p s (space i h))

  told_of : (i : ℕ) (s : State) (p : Timed) → i < n → answered p.packet (outcome_of S lent i s p) ≡ answer_of p (receive S s p).1
  unfolding answer_of
  told_of i s p h =
      ap (λ (r : State × Told). record { number = step_number r.1.answer; values = step_values (name_of p.packet) r.1.answer; bytes = records r.1.released })
      (enough_space (lent i) S p s (space i h))

  end_run : (i : ℕ) (s : State) (ps : List Timed) → i + length ps ≤ n → end S lent i s ps ≡ reorder.final (relabel answer_of (receive S)) s ps
  unfolding end
  end_run i s [] h = refl
  end_run i s (p ∷ ps) h = rw (state_of i s p (omega arith)) (end_run (suc i) (receive S s p).0 ps (omega arith))

  answers_run : (i : ℕ) (s : State) (ps : List Timed) → i + length ps ≤ n → answers S lent i s ps ≡ reorder.answers (relabel answer_of (receive S)) s ps
  unfolding answers
  answers_run i s [] h = refl
  answers_run i s (p ∷ ps) h =
      let r = answers_run (suc i) (receive S s p).0 ps (omega arith) in
      let l : i < n = omega arith in
      rw (told_of i s p l, state_of i s p l) (ap (λ (l : List Answered). answer_of p (receive S s p).1 ∷ l) r)

full : Answered → Bool
full a = leb 10 a.number && leb a.number 13

-- ── what holds of every packet and every state of the runs ──
module _ (address_at first_of : ℕ → ℕ) (S : Settings) (L : List ℕ) (D : List Cid) (off : S.announce_timeout ≡ false) (highest : S.merge ≡ HtpDmxMerge)
    (H : Heard L) (under : InLimit S.source_limit D) (sorted : Ascending before itself D) where
  record GoodAt (s : State) : Type 0 where
    good : Good address_at first_of S s
    hearing : s.listened ≡ L
    in_data : Within D s.data_pairs
    in_sync : Within D s.sync_pairs

  record FitsData (now : ℕ) (d : DataPacket) : Type 0 where
    kind : FitsPacket address_at first_of S now (data_packet d)
    heard_universe : listens d.universe L ≡ true
    heard_address : eqb d.address 0 ≡ false → listens d.address L ≡ true
    in_list : In before cid_order d.cid D

  record FitsSync (y : SyncPacket) : Type 0 where
    heard_address : eqb y.address 0 ≡ false → listens y.address L ≡ true
    in_list : In before cid_order y.cid D

  abbrev FitsReal : ℕ → Packet → Type 0
  FitsReal now (data_packet d) = FitsData now d
  FitsReal now (sync_packet y) = FitsSync y
  FitsReal now (discovery_packet a) = Unit {0}

  abbrev FitsAt : Timed → Type 0
  FitsAt p = FitsReal p.reading p.packet

  fits_ideal : (now : ℕ) (b : Packet) → FitsReal now b → FitsPacket address_at first_of S now b
  fits_ideal now (data_packet d) f = f.kind
  fits_ideal now (sync_packet y) f = tt
  fits_ideal now (discovery_packet a) f = tt

  -- the packet's step, from a state as polled
  packet_agree : (now : ℕ) (b : Packet) (s : State) → GoodAt s → FitsReal now b → polled now s ≡ s → capped (model.packet_step S now b s).answer ≡ false
      → out (model.packet_step S now b s) ≡ done (effect S now b s) s
  unfolding model.packet_step effect polled
  packet_agree now (data_packet d) s g f e n =
      data_agree address_at first_of S L off highest H now d s g.good f.kind g.hearing f.heard_address
      (room S.source_limit D d.cid s.data_pairs g.good.good_data g.in_data sorted f.in_list under)
      (ap (λ (t : State). t.data_pairs) e) f.heard_universe n
  packet_agree now (sync_packet y) s g f e n =
      sync_agree address_at first_of S L off highest H now y s g.good g.hearing
      (room S.source_limit D y.cid s.sync_pairs g.good.good_sync g.in_sync sorted f.in_list under)
      (ap (λ (t : State). t.sync_pairs) e) f.heard_address n
  packet_agree now (discovery_packet a) s g f e n = discovery_agree address_at first_of S L off highest H now a s n

  good_at_polled : (now : ℕ) (s : State) → GoodAt s → GoodAt (polled now s)
  good_at_polled now s g = unfold polled in (record {
    good = good_polled address_at first_of S now s g.good;
    hearing = g.hearing;
    in_data = within_swept D now _ g.in_data;
    in_sync = within_swept D now _ g.in_sync;
  })

  data_in : (now : ℕ) (b : Packet) (s : State) → GoodAt s → FitsReal now b → Sound address_at first_of S now b (effect S now b s)
      → Within D (change (effect S now b s).to_data s.data_pairs)
  data_in now (data_packet d) s g f k = within_change D d.cid _ s.data_pairs g.good.good_data g.in_data k.local_data f.in_list
  data_in now (sync_packet y) s g f k = within_change D y.cid _ s.data_pairs g.good.good_data g.in_data k.local_data f.in_list
  data_in now (discovery_packet a) s g f k = unfold effect discovery_effect change in g.in_data

  sync_in : (now : ℕ) (b : Packet) (s : State) → GoodAt s → FitsReal now b → Sound address_at first_of S now b (effect S now b s)
      → Within D (change (effect S now b s).to_sync s.sync_pairs)
  sync_in now (data_packet d) s g f k = within_change D d.cid _ s.sync_pairs g.good.good_sync g.in_sync k.local_sync f.in_list
  sync_in now (sync_packet y) s g f k = within_change D y.cid _ s.sync_pairs g.good.good_sync g.in_sync k.local_sync f.in_list
  sync_in now (discovery_packet a) s g f k = unfold effect discovery_effect change in g.in_sync

  keeps_at : (now : ℕ) (b : Packet) (s : State) → GoodAt s → FitsReal now b → GoodAt (apply (effect S now b s) s)
  unfolding apply
  keeps_at now b s g f =
      let k = sound address_at first_of S now b s (fits_ideal now b f) in
      record {
        good = good_apply address_at first_of S now b _ s g.good k;
        hearing = g.hearing;
        in_data = data_in now b s g f k;
        in_sync = sync_in now b s g f k;
      }

  keeps_step : (s : State) (p : Timed) → GoodAt s → FitsAt p → GoodAt (step S s p).0
  unfolding step
  keeps_step s p g f = keeps_at p.reading p.packet (polled p.reading s) (good_at_polled p.reading s g) f

  abbrev ideal : State → Timed → State × Told
  ideal = guarded fault (step S)

  keeps_ideal : (s : State) (p : Timed) → GoodAt s → FitsAt p → GoodAt (ideal s p).0
  keeps_ideal s p g f =
      found (fault p)
      (λ e. rw (passes fault (step S) s p e) (keeps_step s p g f))
      (λ a e. rw (fails fault (step S) s p a e) g)

  step_agree : (s : State) (p : Timed) → GoodAt s → FitsAt p → too_long p.packet ≡ none → capped (receive S s p).1.answer ≡ false
      → receive S s p ≡ step S s p
  unfolding step
  step_agree s p g f e n =
      let now = p.reading in
      let t = polled now s in
      let x : receive S s p ≡ out (model.packet_step S now p.packet t) =
      receive_fine S s p e ∙ (unfold model.polled in ap (λ (r : State × Option pairs.Key). out (model.polled S now p.packet r)) (poll_off S now s off)) in
      x ∙ packet_agree now p.packet t (good_at_polled now s g) f (polled_polled address_at first_of S now s) (rw x at n)

  agree_ideal : (s : State) (p : Timed) → GoodAt s → FitsAt p → capped (receive S s p).1.answer ≡ false → receive S s p ≡ ideal s p
  agree_ideal s p g f n =
      found (too_long p.packet)
      (λ e. step_agree s p g f e n ∙ sym (passes fault (step S) s p (fault_none p e)))
      (λ a e. receive_long S s p a e ∙ sym (fails fault (step S) s p _ (fault_some p a e)))

  -- with the answers as demand 3 sees them
  agree_labelled : (s : State) (p : Timed) → GoodAt s → FitsAt p → full (relabel answer_of (receive S) s p).1 ≡ false
      → relabel answer_of (receive S) s p ≡ relabel answer_of ideal s p
  agree_labelled s p g f n =
      ap (λ (r : State × Told). (r.0, answer_of p r.1)) (agree_ideal s p g f (unfold capped in (unfold full answer_of in n)))

  C : Commutes (relabel answer_of ideal) Same (Good address_at first_of S) (Fits address_at first_of S) Indep
  C =
      relabel_commutes answer_of ideal Same (Good address_at first_of S) (Fits address_at first_of S) Indep
      (guarded_commutes fault (step S) Same (Good address_at first_of S) (Fits address_at first_of S) Indep (commutes address_at first_of S))

  -- a run without 10 to 13 is the ideal run
  as_ideal_run : (s : State) (ps : List Timed) → GoodAt s → ((i : ℕ) (p : Timed) → At ps i p → FitsAt p)
      → ((i : ℕ) (a : Answered) → At (reorder.answers (relabel answer_of (receive S)) s ps) i a → full a ≡ false)
      → (reorder.answers (relabel answer_of (receive S)) s ps ≡ reorder.answers (relabel answer_of ideal) s ps)
      × (reorder.final (relabel answer_of (receive S)) s ps ≡ reorder.final (relabel answer_of ideal) s ps)
  as_ideal_run s ps g f n =
      as_ideal (relabel answer_of (receive S)) (relabel answer_of ideal) GoodAt FitsAt full keeps_ideal agree_labelled s ps g
      (at_all FitsAt ps f) (at_all _ (reorder.answers (relabel answer_of (receive S)) s ps) n)

-- ── places in a reordering ──
picks_at : {A : Type 0} (places : List ℕ) (north south : List A) (k j : ℕ) (q : A) → Picks places north south → At places k j → At north j q → At south k q
picks_at [] north south k j q e a b = missing _ a refl
picks_at (i ∷ places) north [] k j q e a b = let z : ◌≡◌ {A = ℕ} 0 1 = cc in absurd (omega arith)
picks_at (i ∷ places) north (x ∷ south) zero j q e a b = cc
picks_at (i ∷ places) north (x ∷ south) (suc k) j q e a b = picks_at places north south k j q (cc) a b

picks_from : {A : Type 0} (places : List ℕ) (north south : List A) (k : ℕ) (q : A) → Picks places north south → At south k q → (i : ℕ) × At north i q
picks_from places north [] k q e a = missing _ a refl
picks_from [] north (x ∷ south) k q e a = let z : ◌≡◌ {A = ℕ} 0 1 = cc in absurd (omega arith)
picks_from (i ∷ places) north (x ∷ south) zero q e a = (i, (cc))
picks_from (i ∷ places) north (x ∷ south) (suc k) q e a = picks_from places north south k q (cc) a

-- ── the sources of a list ──
ascending_counted : (b : Packet) (cs : List Cid) → Ascending before itself cs → Ascending before itself (counted b cs)
unfolding counted
ascending_counted (data_packet d) cs a = ascending_store before itself cid_order d.cid cs a
ascending_counted (sync_packet y) cs a = ascending_store before itself cid_order y.cid cs a
ascending_counted (discovery_packet d) cs a = a

ascending_sources : (ps : List Timed) → Ascending before itself (sources_of ps)
unfolding sources_of
ascending_sources [] = tt
ascending_sources (p ∷ ps) = ascending_counted p.packet _ (ascending_sources ps)

stored_in : (c d : Cid) (cs : List Cid) → In before cid_order c cs → In before cid_order c (store before itself d cs)
stored_in c d cs k =
    keyed before cid_order c d
    (λ e. subst (λ (x : Cid). In before cid_order x (store before itself d cs)) (sym e) (find_store_same before itself cid_order d cs))
    (λ n. find_store_other before itself cid_order c d cs n ∙ k)

counted_in : (c : Cid) (b : Packet) (cs : List Cid) → In before cid_order c cs → In before cid_order c (counted b cs)
unfolding counted
counted_in c (data_packet d) cs k = stored_in c d.cid cs k
counted_in c (sync_packet y) cs k = stored_in c y.cid cs k
counted_in c (discovery_packet d) cs k = k

data_counted : (ps : List Timed) (i now : ℕ) (d : DataPacket) → DataAt ps i now d → In before cid_order d.cid (sources_of ps)
unfolding sources_of counted
data_counted [] i now d a = missing _ a refl
data_counted (p ∷ ps) zero now d a =
    let e : p.packet ≡ data_packet d = cc in
    subst (λ (b : Packet). In before cid_order d.cid (counted b (sources_of ps))) (sym e) (find_store_same before itself cid_order d.cid (sources_of ps))
data_counted (p ∷ ps) (suc i) now d a = counted_in d.cid p.packet (sources_of ps) (data_counted ps i now d a)

sync_counted : (ps : List Timed) (i now : ℕ) (y : SyncPacket) → SyncAt ps i now y → In before cid_order y.cid (sources_of ps)
unfolding sources_of counted
sync_counted [] i now y a = missing _ a refl
sync_counted (p ∷ ps) zero now y a =
    let e : p.packet ≡ sync_packet y = cc in
    subst (λ (b : Packet). In before cid_order y.cid (counted b (sources_of ps))) (sym e) (find_store_same before itself cid_order y.cid (sources_of ps))
sync_counted (p ∷ ps) (suc i) now y a = counted_in y.cid p.packet (sources_of ps) (sync_counted ps i now y a)

-- ── the address and the first value of a universe: those of the list's first data packet for it ──
first_in : ℕ → Packet → Option DataPacket → Option DataPacket
first_in u (data_packet d) o = cond (eqb d.universe u) (some d) o
first_in u (sync_packet y) o = o
first_in u (discovery_packet a) o = o

first_for : ℕ → List Timed → Option DataPacket
first_for u [] = none
first_for u (p ∷ ps) = first_in u p.packet (first_for u ps)

record Chosen (u : ℕ) (ps : List Timed) : Type 0 where
  packet : DataPacket
  chosen : first_for u ps ≡ some packet
  place_of : ℕ
  then : ℕ
  stands : DataAt ps place_of then packet
  suits : packet.universe ≡ u

choose : (ps : List Timed) (i now : ℕ) (d : DataPacket) → DataAt ps i now d → Chosen d.universe ps
unfolding first_for first_in
choose [] i now d a = missing _ a refl
choose (p ∷ ps) zero now d a =
    record {
      packet = d;
      chosen = let e : p.packet ≡ data_packet d = cc in let f = eq-eqb d.universe d.universe refl in cc;
      place_of = 0;
      then = now;
      stands = a;
      suits = refl;
    }
choose (p ∷ ps) (suc i) now d a = let c = choose ps i now d a in go p.packet refl c
  where
    later : first_for d.universe (p ∷ ps) ≡ first_for d.universe ps → Chosen d.universe ps → Chosen d.universe (p ∷ ps)
    later e c = record {
      packet = c.packet;
      chosen = e ∙ c.chosen;
      place_of = suc c.place_of;
      then = c.then;
      stands = c.stands;
      suits = c.suits;
    }

    go : (b : Packet) → p.packet ≡ b → Chosen d.universe ps → Chosen d.universe (p ∷ ps)
    go (data_packet x) e c =
        split (eqb x.universe d.universe)
        (λ h. record {
          packet = x;
          chosen = cc;
          place_of = 0;
          then = p.reading;
          stands = ap {B = Option Timed} some (λ i. record { reading = p.reading; packet = e i });
          suits = eqb-true x.universe d.universe h;
        })
        (λ h. later (cc) c)
    go (sync_packet x) e c = later (cc) c
    go (discovery_packet x) e c = later (cc) c

address_for : Option DataPacket → ℕ
address_for none = 0
address_for (some d) = d.address

head_for : List ℕ → ℕ
head_for [] = 0
head_for (v ∷ vs) = v

first_value_for : Option DataPacket → ℕ
first_value_for none = 0
first_value_for (some d) = head_for d.values

values_split : (vs ws : List ℕ) → vs ≢ [] → get_elem? vs 0 ≡ get_elem? ws 0 → (others : List ℕ) × (vs ≡ head_for ws ∷ others)
unfolding head_for
values_split [] ws n e = absurd (n refl)
values_split (v ∷ vs) [] n e = missing v refl e
values_split (v ∷ vs) (w ∷ ws) n e = (vs, (cc))

empty_has : (c : Cid) → has [] c ≡ false
unfolding any
empty_has c = refl

-- ── demand 3 ──
module _ (S : Settings) (told_north told_south : List Telling) (places : List ℕ) (north south : List Timed) (lent_north lent_south : ℕ → Space)
    (A : Asked S told_north told_south places north south lent_north lent_south)
    (N : NeitherFull (answers S lent_north 0 (start told_north) north) (answers S lent_south 0 (start told_south) south)) where
  address_at : ℕ → ℕ
  address_at u = address_for (first_for u north)

  first_of : ℕ → ℕ
  first_of u = first_value_for (first_for u north)

  L : List ℕ
  L = (start told_north).listened

  H : Heard L
  unfolding L
  H = heard_tell told_north fresh heard_fresh

  sorted : Ascending before itself (sources_of north)
  sorted = ascending_sources north

  abbrev Fit : Timed → Type 0
  Fit p = FitsAt address_at first_of S L (sources_of north) A.timeouts_off A.highest_value H A.in_limit sorted p

  abbrev Sane : State → Type 0
  Sane s = GoodAt address_at first_of S L (sources_of north) A.timeouts_off A.highest_value H A.in_limit sorted s

  kind_at : (i now : ℕ) (d : DataPacket) → DataAt north i now d → FitsPacket address_at first_of S now (data_packet d)
  unfolding address_at address_for first_of first_value_for
  kind_at i now d a =
      let c = choose north i now d a in
      let q = A.one_address i c.place_of now c.then d c.packet a c.stands (sym c.suits) in
      let r = A.one_first i c.place_of now c.then d c.packet a c.stands (sym c.suits) in
      let w = values_split d.values c.packet.values (A.not_empty i now d a) r in
      let h = c.chosen in
      let x = ap first_value_for h in
      let y = ap address_for h in
      let z = w.1 in
      record { of_universe = refl; of_address = q ∙ sym y; others = w.0; of_values = z ∙ ap (λ (v : ℕ). v ∷ w.0) (sym x) }

  fits_packet : (now : ℕ) (b : Packet) (i : ℕ) → At north i (record { reading = now; packet = b })
      → FitsReal address_at first_of S L (sources_of north) A.timeouts_off A.highest_value H A.in_limit sorted now b
  unfolding L
  fits_packet now (data_packet d) i a =
      record {
        kind = kind_at i now d a;
        heard_universe = A.universe_heard i now d a;
        heard_address = λ z. A.address_heard i now d a (eqb-false d.address 0 z);
        in_list = data_counted north i now d a;
      }
  fits_packet now (sync_packet y) i a =
      record { heard_address = λ z. A.sync_heard i now y a (eqb-false y.address 0 z); in_list = sync_counted north i now y a }
  fits_packet now (discovery_packet d) i a = tt

  fits_north : (i : ℕ) (p : Timed) → At north i p → Fit p
  fits_north i p a = fits_packet p.reading p.packet i a

  fits_south : (k : ℕ) (p : Timed) → At south k p → Fit p
  fits_south k p a = let (i, h) = picks_from places north south k p A.reordering.picks a in fits_north i p h

  good_start : Sane (start told_north)
  unfolding L
  good_start =
      let q = quiet_tell told_north fresh in
      let d = q.quiet_data in
      let y = q.quiet_sync in
      let w = q.quiet_waiting in
      record {
        good = record {
          good_data = subst GoodTable (sym d) good_empty;
          good_sync = subst GoodTable (sym y) good_empty;
          good_waiting = subst (λ (l : List Dmx). GoodWaiting address_at first_of l) (sym w) (good_none address_at first_of);
        };
        hearing = refl;
        in_data = subst (λ (t : Table). Within (sources_of north) t) (sym d) nothing_in;
        in_sync = subst (λ (t : Table). Within (sources_of north) t) (sym y) nothing_in;
      }
    where
      nothing_in : Within (sources_of north) pairs.empty
      nothing_in c h = clash h (empty_has c)

  -- packets that are moved past one another are independent
  independent : (i j : ℕ) (p q : Timed) → MovedPast places i j → At north i p → At north j q → Indep p q
  independent i j p q m a b =
      let x = A.north_rises i j p q m.north_order a b in
      let y = A.south_rises m.k m.l q p m.south_order
      (picks_at places north south m.k j q A.reordering.picks m.first b)
      (picks_at places north south m.l i p A.reordering.picks m.second a) in
      record { same_reading = omega arith; other_source = A.own_order i j p q m a b; free = A.address_order i j p q m a b }

  -- no answer of a run is one of 10 to 13
  not_full : (n : ℕ) → ((10 ≤ n) × (n ≤ 13) → ⊥) → leb 10 n && leb n 13 ≡ false
  not_full n h = split (leb 10 n && leb n 13) (λ e. absurd (h (both e))) (λ e. e)
    where
      both : leb 10 n && leb n 13 ≡ true → (10 ≤ n) × (n ≤ 13)
      both e =
          split (leb 10 n)
          (λ p. (leb-true 10 n p, leb-true n 13 (rw p at e)))
          (λ p. clash (rw p at e) refl)

  unfull : (a : Answered) → ((10 ≤ a.number) × (a.number ≤ 13) → ⊥) → full a ≡ false
  unfolding full
  unfull a h = not_full a.number h

  module _ (lent : ℕ → Space) (ps : List Timed) (space : (i : ℕ) → i < length ps → too_short (lent i) ≡ none) (fits : (i : ℕ) (p : Timed) → At ps i p → Fit p)
      (fine : NoneFull (answers S lent 0 (start told_north) ps)) where
    run_ideal : (answers S lent 0 (start told_north) ps ≡ reorder.answers (relabel answer_of (guarded fault (step S))) (start told_north) ps)
        × (end S lent 0 (start told_north) ps ≡ reorder.final (relabel answer_of (guarded fault (step S))) (start told_north) ps)
    run_ideal =
        let z : 0 + length ps ≤ length ps = omega arith in
        let e = answers_run S lent (length ps) space 0 (start told_north) ps z in
        let r = as_ideal_run address_at first_of S L (sources_of north) A.timeouts_off A.highest_value H A.in_limit sorted (start told_north) ps good_start fits
        (λ i a h. unfull a (fine i a (rw e h))) in
        (e ∙ r.0, end_run S lent (length ps) space 0 (start told_north) ps z ∙ r.1)

  fits_fine : (i : ℕ) (p : Timed) → At north i p → Fits address_at first_of S p
  fits_fine i p a = fits_ideal address_at first_of S L (sources_of north) A.timeouts_off A.highest_value H A.in_limit sorted p.reading p.packet (fits_north i p a)

  commuting : Commutes (relabel answer_of (guarded fault (step S))) Same (Good address_at first_of S) (Fits address_at first_of S) Indep
  commuting = C address_at first_of S L (sources_of north) A.timeouts_off A.highest_value H A.in_limit sorted

  starts : start told_north ≡ start told_south
  starts = same_start told_north told_south A.alike_told

  -- South's run is the ideal run from North's start
  south_ideal : (answers S lent_south 0 (start told_south) south ≡ reorder.answers (relabel answer_of (guarded fault (step S))) (start told_north) south)
      × (end S lent_south 0 (start told_south) south ≡ reorder.final (relabel answer_of (guarded fault (step S))) (start told_north) south)
  south_ideal =
      let r = run_ideal lent_south south A.south_space fits_south (subst (λ (s : State). NoneFull (answers S lent_south 0 s south)) (sym starts) N.south_fits) in
      (ap (λ (s : State). answers S lent_south 0 s south) (sym starts) ∙ r.0, ap (λ (s : State). end S lent_south 0 s south) (sym starts) ∙ r.1)

  agreed : Agreed S told_north told_south places north south lent_north lent_south
  agreed =
      let n = run_ideal lent_north north A.north_space fits_north N.north_fits in
      let m = south_ideal in
      let e = reorder.same_end (relabel answer_of (guarded fault (step S))) Same (Good address_at first_of S) (Fits address_at first_of S) Indep commuting
      (start told_north) good_start.good places north south A.reordering fits_fine independent in
      record {
        same_answers = rw (n.0, m.0) (reorder.same_answers (relabel answer_of (guarded fault (step S))) Same (Good address_at first_of S) (Fits address_at first_of S) Indep commuting
            (start told_north) good_start.good places north south A.reordering fits_fine independent);
        same_end = rw (n.1, m.1) (record {
          same_data = e.same_data;
          same_sync = e.same_sync;
          same_waiting = e.same_waiting;
          same_listened = e.same_listened;
          same_partial = e.same_discovered.partials;
          same_listed = e.same_discovered.listeds;
        });
      }

-- DEMAND 3.
pub demand_3 : Demand3
demand_3 S told_north told_south places north south lent_north lent_south A N = agreed S told_north told_south places north south lent_north lent_south A N
