-- The step under the settings of demand 3, without the stops for full tables, as an effect on each part of the state;
-- packets of different sources at one reading commute, unless one is a synchronisation packet of the other's address.
-- Assumes nothing.
use Rattle.std.specs.Prelude.{◌≡◌, ◌≢◌, Bool, true, false, cond, ◌&&◌, ℕ, eqb}
use Rattle.std.proofs.Math.Path.{refl, sym, ap}
use Rattle.std.proofs.Common.{◌∙◌, subst}
use Rattle.std.proofs.Math.Option.{Option, none, some}
use Rattle.std.proofs.Math.Bool.{not}
use borrow.Author.Tests.{eqb-true, eqb-false}
use Rattle.laws.specs.Cases.{split}
use Rattle.laws.specs.Table.{find_remove_other}
use Rattle.rules.specs.declared.Cid.{Cid}
use Rattle.settings.specs.declared.Settings.{Settings}
use Rattle.pairs.specs.declared.Pair.{Pair}
use Rattle.pairs.specs.declared.Checked.{Checked}
use Rattle.pairs.specs.Table as pairs
use Rattle.pairs.specs.Table.{Table, Key, key, key_of, key_before, pair_at, live, recorded, without, sequence_stop}
use Rattle.pairs.proofs.TableLaws.{key_order}
use Rattle.pairs.specs.Laws.{GoodTable}
use Rattle.pairs.proofs.Laws.{good_recorded, good_without, good_swept, key_apart, pair_at_recorded_other, recorded_recorded, without_recorded, recorded_without, without_without, swept_swept, swept_recorded_again, swept_without_again, live_stored, without_pairs}
use Rattle.merge.specs.Laws.{Like}
use Rattle.waiting.specs.Waiting as waiting
use Rattle.waiting.specs.Laws.{Move, rest, wait, clear, release, move}
use Rattle.waiting.proofs.Laws.{GoodWaiting, FitsMove, Apart, FreshMove, good_keep, good_move, move_move, released_move, swept_move}
use Rattle.waiting.proofs.Laws as waiting_laws
use Rattle.discovery.specs.Discovery.{Discovered, Source, noted, lookup}
use Rattle.discovery.specs.Laws.{Alike}
use Rattle.discovery.proofs.Laws.{about_noted, partial_noting, partial_other, partial_ended, alike_refl, alike_trans, alike_noting, alike_ended, noting_noting, noting_ended, ended_ended, alike_sym}
use Rattle.model.specs.declared.StepAnswer.{StepAnswer}
use Rattle.model.specs.Packet.{DataPacket, Packet, data_packet, sync_packet, discovery_packet, sender}
use Rattle.model.specs.State.{State}
use Rattle.model.specs.Step as model
use Rattle.reorder.specs.Demand.{Timed, Free}
use Rattle.reorder.proofs.ReorderLaws.{Commutes}
use Rattle.reorder.specs.Ideal.{Change, Concerns, Effect, Fresh, Indep, Local, News, Same, Told, apply, arriving, change, data_effect, discovery_effect, effect, ending, if_known, learn, only, polled, step, sync_effect, syncing, unless, drop, forget, note, put, quiet, same}

pub good_change : (a : Change) (t : Table) → GoodTable t → GoodTable (change a t)
unfolding change
good_change same t g = g
good_change (put p) t g = good_recorded p t g
good_change (drop k) t g = good_without k t g

apart_cids : (a b c d : Cid) → a ≡ c → b ≡ d → c ≢ d → a ≢ b
apart_cids a b c d p q n e = n (sym p ∙ e ∙ q)

find_change : (j : Key) (c d : Cid) (a : Change) (t : Table) → GoodTable t → j.cid ≡ c → Local d a → c ≢ d
    → pair_at j (change a t).pairs ≡ pair_at j t.pairs
unfolding change
find_change j c d same t g p l n = refl
find_change j c d (put x) t g p l n = pair_at_recorded_other j x t (key_apart j (key_of x) (apart_cids j.cid x.cid c d p l n))
find_change j c d (drop k) t g p l n =
    ap (pair_at j) (without_pairs k t) ∙ find_remove_other key_before key_of key_order j k t.pairs g.ascending (key_apart j k (apart_cids j.cid k.cid c d p l n))

change_change : (c d : Cid) (a b : Change) (t : Table) → GoodTable t → Local c a → Local d b → c ≢ d → change a (change b t) ≡ change b (change a t)
unfolding change
change_change c d same b t g l m n = refl
change_change c d (put p) same t g l m n = refl
change_change c d (put p) (put q) t g l m n = recorded_recorded p q t g (apart_cids p.cid q.cid c d l m n)
change_change c d (put p) (drop k) t g l m n = recorded_without p k t g (apart_cids p.cid k.cid c d l m n)
change_change c d (drop k) same t g l m n = refl
change_change c d (drop k) (put q) t g l m n = without_recorded k q t g (apart_cids q.cid k.cid d c m l (λ e. n (sym e)))
change_change c d (drop k) (drop j) t g l m n = without_without k j t g

sweep_change : (now : ℕ) (a : Change) (t : Table) → GoodTable t → Fresh now a → pairs.swept now t ≡ t → pairs.swept now (change a t) ≡ change a t
unfolding change
sweep_change now same t g f e = e
sweep_change now (put p) t g f e = swept_recorded_again now p t g f e
sweep_change now (drop k) t g f e = swept_without_again now k t g e

learn_alike : (n : News) (k l : Discovered) → Alike k l → Alike (learn n k) (learn n l)
unfolding learn
learn_alike quiet k l a = a
learn_alike (note n) k l a = alike_noting n k l a
learn_alike (forget c u) k l a = alike_ended c u k l a

learn_learn : (m n : News) (c d : Cid) (k : Discovered) → Concerns c m → Concerns d n → c ≢ d → Alike (learn m (learn n k)) (learn n (learn m k))
unfolding learn
learn_learn quiet n c d k a b h = alike_refl _
learn_learn (note x) quiet c d k a b h = alike_refl _
learn_learn (note x) (note y) c d k a b h = noting_noting x y c d k a b h
learn_learn (note x) (forget e u) c d k a b h = noting_ended x c e u k a (rw b h)
learn_learn (forget e u) quiet c d k a b h = alike_refl _
learn_learn (forget e u) (note y) c d k a b h = alike_sym (noting_ended y d e u k b (rw a (λ q. h (sym q))))
learn_learn (forget e u) (forget f v) c d k a b h = ended_ended e f u v k (rw (a, b) h)

-- what is known of a source, after news of another
learn_other : (n : News) (c d : Cid) (k : Discovered) → Concerns d n → c ≢ d → lookup c (learn n k).partial ≡ lookup c k.partial
unfolding learn
learn_other quiet c d k a h = refl
learn_other (note n) c d k a h = partial_noting n c k ∙ partial_other n d c (lookup c k.partial) a h
learn_other (forget e u) c d k a h = partial_ended e c u k

-- ── what every effect meets ──
either {ℓ} : {A : Type 0} (P : A → Type ℓ) (b : Bool) (x y : A) → P x → P y → P (cond b x y)
either P true x y p q = p
either P false x y p q = q

module _ (address_at first_of : ℕ → ℕ) (S : Settings) where
  pub record Good (s : State) : Type 0 where
    pub good_data : GoodTable s.data_pairs
    pub good_sync : GoodTable s.sync_pairs
    pub good_waiting : GoodWaiting address_at first_of s.waiting

  -- every data packet of the list: its universe has one address and one first value
  abbrev pub FitsPacket : ℕ → Packet → Type 0
  FitsPacket now (data_packet d) = Like d.universe (address_at d.universe) (first_of d.universe) (model.dmx now d)
  FitsPacket now (sync_packet y) = Unit {0}
  FitsPacket now (discovery_packet a) = Unit {0}

  abbrev pub Fits : Timed → Type 0
  Fits p = FitsPacket p.reading p.packet

  -- what a packet may do to the waiting data
  abbrev pub Possible : ℕ → Packet → Move → Type 0
  Possible now b rest = Unit {0}
  Possible now (data_packet d) (wait p) = (waiting.address_of p ≡ d.address) × (p.head.recv_timestamp ≡ now)
  Possible now (data_packet d) (clear u) = Unit {0}
  Possible now (data_packet d) (release a) = ⊥
  Possible now (sync_packet y) (wait p) = ⊥
  Possible now (sync_packet y) (clear u) = ⊥
  Possible now (sync_packet y) (release a) = (a ≡ y.address) × (y.address ≢ 0)
  Possible now (discovery_packet x) (wait p) = ⊥
  Possible now (discovery_packet x) (clear u) = ⊥
  Possible now (discovery_packet x) (release a) = ⊥

  pub record Sound (now : ℕ) (b : Packet) (e : Effect) : Type 0 where
    pub local_data : Local (sender b) e.to_data
    pub local_sync : Local (sender b) e.to_sync
    pub concerns : Concerns (sender b) e.to_discovered
    pub fresh_data : Fresh now e.to_data
    pub fresh_sync : Fresh now e.to_sync
    pub fresh_move : FreshMove address_at first_of now e.to_waiting
    pub fits_move : FitsMove address_at first_of e.to_waiting
    pub possible : Possible now b e.to_waiting

  sound_only : (now : ℕ) (b : Packet) (a : StepAnswer) → Sound now b (only a)
  sound_only now b a =
      record { local_data = tt; local_sync = tt; concerns = tt; fresh_data = tt; fresh_sync = tt; fresh_move = tt; fits_move = tt; possible = tt }

  unless_either : (P : Effect → Type 0) (o : Option Checked) (e : Effect) → P e → ((a : StepAnswer) → P (only a)) → P (unless o e)
  unfolding unless
  unless_either P none e h k = h
  unless_either P (some a) e h k = k (model.stopped a)

  known_local : (k : Key) (o : Option Pair) → Local k.cid (if_known o (drop k))
  known_local k none = tt
  known_local k (some p) = refl

  known_fresh : (now : ℕ) (k : Key) (o : Option Pair) → Fresh now (if_known o (drop k))
  known_fresh now k none = tt
  known_fresh now k (some p) = tt

  fresh_now : (now : ℕ) (d : DataPacket) → waiting.fresh now (model.dmx now d) ≡ true
  fresh_now now d = live_stored (model.data_pair now d)

  pub sound : (now : ℕ) (b : Packet) (s : State) → FitsPacket now b → Sound now b (effect S now b s)
  unfolding effect data_effect sync_effect discovery_effect ending arriving syncing
  sound now (data_packet d) s f =
      let P = Sound now (data_packet d) in
      let k = key d.cid d.universe in
      let o = pair_at k s.data_pairs.pairs in
      either P (d.preview && not S.process_preview_data) _ _ (sound_only now _ _)
      (either P d.terminated _ _
      (record {
        local_data = refl;
        local_sync = known_local k o;
        concerns = refl;
        fresh_data = tt;
        fresh_sync = known_fresh now k o;
        fresh_move = tt;
        fits_move = tt;
        possible = tt;
      })
      (unless_either P (sequence_stop d.sequence o) _
      (split (eqb d.address 0)
      (λ h. rw h (record {
        local_data = refl;
        local_sync = tt;
        concerns = tt;
        fresh_data = live_stored (model.data_pair now d);
        fresh_sync = tt;
        fresh_move = tt;
        fits_move = sym f.of_address ∙ eqb-true d.address 0 h;
        possible = tt;
      }))
      (λ h. rw h (record {
        local_data = refl;
        local_sync = tt;
        concerns = tt;
        fresh_data = live_stored (model.data_pair now d);
        fresh_sync = tt;
        fresh_move = fresh_now now d;
        fits_move = (f, λ z. eqb-false d.address 0 h (f.of_address ∙ z));
        possible = (refl, refl);
      })))
      (λ a. sound_only now _ a)))
  sound now (sync_packet y) s f =
      let P = Sound now (sync_packet y) in
      split (eqb y.address 0)
      (λ h. rw h (sound_only now _ _))
      (λ h. rw h (unless_either P (sequence_stop y.sequence _) _
      (record {
        local_data = tt;
        local_sync = refl;
        concerns = tt;
        fresh_data = tt;
        fresh_sync = live_stored (model.sync_pair now y);
        fresh_move = tt;
        fits_move = tt;
        possible = (refl, eqb-false y.address 0 h);
      })
      (λ a. sound_only now _ a)))
  sound now (discovery_packet a) s f =
      record {
        local_data = tt;
        local_sync = tt;
        concerns = about_noted now a s.discovered.partial;
        fresh_data = tt;
        fresh_sync = tt;
        fresh_move = tt;
        fits_move = tt;
        possible = tt;
      }

  apart : (now : ℕ) (b c : Packet) (m n : Move) → Free b c → Possible now b m → Possible now c n → Apart address_at first_of m n
  apart now b c rest n f p q = tt
  apart now (data_packet d) c (wait l) rest f p q = tt
  apart now (data_packet d) c (wait l) (clear u) f p q = tt
  apart now (data_packet d) (data_packet e) (wait l) (wait k) f p q = p.1 ∙ sym q.1
  apart now (data_packet d) (data_packet e) (wait l) (release a) f p q = absurd q
  apart now (data_packet d) (sync_packet y) (wait l) (wait k) f p q = absurd q
  apart now (data_packet d) (sync_packet y) (wait l) (release a) f p q = λ h. f q.1 (sym p.0 ∙ h ∙ q.0)
  apart now (data_packet d) (discovery_packet y) (wait l) (wait k) f p q = absurd q
  apart now (data_packet d) (discovery_packet y) (wait l) (release a) f p q = absurd q
  apart now (data_packet d) c (clear u) n f p q = tt
  apart now (data_packet d) c (release a) n f p q = absurd p
  apart now (sync_packet y) c (wait l) n f p q = absurd p
  apart now (sync_packet y) c (clear u) n f p q = absurd p
  apart now (sync_packet y) c (release a) rest f p q = tt
  apart now (sync_packet y) c (release a) (clear u) f p q = tt
  apart now (sync_packet y) (data_packet d) (release a) (wait l) f p q = λ h. f p.1 (sym q.0 ∙ h ∙ p.0)
  apart now (sync_packet y) (data_packet d) (release a) (release b) f p q = absurd q
  apart now (sync_packet y) (sync_packet z) (release a) (wait l) f p q = absurd q
  apart now (sync_packet y) (sync_packet z) (release a) (release b) f p q = λ h. f p.1 (sym p.0 ∙ h ∙ q.0)
  apart now (sync_packet y) (discovery_packet z) (release a) (wait l) f p q = absurd q
  apart now (sync_packet y) (discovery_packet z) (release a) (release b) f p q = absurd q
  apart now (discovery_packet a) c (wait l) n f p q = absurd p
  apart now (discovery_packet a) c (clear u) n f p q = absurd p
  apart now (discovery_packet a) c (release b) n f p q = absurd p

  -- what a packet does is not changed by an independent one before it
  effect_same : (now : ℕ) (b c : Packet) (e : Effect) (s : State) → Good s → Sound now c e → sender b ≢ sender c → Free b c
      → effect S now b (apply e s) ≡ effect S now b s
  unfolding effect sync_effect apply
  effect_same now (data_packet d) c e s g k n f =
      ap (data_effect S now d) (find_change (key d.cid d.universe) d.cid (sender c) e.to_data s.data_pairs g.good_data refl k.local_data n)
  effect_same now (sync_packet y) c e s g k n f =
      split (eqb y.address 0)
      (λ h. rw h)
      (λ h.
      let x = find_change (key y.cid y.address) y.cid (sender c) e.to_sync s.sync_pairs g.good_sync refl k.local_sync n in
      let z = released_move address_at first_of now y.address e.to_waiting s.waiting g.good_waiting k.fits_move
      (apart now (sync_packet y) c (release y.address) e.to_waiting f (refl, eqb-false y.address 0 h) k.possible) in
      rw (x, z))
  effect_same now (discovery_packet a) c e s g k n f =
      ap (λ (o : Option Source). discovery_effect S (noted now a o)) (learn_other e.to_discovered a.cid (sender c) s.discovered k.concerns n)

  pub good_apply : (now : ℕ) (b : Packet) (e : Effect) (s : State) → Good s → Sound now b e → Good (apply e s)
  unfolding apply
  good_apply now b e s g k = record {
    good_data = good_change e.to_data _ g.good_data;
    good_sync = good_change e.to_sync _ g.good_sync;
    good_waiting = good_move address_at first_of e.to_waiting s.waiting g.good_waiting k.fits_move;
  }

  pub good_polled : (now : ℕ) (s : State) → Good s → Good (polled now s)
  unfolding polled
  good_polled now s g = record {
    good_data = good_swept now _ g.good_data;
    good_sync = good_swept now _ g.good_sync;
    good_waiting = good_keep address_at first_of _ s.waiting g.good_waiting;
  }

  pub polled_polled : (now : ℕ) (s : State) → polled now (polled now s) ≡ polled now s
  unfolding polled
  polled_polled now s =
      let x = swept_swept now s.data_pairs in
      let y = swept_swept now s.sync_pairs in
      let z = waiting_laws.swept_swept now s.waiting in
      λ i. record { data_pairs = x i; sync_pairs = y i; waiting = z i; listened = s.listened; discovered = s.discovered }

  polled_apply : (now : ℕ) (b : Packet) (e : Effect) (s : State) → Good s → Sound now b e → polled now s ≡ s → polled now (apply e s) ≡ apply e s
  unfolding polled apply
  polled_apply now b e s g k h =
      let x = sweep_change now e.to_data s.data_pairs g.good_data k.fresh_data (ap (λ (t : State). t.data_pairs) h) in
      let y = sweep_change now e.to_sync s.sync_pairs g.good_sync k.fresh_sync (ap (λ (t : State). t.sync_pairs) h) in
      let z = swept_move address_at first_of now e.to_waiting s.waiting g.good_waiting k.fresh_move (ap (λ (t : State). t.waiting) h) in
      λ i. record { data_pairs = x i; sync_pairs = y i; waiting = z i; listened = s.listened; discovered = learn e.to_discovered s.discovered }

  apply_apply : (now : ℕ) (b c : Packet) (e f : Effect) (s : State) → Good s → Sound now b e → Sound now c f → sender b ≢ sender c → Free b c
      → Same (apply e (apply f s)) (apply f (apply e s))
  unfolding apply
  apply_apply now b c e f s g k l n i = record {
    same_data = change_change (sender b) (sender c) e.to_data f.to_data s.data_pairs g.good_data k.local_data l.local_data n;
    same_sync = change_change (sender b) (sender c) e.to_sync f.to_sync s.sync_pairs g.good_sync k.local_sync l.local_sync n;
    same_waiting = move_move address_at first_of e.to_waiting f.to_waiting s.waiting g.good_waiting k.fits_move l.fits_move
        (apart now b c e.to_waiting f.to_waiting i k.possible l.possible);
    same_listened = refl;
    same_discovered = learn_learn e.to_discovered f.to_discovered (sender b) (sender c) s.discovered k.concerns l.concerns n;
  }

  free_sym : (b c : Packet) → Free b c → Free c b
  free_sym (data_packet d) (data_packet e) f = tt
  free_sym (data_packet d) (sync_packet e) f = f
  free_sym (data_packet d) (discovery_packet e) f = tt
  free_sym (sync_packet d) (data_packet e) f = f
  free_sym (sync_packet d) (sync_packet e) f = λ n h. f (λ z. n (h ∙ z)) (sym h)
  free_sym (sync_packet d) (discovery_packet e) f = tt
  free_sym (discovery_packet d) (data_packet e) f = tt
  free_sym (discovery_packet d) (sync_packet e) f = tt
  free_sym (discovery_packet d) (discovery_packet e) f = tt

  -- the step, with reading and packet apart
  at : ℕ → State → Packet → State × Told
  at now s b = (apply (effect S now b (polled now s)) (polled now s), (effect S now b (polled now s)).told)

  -- c and then b
  module _ (now : ℕ) (b c : Packet) (s : State) (g : Good s) (fc : FitsPacket now c) (n : sender b ≢ sender c) (i : Free b c) where
    polled_again : polled now (at now s c).0 ≡ (at now s c).0
    unfolding at
    polled_again = polled_apply now c _ (polled now s) (good_polled now s g) (sound now c (polled now s) fc) (polled_polled now s)

    effect_again : effect S now b (polled now (at now s c).0) ≡ effect S now b (polled now s)
    effect_again = rw polled_again (unfold at in effect_same now b c _ (polled now s) (good_polled now s g) (sound now c (polled now s) fc) n i)

    after_two : (at now (at now s c).0 b).0 ≡ apply (effect S now b (polled now s)) (apply (effect S now c (polled now s)) (polled now s))
    unfolding at
    after_two = cc (effect_again, polled_again)

    told_two : (at now (at now s c).0 b).1 ≡ (at now s b).1
    unfolding at
    told_two = ap (λ (e : Effect). e.told) effect_again

  module _ (now : ℕ) (b c : Packet) (s : State) (g : Good s) (fb : FitsPacket now b) (fc : FitsPacket now c) (n : sender b ≢ sender c) (i : Free b c) where
    swap_at : Same (at now (at now s c).0 b).0 (at now (at now s b).0 c).0
    swap_at =
        rw (after_two now b c s g fc n i, after_two now c b s g fb (λ e. n (sym e)) (free_sym b c i))
        (apply_apply now b c _ _ (polled now s) (good_polled now s g) (sound now b (polled now s) fb) (sound now c (polled now s) fc) n i)

  effect_alike : (now : ℕ) (b : Packet) (s t : State) → Same s t → effect S now b s ≡ effect S now b t
  unfolding effect
  effect_alike now (data_packet d) s t e = ap (λ (x : Table). data_effect S now d (pair_at (key d.cid d.universe) x.pairs)) e.same_data
  effect_alike now (sync_packet y) s t e = let x = e.same_sync in let z = e.same_waiting in cc
  effect_alike now (discovery_packet a) s t e = ap (λ (o : Option Source). discovery_effect S (noted now a o)) (e.same_discovered.partials a.cid)

  polled_alike : (now : ℕ) (s t : State) → Same s t → Same (polled now s) (polled now t)
  unfolding polled
  polled_alike now s t e = record {
    same_data = ap (pairs.swept now) e.same_data;
    same_sync = ap (pairs.swept now) e.same_sync;
    same_waiting = ap (waiting.swept now) e.same_waiting;
    same_listened = e.same_listened;
    same_discovered = e.same_discovered;
  }

  apply_alike : (x : Effect) (s t : State) → Same s t → Same (apply x s) (apply x t)
  unfolding apply
  apply_alike x s t e = record {
    same_data = ap (change x.to_data) e.same_data;
    same_sync = ap (change x.to_sync) e.same_sync;
    same_waiting = ap (move x.to_waiting) e.same_waiting;
    same_listened = e.same_listened;
    same_discovered = learn_alike x.to_discovered _ _ e.same_discovered;
  }

  fits_at : (p q : Timed) → Indep p q → Fits q → FitsPacket p.reading q.packet
  fits_at p q i h = subst (λ (r : ℕ). FitsPacket r q.packet) (sym i.same_reading) h

  pub commutes : Commutes (step S) Same Good Fits Indep
  unfolding step
  commutes = record {
    same_refl = λ s. record { same_data = refl; same_sync = refl; same_waiting = refl; same_listened = refl; same_discovered = alike_refl s.discovered };
    same_trans = λ s t u e f. record {
      same_data = e.same_data ∙ f.same_data;
      same_sync = e.same_sync ∙ f.same_sync;
      same_waiting = e.same_waiting ∙ f.same_waiting;
      same_listened = e.same_listened ∙ f.same_listened;
      same_discovered = alike_trans e.same_discovered f.same_discovered;
    };
    keeps = λ s p g f. good_apply p.reading p.packet _ (polled p.reading s) (good_polled p.reading s g) (sound p.reading p.packet (polled p.reading s) f);
    same_after = λ s t p g h f e. rw (effect_alike p.reading p.packet _ _ (polled_alike p.reading s t e)) (apply_alike _ _ _ (polled_alike p.reading s t e));
    same_answer = λ s t p g h f e. ap (λ (x : Effect). x.told) (effect_alike p.reading p.packet _ _ (polled_alike p.reading s t e));
    swap_after = λ s p q g f h i. rw (← i.same_reading) (unfold at in (swap_at p.reading p.packet q.packet s g f (fits_at p q i h) i.other_source i.free));
    swap_first = λ s p q g f h i. rw (← i.same_reading) (unfold at in (told_two p.reading p.packet q.packet s g (fits_at p q i h) i.other_source i.free));
    swap_second = λ s p q g f h i. rw (← i.same_reading) (unfold at in (sym (told_two p.reading q.packet p.packet s g f (λ e. i.other_source (sym e)) (free_sym p.packet q.packet i.free))));
  }
