-- Laws of waiting data: each call keeps the table in order and within its counts, how many bytes a release has,
-- and which calls may change places where every universe keeps to one address and one first value.
-- Assumes nothing.
use Rattle.std.proofs.Math.Path.{◌≡◌, refl, sym, ap}
use Rattle.std.proofs.Common.{◌∙◌, arith, length-append}
use Rattle.std.specs.Prelude.{◌≢◌, Bool, true, false, ℕ, ◌+◌, ◌*◌, ◌≤◌, ◌<◌, leb, length}
use Rattle.std.proofs.Math.Option.{none, some}
use Rattle.std.proofs.Math.Bool.{not}
use mathlib.Core.List.{List, [], ◌∷◌}
use Rattle.std.proofs.Math.Dec.{ltb}
use borrow.Author.Tests.{leb-false, ne_eqb, eqb-true}
use Rattle.laws.specs.Cases.{split, found}
use Rattle.laws.specs.Order.{ℕOrder, tri, keyed}
use Rattle.laws.specs.Table.{keep, find, store, remove, Ascending, other_than}
use Rattle.laws.specs.Table.{keep_keep, keep_idem, keep_implied, length_keep, find_store_same, find_store_other, find_keep, find_kept, ascending_store, ascending_keep, ascending_remove, length_store_new, length_store_known, remove_keep, remove_absent, store_store, store_again, keep_store, keep_store_skip, find_key}
use Rattle.rules.specs.Age.{expired}
use Rattle.rules.specs.Bytes.{big_endian}
use Rattle.rules.proofs.BytesLaws.{length_big_endian}
use Rattle.settings.specs.declared.MergeChoice.{MergeChoice}
use Rattle.settings.specs.declared.MergeChoice.TheVariants.{DiscardLowestPriorityThenPrevious, HtpDmxMerge}
use Rattle.merge.specs.declared.SourceCid.{SourceCid}
use Rattle.merge.specs.declared.SourceCid.TheVariants.{Merged, Of}
use Rattle.merge.specs.Merge.{Dmx, htp_merge, mergeable, joined, preferred, most_values}
use Rattle.merge.specs.Laws.{Like}
use Rattle.merge.proofs.Laws.{htp_merge_like, joined_like, like_paired, joined_comm, joined_swap, joined_universe, joined_passes, joined_fits, preferred_cases}
use Rattle.waiting.specs.declared.StoreAnswer.{StoreAnswer}
use Rattle.waiting.specs.declared.StoreAnswer.TheVariants.{Stored, MergeRefused, WaitingFull}
use Rattle.waiting.specs.declared.StoreCall.{StoreCall}
use Rattle.waiting.specs.declared.ReleaseAnswer.{ReleaseAnswer}
use Rattle.waiting.specs.Waiting.{universe_of, address_of, waiting_for, capacity, merged, joining, stored, cleared, fresh, swept, of_address, released, left, Within, Ordered}
use Rattle.waiting.specs.Records.{owner, encode, records, over, most_bytes}
use Rattle.waiting.specs.Answers.{store_call, store_number_of, store_values_of, universe_told, store_told}
use Rattle.waiting.specs.Answers.{release_call, release_number_of, release_values_of, release_told}
use Rattle.waiting.specs.Laws.{Move, hold, move, value_count, clear, release, rest, wait}

-- ── in order and within the counts ──
pub within_keep : (t : Dmx → Bool) (ds : List Dmx) → Within ds → Within (keep t ds)
unfolding keep
within_keep t [] w = tt
within_keep t (d ∷ ds) w = split (t d) (λ h. rw h (w.0, within_keep t ds w.1)) (λ h. rw h (within_keep t ds w.1))

within_store : (v : Dmx) (ds : List Dmx) → length v.values ≤ most_values → Within ds → Within (store ltb universe_of v ds)
unfolding store
within_store v [] h w = (h, tt)
within_store v (d ∷ ds) h w =
    split (ltb (universe_of d) (universe_of v))
    (λ p. rw p (w.0, within_store v ds h w.1))
    (λ p. split (ltb (universe_of v) (universe_of d)) (λ q. rw (p, q) (h, w)) (λ q. rw (p, q) (h, w.1)))

-- what waits for a universe has at most 513 values
pub within_find : (u : ℕ) (e : Dmx) (ds : List Dmx) → Within ds → waiting_for u ds ≡ some e → length e.values ≤ most_values
unfolding find
within_find u e [] w h = let z : ◌≡◌ {A = ℕ} 0 1 = cc in absurd (omega arith)
within_find u e (d ∷ ds) w h =
    split (ltb (universe_of d) u)
    (λ p. within_find u e ds w.1 (cc))
    (λ p. split (ltb u (universe_of d))
    (λ q. let z : none ≡ some e = cc in let y : ◌≡◌ {A = ℕ} 0 1 = cc in absurd (omega arith))
    (λ q. let s : d ≡ e = cc in rw s at w.0))

pub ordered_none : Ordered []
ordered_none = record { ascends = tt; fit = omega arith; values_fit = tt }

pub ordered_keep : (t : Dmx → Bool) (ds : List Dmx) → Ordered ds → Ordered (keep t ds)
ordered_keep t ds o = record {
  ascends = ascending_keep ltb universe_of ℕOrder t ds o.ascends;
  fit = let f = o.fit in omega (arith, length_keep t ds);
  values_fit = within_keep t ds o.values_fit;
}

pub ordered_remove : (u : ℕ) (ds : List Dmx) → Ordered ds → Ordered (remove ltb universe_of u ds)
ordered_remove u ds o = rw (remove_keep ltb universe_of ℕOrder u ds o.ascends) (ordered_keep (other_than ltb universe_of u) ds o)

pub ordered_store_known : (v e : Dmx) (ds : List Dmx) → Ordered ds → length v.values ≤ most_values → waiting_for (universe_of v) ds ≡ some e
    → Ordered (store ltb universe_of v ds)
ordered_store_known v e ds o h k = record {
  ascends = ascending_store ltb universe_of ℕOrder v ds o.ascends;
  fit = rw (length_store_known ltb universe_of ℕOrder v e ds k) o.fit;
  values_fit = within_store v ds h o.values_fit;
}

pub ordered_store_new : (v : Dmx) (ds : List Dmx) → Ordered ds → length v.values ≤ most_values → waiting_for (universe_of v) ds ≡ none
    → length ds < capacity → Ordered (store ltb universe_of v ds)
ordered_store_new v ds o h k l = record {
  ascends = ascending_store ltb universe_of ℕOrder v ds o.ascends;
  fit = omega (arith, length_store_new ltb universe_of ℕOrder v ds k);
  values_fit = within_store v ds h o.values_fit;
}

-- what a merge of either choice gives: of the same universe, and within 513 values
pub merged_universe : (choice : MergeChoice) (e p d : Dmx) → universe_of e ≡ universe_of p → merged choice e p ≡ some d → universe_of d ≡ universe_of p
unfolding merged htp_merge
merged_universe DiscardLowestPriorityThenPrevious e p d u h =
    let f : preferred e p ≡ d = cc in rw (← f) (preferred_cases (λ x. universe_of x ≡ universe_of p) e p u refl)
merged_universe HtpDmxMerge e p d u h =
    split (mergeable e p)
    (λ m. let f : joined e p ≡ d = cc in rw (← f) (joined_universe e p u ∙ u))
    (λ m. let z : none ≡ some d = cc in cc)

pub merged_fits : (choice : MergeChoice) (e p d : Dmx) → length e.values ≤ most_values → length p.values ≤ most_values → merged choice e p ≡ some d
    → length d.values ≤ most_values
unfolding merged htp_merge
merged_fits DiscardLowestPriorityThenPrevious e p d x y h =
    let f : preferred e p ≡ d = cc in rw (← f) (preferred_cases (λ x. length x.values ≤ most_values) e p x y)
merged_fits HtpDmxMerge e p d x y h =
    split (mergeable e p)
    (λ m. let f : joined e p ≡ d = cc in rw (← f) (joined_fits e p x y))
    (λ m. let z : none ≡ some d = cc in let w : ◌≡◌ {A = ℕ} 0 1 = cc in absurd (omega arith))

-- `stored` by its cases
module _ (choice : MergeChoice) (p : Dmx) (ds : List Dmx) where
  pub stored_merged : (e d : Dmx) → waiting_for (universe_of p) ds ≡ some e → merged choice e p ≡ some d
      → stored choice p ds ≡ (store ltb universe_of d ds, Stored)
  unfolding stored joining
  stored_merged e d h m = cc

  pub stored_refused : (e : Dmx) → waiting_for (universe_of p) ds ≡ some e → merged choice e p ≡ none
      → stored choice p ds ≡ (remove ltb universe_of (universe_of p) ds, MergeRefused)
  unfolding stored joining
  stored_refused e h m = cc

  pub stored_full : waiting_for (universe_of p) ds ≡ none → leb capacity (length ds) ≡ true → stored choice p ds ≡ (ds, WaitingFull)
  unfolding stored
  stored_full h f = cc

  pub stored_new : waiting_for (universe_of p) ds ≡ none → leb capacity (length ds) ≡ false → stored choice p ds ≡ (store ltb universe_of p ds, Stored)
  unfolding stored
  stored_new h f = cc

  pub ordered_stored : Ordered ds → length p.values ≤ most_values → Ordered (stored choice p ds).0
  ordered_stored o l =
      found (waiting_for (universe_of p) ds)
      (λ h. split (leb capacity (length ds))
      (λ f. rw (stored_full h f) o)
      (λ f. rw (stored_new h f) (ordered_store_new p ds o l h (leb-false capacity (length ds) f))))
      (λ e h. found (merged choice e p)
      (λ m. rw (stored_refused e h m) (ordered_remove (universe_of p) ds o))
      (λ d m.
      let u = merged_universe choice e p d (find_key ltb universe_of ℕOrder (universe_of p) e ds h) m in
      rw (stored_merged e d h m)
      (ordered_store_known d e ds o (merged_fits choice e p d (within_find (universe_of p) e ds o.values_fit h) l m) (rw u h))))

pub ordered_cleared : (u : ℕ) (ds : List Dmx) → Ordered ds → Ordered (cleared u ds).0
unfolding cleared
ordered_cleared u ds o = ordered_remove u ds o

pub ordered_swept : (now : ℕ) (ds : List Dmx) → Ordered ds → Ordered (swept now ds)
ordered_swept now ds o = ordered_keep (fresh now) ds o

pub ordered_left : (a : ℕ) (ds : List Dmx) → Ordered ds → Ordered (left a ds)
unfolding left
ordered_left a ds o = ordered_keep (λ d. not (of_address a d)) ds o

pub ordered_released : (now a : ℕ) (ds : List Dmx) → Ordered ds → Ordered (released now a ds)
unfolding released
ordered_released now a ds o = ordered_keep (fresh now) (keep (of_address a) ds) (ordered_keep (of_address a) ds o)

-- ── a release's bytes ──
length_owner : (s : SourceCid) → length (owner s) ≡ 17
length_owner Merged = refl
length_owner (Of c) =
    omega (arith, length-append (big_endian 8 c.hi) (big_endian 8 c.lo), length_big_endian 8 c.hi, length_big_endian 8 c.lo)

-- "mark 2, universe 2, address 2, priority 1, preview 1, CID present 1, CID 16, reading 8, value count 2": 35 bytes before the values
pub length_encode : (d : Dmx) → length (encode d) ≡ 35 + length d.values
unfolding encode
length_encode d =
    simp length-append
    (omega (arith, length_big_endian 2 d.head.universe, length_big_endian 2 d.head.sync_uni, length_big_endian 1 d.head.priority, length_owner d.head.src_cid, length_big_endian 8 d.head.recv_timestamp, length_big_endian 2 (length d.values)))

pub length_records : (ds : List Dmx) → length (records ds) ≡ 35 * length ds + value_count ds
unfolding records value_count
length_records [] = omega arith
length_records (d ∷ ds) = omega (arith, length-append (encode d) (records ds), length_encode d, length_records ds)

value_count_within : (ds : List Dmx) → Within ds → value_count ds ≤ most_values * length ds
unfolding value_count
value_count_within [] w = omega arith
value_count_within (d ∷ ds) w = omega (arith, value_count_within ds w.1, w.0)

-- the output of 35,072 bytes is enough
pub records_within : (ds : List Dmx) → length ds ≤ capacity → Within ds → length (records ds) ≤ most_bytes
records_within ds f w = omega (arith, length_records ds, value_count_within ds w)

-- no record leaves the output as it was
pub over_none : (out : List ℕ) → over (records []) out ≡ out
unfolding records
over_none out = refl

pub records_fit : (ds : List Dmx) → Ordered ds → length (records ds) ≤ most_bytes
records_fit ds o = records_within ds o.fit o.values_fit

-- ── what an answer tells: its number and values are those of 'What stops a call' ──
pub store_answer_told : (choice : MergeChoice) (p : Dmx) (ds : List Dmx) (c : StoreCall) → c ≡ (store_call choice p ds).1
    → (store_number_of c, store_values_of c) ≡ store_told choice p ds
unfolding store_call store_told universe_told stored joining
store_answer_told choice p ds c e =
    split (ltb most_values (length p.values)) (λ h. cc)
    (λ h. found (waiting_for (universe_of p) ds)
    (λ w. split (leb capacity (length ds)) (λ f. cc) (λ f. cc))
    (λ d w. found (merged choice d p) (λ m. cc) (λ x m. cc)))

pub release_answer_told : (room now a : ℕ) (ds : List Dmx) (r : ReleaseAnswer) → r ≡ (release_call room now a ds).1
    → (release_number_of r, release_values_of r) ≡ release_told room now a ds
unfolding release_call release_told
release_answer_told room now a ds r e = split (ltb room most_bytes) (λ h. cc) (λ h. cc)

-- "in a step a release meets no expired data": after a sweep at its reading it drops none
pub released_swept : (now a : ℕ) (ds : List Dmx) → released now a (swept now ds) ≡ keep (of_address a) (swept now ds)
unfolding released
released_swept now a ds =
    keep_keep (fresh now) (of_address a) (swept now ds) ∙ ap (keep (of_address a)) (keep_idem (fresh now) ds)

pub swept_swept : (now : ℕ) (ds : List Dmx) → swept now (swept now ds) ≡ swept now ds
swept_swept now ds = keep_idem (fresh now) ds

hold_none : (p : Dmx) (ds : List Dmx) → waiting_for (universe_of p) ds ≡ none → hold p ds ≡ store ltb universe_of p ds
unfolding hold
hold_none p ds h = cc

hold_some : (e p : Dmx) (ds : List Dmx) → waiting_for (universe_of p) ds ≡ some e → hold p ds ≡ store ltb universe_of (joined e p) ds
unfolding hold
hold_some e p ds h = cc

-- ── where each universe has its address and first value ──
module _ (address_at first_of : ℕ → ℕ) where
  -- of its universe's kind
  abbrev pub Kind : ℕ → Dmx → Type 0
  Kind u d = Like u (address_at u) (first_of u) d

  pub record GoodWaiting (ds : List Dmx) : Type 0 where
    pub ascending : Ascending ltb universe_of ds
    pub kinds : (u : ℕ) (e : Dmx) → waiting_for u ds ≡ some e → Kind u e
    pub synchronised : (u : ℕ) (e : Dmx) → waiting_for u ds ≡ some e → address_at u ≢ 0

  -- what the packets of a list ask for
  abbrev pub FitsMove : Move → Type 0
  FitsMove rest = Unit {0}
  FitsMove (wait p) = Kind (universe_of p) p × (address_at (universe_of p) ≢ 0)
  FitsMove (clear u) = address_at u ≡ 0
  FitsMove (release a) = Unit {0}

  -- two moves that may change places
  abbrev pub Apart : Move → Move → Type 0
  Apart rest n = Unit {0}
  Apart (wait p) rest = Unit {0}
  Apart (wait p) (wait q) = p.head.recv_timestamp ≡ q.head.recv_timestamp
  Apart (wait p) (clear u) = Unit {0}
  Apart (wait p) (release a) = address_of p ≢ a
  Apart (clear u) n = Unit {0}
  Apart (release a) rest = Unit {0}
  Apart (release a) (wait p) = address_of p ≢ a
  Apart (release a) (clear u) = Unit {0}
  Apart (release a) (release b) = a ≢ b

  pub good_none : GoodWaiting []
  unfolding find
  good_none = record {
    ascending = tt;
    kinds = λ u e h. let z : ◌≡◌ {A = ℕ} 0 1 = cc in absurd (omega arith);
    synchronised = λ u e h. let z : ◌≡◌ {A = ℕ} 0 1 = cc in absurd (omega arith);
  }

  good_store : (u : ℕ) (x : Dmx) (ds : List Dmx) → GoodWaiting ds → Kind u x → address_at u ≢ 0 → GoodWaiting (store ltb universe_of x ds)
  good_store u x ds g f z = record {
    ascending = ascending_store ltb universe_of ℕOrder x ds g.ascending;
    kinds = λ v e h. keyed ltb ℕOrder v (universe_of x)
        (λ p. let q : x ≡ e = cc (find_store_same ltb universe_of ℕOrder x ds) in rw (p ∙ f.of_universe, ← q) f)
        (λ n. g.kinds v e (cc (find_store_other ltb universe_of ℕOrder v x ds n)));
    synchronised = λ v e h. keyed ltb ℕOrder v (universe_of x)
        (λ p. rw (p ∙ f.of_universe) z)
        (λ n. g.synchronised v e (cc (find_store_other ltb universe_of ℕOrder v x ds n)));
  }

  pub good_keep : (t : Dmx → Bool) (ds : List Dmx) → GoodWaiting ds → GoodWaiting (keep t ds)
  good_keep t ds g = record {
    ascending = ascending_keep ltb universe_of ℕOrder t ds g.ascending;
    kinds = λ u e h. g.kinds u e (find_kept ltb universe_of ℕOrder t u e ds g.ascending h).0;
    synchronised = λ u e h. g.synchronised u e (find_kept ltb universe_of ℕOrder t u e ds g.ascending h).0;
  }

  joined_kind : (e p : Dmx) (ds : List Dmx) → GoodWaiting ds → FitsMove (wait p) → waiting_for (universe_of p) ds ≡ some e → Kind (universe_of p) (joined e p)
  joined_kind e p ds g f h = joined_like _ _ _ e p (g.kinds (universe_of p) e h) f.0

  pub good_move : (m : Move) (ds : List Dmx) → GoodWaiting ds → FitsMove m → GoodWaiting (move m ds)
  unfolding move left
  good_move rest ds g f = g
  good_move (wait p) ds g f =
      found (waiting_for (universe_of p) ds)
      (λ h. rw (hold_none p ds h) (good_store (universe_of p) p ds g f.0 f.1))
      (λ e h. rw (hold_some e p ds h) (good_store (universe_of p) (joined e p) ds g (joined_kind e p ds g f h) f.1))
  good_move (clear u) ds g f = rw (remove_keep ltb universe_of ℕOrder u ds g.ascending) (good_keep (other_than ltb universe_of u) ds g)
  good_move (release a) ds g f = good_keep _ ds g

  -- storing by highest value is holding, unless 64 others wait; 8 is never given
  pub stored_hold : (p : Dmx) (ds : List Dmx) → GoodWaiting ds → FitsMove (wait p)
      → (stored HtpDmxMerge p ds).1 ≢ WaitingFull → stored HtpDmxMerge p ds ≡ (hold p ds, Stored)
  unfolding merged
  stored_hold p ds g f n =
      found (waiting_for (universe_of p) ds)
      (λ h. split (leb capacity (length ds))
      (λ l. absurd (n (ap (λ (x : List Dmx × StoreAnswer). x.1) (stored_full HtpDmxMerge p ds h l))))
      (λ l. stored_new HtpDmxMerge p ds h l ∙ ap (λ (x : List Dmx). (x, Stored)) (sym (hold_none p ds h))))
      (λ e h.
      stored_merged HtpDmxMerge p ds e (joined e p) h (htp_merge_like _ _ _ e p (g.kinds (universe_of p) e h) f.0)
      ∙ ap (λ (x : List Dmx). (x, Stored)) (sym (hold_some e p ds h)))

  -- what holding p stores
  put : Dmx → List Dmx → Dmx
  put p ds = elim (waiting_for (universe_of p) ds) [ none ↦ p | some e ↦ joined e p ]

  hold_put : (p : Dmx) (ds : List Dmx) → hold p ds ≡ store ltb universe_of (put p ds) ds
  unfolding hold put
  hold_put p ds = found (waiting_for (universe_of p) ds) (λ h. cc) (λ e h. cc)

  put_cong : (p : Dmx) (ds es : List Dmx) → waiting_for (universe_of p) ds ≡ waiting_for (universe_of p) es → put p ds ≡ put p es
  unfolding put
  put_cong p ds es h = found (waiting_for (universe_of p) es) (λ g. cc) (λ e g. cc)

  put_kind : (p : Dmx) (ds : List Dmx) → GoodWaiting ds → FitsMove (wait p) → Kind (universe_of p) (put p ds)
  unfolding put
  put_kind p ds g f = found (waiting_for (universe_of p) ds) (λ h. rw (h, put) f.0) (λ e h. rw (h, put) (joined_kind e p ds g f h))

  -- two packets of different universes
  hold_apart : (p q : Dmx) (ds : List Dmx) → GoodWaiting ds → FitsMove (wait p) → FitsMove (wait q) → universe_of p ≢ universe_of q
      → hold p (hold q ds) ≡ hold q (hold p ds)
  hold_apart p q ds g f f' n =
      let a = hold_put q ds in
      let b = hold_put p ds in
      let u = (put_kind p ds g f).of_universe in
      let u' = (put_kind q ds g f').of_universe in
      let c : waiting_for (universe_of p) (hold q ds) ≡ waiting_for (universe_of p) ds = rw a (find_store_other ltb universe_of ℕOrder (universe_of p) (put q ds) ds (rw u' n)) in
      let d : waiting_for (universe_of q) (hold p ds) ≡ waiting_for (universe_of q) ds = rw b (find_store_other ltb universe_of ℕOrder (universe_of q) (put p ds) ds (rw u (λ e. n (sym e)))) in
      let x = put_cong p (hold q ds) ds c in
      let y = put_cong q (hold p ds) ds d in
      cc (hold_put p (hold q ds), hold_put q (hold p ds), store_store ltb universe_of ℕOrder (put p ds) (put q ds) ds g.ascending (λ e. n (sym u ∙ e ∙ u')))

  -- two packets of one universe
  hold_same : (p q : Dmx) (ds : List Dmx) → GoodWaiting ds → FitsMove (wait p) → FitsMove (wait q) → universe_of p ≡ universe_of q
      → p.head.recv_timestamp ≡ q.head.recv_timestamp → hold p (hold q ds) ≡ hold q (hold p ds)
  hold_same p q ds g f f' s r =
      let u = (put_kind p ds g f).of_universe in
      let u' = (put_kind q ds g f').of_universe in
      let a = hold_put q ds in
      let b = hold_put p ds in
      let c = find_store_same ltb universe_of ℕOrder (put q ds) ds in
      let d = find_store_same ltb universe_of ℕOrder (put p ds) ds in
      let x = hold_some (put q ds) p (hold q ds) (cc) in
      let y = hold_some (put p ds) q (hold p ds) (cc) in
      let k : Kind (universe_of p) q = rw s f'.0 in
      let m = like_paired _ _ _ p q f.0 k r in
      let z : joined (put q ds) p ≡ joined (put p ds) q = found (waiting_for (universe_of p) ds)
      (λ h. let h1 : put p ds ≡ p = unfold put in cc in let h2 : put q ds ≡ q = unfold put in cc in cc (joined_comm p q m))
      (λ e h. let h1 : put p ds ≡ joined e p = unfold put in cc in let h2 : put q ds ≡ joined e q = unfold put in cc in cc (joined_swap e p q m)) in
      let v = store_again ltb universe_of ℕOrder (joined (put q ds) p) (put q ds) ds g.ascending (joined_universe (put q ds) p (cc)) in
      let w = store_again ltb universe_of ℕOrder (joined (put p ds) q) (put p ds) ds g.ascending (joined_universe (put p ds) q (cc)) in
      cc

  pub hold_hold : (p q : Dmx) (ds : List Dmx) → GoodWaiting ds → FitsMove (wait p) → FitsMove (wait q)
      → p.head.recv_timestamp ≡ q.head.recv_timestamp → hold p (hold q ds) ≡ hold q (hold p ds)
  hold_hold p q ds g f f' r = keyed ltb ℕOrder (universe_of p) (universe_of q) (λ s. hold_same p q ds g f f' s r) (λ n. hold_apart p q ds g f f' n)

  -- a test that all data of p's kind passes
  pub hold_keep : (t : Dmx → Bool) (p : Dmx) (ds : List Dmx) → GoodWaiting ds → FitsMove (wait p)
      → ((x : Dmx) → Kind (universe_of p) x → t x ≡ true) → keep t (hold p ds) ≡ hold p (keep t ds)
  hold_keep t p ds g f h =
      let k = put_kind p ds g f in
      let a = hold_put p ds in
      let b = hold_put p (keep t ds) in
      let c = find_keep ltb universe_of ℕOrder t (universe_of p) ds g.ascending in
      let d : waiting_for (universe_of p) (keep t ds) ≡ waiting_for (universe_of p) ds = found (waiting_for (universe_of p) ds)
      (λ n. cc) (λ e n. let q = h e (g.kinds (universe_of p) e n) in cc) in
      let x = put_cong p (keep t ds) ds d in
      cc (keep_store ltb universe_of ℕOrder t (put p ds) ds g.ascending (h (put p ds) k))

  away : (p x : Dmx) (a : ℕ) → FitsMove (wait p) → address_of p ≢ a → Kind (universe_of p) x → of_address a x ≡ false
  away p x a f n k = ne_eqb (address_of x) a (λ e. n (cc (k.of_address, f.0.of_address)))

  beside : (p x : Dmx) (u : ℕ) → FitsMove (wait p) → address_at u ≡ 0 → Kind (universe_of p) x → other_than ltb universe_of u x ≡ true
  beside p x u f z k = tri ltb ℕOrder (universe_of x) u (λ p q. cc) (λ e. absurd (f.1 (cc k.of_universe))) (λ p q. cc)

  hold_clear : (p : Dmx) (u : ℕ) (ds : List Dmx) → GoodWaiting ds → FitsMove (wait p) → FitsMove (clear u)
      → remove ltb universe_of u (hold p ds) ≡ hold p (remove ltb universe_of u ds)
  hold_clear p u ds g f f' =
      let h : GoodWaiting (hold p ds) = unfold move in good_move (wait p) ds g f in
      rw (remove_keep ltb universe_of ℕOrder u ds g.ascending, remove_keep ltb universe_of ℕOrder u (hold p ds) h.ascending)
      (hold_keep _ p ds g f (λ x k. beside p x u f f' k))

  keep_clear : (t : Dmx → Bool) (u : ℕ) (ds : List Dmx) → GoodWaiting ds → keep t (remove ltb universe_of u ds) ≡ remove ltb universe_of u (keep t ds)
  keep_clear t u ds g =
      rw (remove_keep ltb universe_of ℕOrder u ds g.ascending, remove_keep ltb universe_of ℕOrder u (keep t ds) (ascending_keep ltb universe_of ℕOrder t ds g.ascending))
      (keep_keep t (other_than ltb universe_of u) ds)

  clear_clear : (u v : ℕ) (ds : List Dmx) → GoodWaiting ds → remove ltb universe_of u (remove ltb universe_of v ds) ≡ remove ltb universe_of v (remove ltb universe_of u ds)
  clear_clear u v ds g = rw (remove_keep ltb universe_of ℕOrder u ds g.ascending, remove_keep ltb universe_of ℕOrder u (remove ltb universe_of v ds) (ascending_remove ltb universe_of ℕOrder v ds g.ascending)) (keep_clear (other_than ltb universe_of u) v ds g)

  pub move_move : (m n : Move) (ds : List Dmx) → GoodWaiting ds → FitsMove m → FitsMove n → Apart m n → move m (move n ds) ≡ move n (move m ds)
  unfolding move left
  move_move rest n ds g f f' i = refl
  move_move (wait p) rest ds g f f' i = refl
  move_move (wait p) (wait q) ds g f f' i = hold_hold p q ds g f f' i
  move_move (wait p) (clear u) ds g f f' i = sym (hold_clear p u ds g f f')
  move_move (wait p) (release a) ds g f f' i = sym (hold_keep _ p ds g f (λ x k. rw (away p x a f i k)))
  move_move (clear u) rest ds g f f' i = refl
  move_move (clear u) (wait p) ds g f f' i = hold_clear p u ds g f' f
  move_move (clear u) (clear v) ds g f f' i = clear_clear u v ds g
  move_move (clear u) (release a) ds g f f' i = sym (keep_clear _ u ds g)
  move_move (release a) rest ds g f f' i = refl
  move_move (release a) (wait p) ds g f f' i = hold_keep _ p ds g f' (λ x k. rw (away p x a f' i k))
  move_move (release a) (clear u) ds g f f' i = keep_clear _ u ds g
  move_move (release a) (release b) ds g f f' i = keep_keep _ _ ds

  -- what address a releases, whatever else moved before
  pub released_move : (now a : ℕ) (m : Move) (ds : List Dmx) → GoodWaiting ds → FitsMove m → Apart (release a) m → released now a (move m ds) ≡ released now a ds
  unfolding move released left
  released_move now a rest ds g f i = refl
  released_move now a (wait p) ds g f i =
      ap (keep (fresh now)) (rw (hold_put p ds) (keep_store_skip ltb universe_of ℕOrder (of_address a) (put p ds) ds g.ascending
      (away p (put p ds) a f i (put_kind p ds g f))
      (let u = (put_kind p ds g f).of_universe in found (waiting_for (universe_of p) ds)
      (λ n. cc) (λ e n. let q = away p e a f i (g.kinds (universe_of p) e n) in cc))))
  released_move now a (clear u) ds g f i =
      ap (λ (v : List Dmx). keep (fresh now) (keep (of_address a) v))
      (remove_absent ltb universe_of ℕOrder u ds (found (waiting_for u ds) (λ n. n) (λ e n. absurd (g.synchronised u e n f))))
  released_move now a (release b) ds g f i =
      ap (keep (fresh now)) (keep_implied _ _ ds (λ e p. let q = ne_eqb (address_of e) b (λ r. i (sym (eqb-true (address_of e) a p) ∙ r)) in cc))

  -- a move that brings no expired data
  abbrev pub FreshMove : ℕ → Move → Type 0
  FreshMove now rest = Unit {0}
  FreshMove now (wait p) = fresh now p ≡ true
  FreshMove now (clear u) = Unit {0}
  FreshMove now (release a) = Unit {0}

  put_fresh : (now : ℕ) (p : Dmx) (ds : List Dmx) → GoodWaiting ds → fresh now p ≡ true → swept now ds ≡ ds → fresh now (put p ds) ≡ true
  unfolding put
  put_fresh now p ds g f s =
      found (waiting_for (universe_of p) ds)
      (λ n. rw (n, put) f)
      (λ e n. rw (n, put) (joined_passes (λ r. not (expired now r)) e p
      (find_kept ltb universe_of ℕOrder (fresh now) (universe_of p) e ds g.ascending (cc)).1 f))

  -- swept data stays swept
  pub swept_move : (now : ℕ) (m : Move) (ds : List Dmx) → GoodWaiting ds → FreshMove now m → swept now ds ≡ ds → swept now (move m ds) ≡ move m ds
  unfolding move left
  swept_move now rest ds g f s = s
  swept_move now (wait p) ds g f s =
      rw (hold_put p ds)
      (keep_store ltb universe_of ℕOrder (fresh now) (put p ds) ds g.ascending (put_fresh now p ds g f s) ∙ ap (store ltb universe_of (put p ds)) s)
  swept_move now (clear u) ds g f s = keep_clear (fresh now) u ds g ∙ ap (remove ltb universe_of u) s
  swept_move now (release a) ds g f s = keep_keep (fresh now) _ ds ∙ ap (keep _) s
