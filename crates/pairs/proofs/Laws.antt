-- Laws of pair tables, over the definitions alone: what each call keeps, what is found after it, and which calls may change places.
-- Assumes nothing.
use Rattle.std.specs.Prelude.{◌≡◌, refl, ◌≢◌, Bool, true, false, not, cond, ◌&&◌, List, [], ◌∷◌, ℕ, ◌≤◌, ◌-◌, leb, length, ℤ}
use Rattle.std.proofs.Common.{sym, ap, ◌∙◌, subst, arith, leb-false}
use Rattle.std.proofs.Math.Option.{Option, none, some}
use Rattle.std.proofs.lemmas.Bool.{lt-leb}
use Rattle.laws.specs.Cases.{split, clash, found, missing}
use Rattle.laws.specs.Order.{tri, keyed}
use Rattle.laws.specs.Table.{keep, any, find, store, remove, Ascending, Under, pass, other_than, ext, keep_idem, keep_all, length_keep, length_remove}
use Rattle.laws.specs.Table.{find_store_same, find_store_other, find_keep, find_remove_other, find_remove_same, remove_absent, remove_keep}
use Rattle.laws.specs.Table.{ascending_store, ascending_keep, ascending_remove, length_store_new, length_store_known, store_store, remove_store, remove_remove, keep_store, keep_remove}
use Rattle.rules.specs.declared.Cid.{Cid}
use Rattle.rules.specs.Cid.{same, before}
use Rattle.rules.proofs.CidLaws.{cid_order, same_refl, same_path, same_not}
use Rattle.rules.specs.Age.{expired}
use Rattle.rules.specs.declared.SequenceAnswer.{SequenceAnswer}
use Rattle.rules.specs.declared.SequenceAnswer.TheVariants as sequence
use Rattle.rules.specs.Sequence.{difference, judged}
use Rattle.rules.specs.Sequence as rule
use Rattle.settings.specs.declared.SourceLimit.{SourceLimit}
use Rattle.settings.specs.declared.SourceLimit.TheVariants.{Unlimited, AtMost}
use Rattle.settings.specs.Settings.{ProperLimit}
use Rattle.pairs.specs.declared.Pair.{Pair}
use Rattle.pairs.specs.declared.Checked.{Checked}
use Rattle.pairs.specs.declared.Checked.TheVariants.{Accepted, UniverseTimeout, SourcesExceeded, OutOfSequence, PairsFull, Repeated}
use Rattle.pairs.specs.Table.{last_noted, Key, key_of, key_before, itself, Table, capacity, empty, pair_at, has, listed, leave, without, live, swept, lowest, noted, told, sweep}
use Rattle.pairs.proofs.TableLaws.{key_order}
use Rattle.pairs.specs.Table.{recorded, reached, source_stop, unknown, full, told_as, stopping, sequence_stop, stop, settle, admit, after_sweep, check, number_of, values_of, accepted, Ordered}
use Rattle.pairs.specs.Laws.{GoodTable, cids, room, stale}

-- ── only one answer is accepted ──
pub accepted_is : (a : Checked) → accepted a ≡ true → a ≡ Accepted
accepted_is Accepted e = refl
accepted_is (UniverseTimeout c u) e = let z : ◌≡◌ {A = ℕ} 0 1 = cc in absurd (omega arith)
accepted_is (SourcesExceeded n) e = let z : ◌≡◌ {A = ℕ} 0 1 = cc in absurd (omega arith)
accepted_is (OutOfSequence a l d) e = let z : ◌≡◌ {A = ℕ} 0 1 = cc in absurd (omega arith)
accepted_is PairsFull e = let z : ◌≡◌ {A = ℕ} 0 1 = cc in absurd (omega arith)
accepted_is (Repeated a l d) e = let z : ◌≡◌ {A = ℕ} 0 1 = cc in absurd (omega arith)

-- ── the sequence rule ──
-- by its answers
judged_either {ℓ} : {C : Type ℓ} (a : SequenceAnswer) → (a ≡ sequence.Accepted → C) → (a ≡ sequence.Repeated → C) → (a ≡ sequence.Late → C) → C
judged_either sequence.Accepted f g h = f refl
judged_either sequence.Repeated f g h = g refl
judged_either sequence.Late f g h = h refl

-- what it answers has the rule's number and values
pub told_number : (arriving last : ℕ) (d : ℤ) (a : SequenceAnswer) → number_of (told_as arriving last d a) ≡ rule.number_of a
told_number arriving last d sequence.Accepted = refl
told_number arriving last d sequence.Repeated = refl
told_number arriving last d sequence.Late = refl

pub told_values : (arriving last : ℕ) (d : ℤ) (a : SequenceAnswer) → values_of (told_as arriving last d a) ≡ rule.values_of arriving last d a
told_values arriving last d sequence.Accepted = refl
told_values arriving last d sequence.Repeated = refl
told_values arriving last d sequence.Late = refl

-- it stops an arrival with 7 or 21, and with nothing else
pub refused_either {ℓ} : (P : Checked → Type ℓ) (n : ℕ) (o : Option Pair) (a : Checked) → sequence_stop n o ≡ some a
    → ((x y : ℕ) (z : ℤ) → P (OutOfSequence x y z)) → ((x y : ℕ) (z : ℤ) → P (Repeated x y z)) → P a
unfolding sequence_stop
refused_either P n none a e late repeat = missing a e refl
refused_either P n (some q) a e late repeat =
    let l = q.sequence in
    let d = difference n l in
    judged_either (judged d)
    (λ h. missing a e (ap (λ (x : SequenceAnswer). stopping (told_as n l d x)) h))
    (λ h. let g : Repeated n l d ≡ a = cc in subst P g (repeat n l d))
    (λ h. let g : OutOfSequence n l d ≡ a = cc in subst P g (late n l d))

-- ── keys that differ ──
pub key_apart : (j k : Key) → j.cid ≢ k.cid → j ≢ k
key_apart j k n e = n (ap (λ (k : Key). k.cid) e)

-- ── the CIDs that have a pair ──
pub has_store : (c : Cid) (p : Pair) (ps : List Pair) → has (store key_before key_of p ps) c ≡ cond (same p.cid c) true (has ps c)
unfolding store any
has_store c p [] = refl
has_store c p (x ∷ ps) =
    let r = has_store c p ps in
    tri key_before key_order (key_of p) (key_of x)
    (λ f g. cc)
    (λ f. let i = key_order.irrefl (key_of p) in let h : p.cid ≡ x.cid = ap (λ (k : Key). k.cid) f in split (same p.cid c) (λ g. cc) (λ g. cc))
    (λ f g. split (same p.cid c) (λ e. split (same x.cid c) (λ h. cc) (λ h. cc)) (λ e. split (same x.cid c) (λ h. cc) (λ h. cc)))

pub has_keep : (c : Cid) (t : Pair → Bool) (ps : List Pair) → has (keep t ps) c ≡ true → has ps c ≡ true
unfolding keep any
has_keep c t [] h = h
has_keep c t (x ∷ ps) h =
    split (same x.cid c) (λ g. cc) (λ g. let r : has ps c ≡ true = has_keep c t ps (split (t x) (λ f. cc) (λ f. cc)) in cc)

-- a pair that stands in the table
pub has_found : (k : Key) (p : Pair) (ps : List Pair) → pair_at k ps ≡ some p → has ps k.cid ≡ true
unfolding find any
has_found k p [] h = missing p h refl
has_found k p (x ∷ ps) h =
    tri key_before key_order (key_of x) k
    (λ f g. let r = has_found k p ps (cc) in split (same x.cid k.cid) (λ e. cc) (λ e. cc))
    (λ f. let s = same_refl k.cid in let e : x.cid ≡ k.cid = ap (λ (k : Key). k.cid) f in cc)
    (λ f g. missing p h (cc))

-- a removal leaves the other CIDs their pairs
pub has_remove : (c : Cid) (k : Key) (ps : List Pair) → c ≢ k.cid → has (remove key_before key_of k ps) c ≡ has ps c
unfolding remove any
has_remove c k [] n = refl
has_remove c k (x ∷ ps) n =
    let r = has_remove c k ps n in
    tri key_before key_order (key_of x) k
    (λ f g. split (same x.cid c) (λ e. cc) (λ e. cc))
    (λ f. let i = key_order.irrefl k in let e : x.cid ≡ k.cid = ap (λ (k : Key). k.cid) f in let s = same_not x.cid c (λ g. n (sym g ∙ e)) in cc)
    (λ f g. cc)

pub ascending_cids : (ps : List Pair) → Ascending before itself (cids ps)
unfolding cids
ascending_cids [] = tt
ascending_cids (p ∷ ps) = ascending_store before itself cid_order p.cid (cids ps) (ascending_cids ps)

pub find_cids : (c : Cid) (ps : List Pair) → find before itself c (cids ps) ≡ cond (has ps c) (some c) none
unfolding cids find any
find_cids c [] = refl
find_cids c (p ∷ ps) =
    let r = find_cids c ps in
    keyed before cid_order c p.cid
    (λ f. cc (find_store_same before itself cid_order p.cid (cids ps), same_refl c))
    (λ n. cc (find_store_other before itself cid_order c p.cid (cids ps) n, same_not p.cid c (λ h. n (sym h))))

pub length_cids : (ps : List Pair) → length (cids ps) ≤ length ps
unfolding cids
length_cids [] = omega arith
length_cids (p ∷ ps) =
    let r = length_cids ps in
    found (find before itself p.cid (cids ps))
    (λ n. omega (arith, length_store_new before itself cid_order p.cid (cids ps) n))
    (λ c n. omega (arith, length_store_known before itself cid_order p.cid c (cids ps) n))

cids_store : (p : Pair) (ps : List Pair) → store before itself p.cid (cids ps) ≡ cids (store key_before key_of p ps)
cids_store p ps =
    ext before itself cid_order _ _ (ascending_store before itself cid_order p.cid (cids ps) (ascending_cids ps)) (ascending_cids _)
    (λ c. rw (find_cids c (store key_before key_of p ps), has_store c p ps) (keyed before cid_order c p.cid
    (λ f. cc (find_store_same before itself cid_order p.cid (cids ps), same_refl c))
    (λ n. cc (find_store_other before itself cid_order c p.cid (cids ps) n, same_not p.cid c (λ h. n (sym h)), find_cids c ps))))

cids_keep : (t : Pair → Bool) (ps : List Pair) → keep (has (keep t ps)) (cids ps) ≡ cids (keep t ps)
cids_keep t ps =
    ext before itself cid_order _ _ (ascending_keep before itself cid_order (has (keep t ps)) (cids ps) (ascending_cids ps)) (ascending_cids _)
    (λ c. rw (find_keep before itself cid_order (has (keep t ps)) c (cids ps) (ascending_cids ps), find_cids c ps, find_cids c (keep t ps))
    (split (has ps c)
    (λ h. rw h)
    (λ h. rw h (split (has (keep t ps) c) (λ g. clash (has_keep c t ps g) h) (λ g. rw g)))))

-- where a pair goes, its CID goes if that was its last
cids_leave : (k : Key) (ps : List Pair) → Ascending key_before key_of ps → leave k.cid (remove key_before key_of k ps) (cids ps) ≡ cids (remove key_before key_of k ps)
cids_leave k ps a =
    let rest : List Pair = remove key_before key_of k ps in
    split (has rest k.cid)
    (λ h. rw h (ext before itself cid_order _ _ (ascending_cids ps) (ascending_cids rest)
    (λ c. rw (find_cids c ps, find_cids c rest) (keyed before cid_order c k.cid
    (λ f.
    let g : has (keep (other_than key_before key_of k) ps) c ≡ true = rw (← (remove_keep key_before key_of key_order k ps a), f) h in
    let w = has_keep c (other_than key_before key_of k) ps g in
    let z : has rest c ≡ true = rw f h in
    rw (w, z))
    (λ n. rw (has_remove c k ps n))))))
    (λ h. rw h (ext before itself cid_order _ _ (ascending_remove before itself cid_order k.cid (cids ps) (ascending_cids ps)) (ascending_cids rest)
    (λ c. rw (find_cids c rest) (keyed before cid_order c k.cid
    (λ f. rw (f, h, find_remove_same before itself cid_order k.cid (cids ps) (ascending_cids ps)))
    (λ n. rw (find_remove_other before itself cid_order c k.cid (cids ps) (ascending_cids ps) n, find_cids c ps, has_remove c k ps n))))))

pub good_ordered : (t : Table) → GoodTable t → length t.pairs ≤ capacity → Ordered t
good_ordered t g h = record {
  pairs_ascend = g.ascending;
  sources_ascend = rw g.counted (ascending_cids t.pairs);
  pairs_fit = h;
  sources_fit = rw g.counted (omega (arith, length_cids t.pairs));
}

-- two such tables with the same pairs are one
pub table_path : (t u : Table) → GoodTable t → GoodTable u → t.pairs ≡ u.pairs → t ≡ u
table_path t u g h e = let s : t.sources ≡ u.sources = cc in λ i. record { pairs = e i; sources = s i }

-- a CID is listed where it has a pair
pub listed_good : (c : Cid) (t : Table) → GoodTable t → listed c t.sources ≡ has t.pairs c
unfolding listed
listed_good c t g = let e = g.counted in let f = find_cids c t.pairs in split (has t.pairs c) (λ h. cc) (λ h. cc)

pub good_empty : GoodTable empty
unfolding cids
good_empty = record { ascending = tt; counted = refl }

-- ── removal ──
pub without_pairs : (k : Key) (t : Table) → (without k t).pairs ≡ remove key_before key_of k t.pairs
unfolding without
without_pairs k t =
    found (pair_at k t.pairs)
    (λ h. let e = remove_absent key_before key_of key_order k t.pairs h in cc)
    (λ p h. cc)

-- an unknown pair: nothing changes
pub without_unknown : (k : Key) (t : Table) → pair_at k t.pairs ≡ none → without k t ≡ t
unfolding without
without_unknown k t h = cc

pub without_known : (k : Key) (p : Pair) (t : Table) → pair_at k t.pairs ≡ some p
    → without k t ≡ record { pairs = remove key_before key_of k t.pairs; sources = leave k.cid (remove key_before key_of k t.pairs) t.sources }
unfolding without
without_known k p t h = cc

pub pair_at_without_same : (k : Key) (t : Table) → Ordered t → pair_at k (without k t).pairs ≡ none
pair_at_without_same k t o = rw (without_pairs k t) (find_remove_same key_before key_of key_order k t.pairs o.pairs_ascend)

pub pair_at_without_other : (j k : Key) (t : Table) → Ordered t → j ≢ k → pair_at j (without k t).pairs ≡ pair_at j t.pairs
pair_at_without_other j k t o n = rw (without_pairs k t) (find_remove_other key_before key_of key_order j k t.pairs o.pairs_ascend n)

pub ordered_without : (k : Key) (t : Table) → Ordered t → Ordered (without k t)
ordered_without k t o =
    found (pair_at k t.pairs)
    (λ h. rw (without_unknown k t h) o)
    (λ p h. rw (without_known k p t h) (record {
      pairs_ascend = ascending_remove key_before key_of key_order k t.pairs o.pairs_ascend;
      sources_ascend = split (has (remove key_before key_of k t.pairs) k.cid)
          (λ e. rw e o.sources_ascend)
          (λ e. rw e (ascending_remove before itself cid_order k.cid t.sources o.sources_ascend));
      pairs_fit = omega (arith, length_remove key_before key_of key_order k t.pairs, o.pairs_fit);
      sources_fit = split (has (remove key_before key_of k t.pairs) k.cid)
          (λ e. rw e o.sources_fit)
          (λ e. rw e (omega (arith, length_remove before itself cid_order k.cid t.sources, o.sources_fit)));
    }))

pub good_without : (k : Key) (t : Table) → GoodTable t → GoodTable (without k t)
good_without k t g =
    found (pair_at k t.pairs)
    (λ h. rw (without_unknown k t h) g)
    (λ p h. rw (without_known k p t h) (record {
      ascending = ascending_remove key_before key_of key_order k t.pairs g.ascending;
      counted = rw g.counted (cids_leave k t.pairs g.ascending);
    }))

-- ── storing ──
pub pair_at_recorded_same : (p : Pair) (t : Table) → pair_at (key_of p) (recorded p t).pairs ≡ some p
unfolding recorded
pair_at_recorded_same p t = find_store_same key_before key_of key_order p t.pairs

pub pair_at_recorded_other : (j : Key) (p : Pair) (t : Table) → j ≢ key_of p → pair_at j (recorded p t).pairs ≡ pair_at j t.pairs
unfolding recorded
pair_at_recorded_other j p t n = find_store_other key_before key_of key_order j p t.pairs n

store_fits : (p : Pair) (ps : List Pair) → length ps ≤ capacity → room p ps ≡ true → length (store key_before key_of p ps) ≤ capacity
unfolding room
store_fits p ps f r =
    found (pair_at (key_of p) ps)
    (λ n.
    let q : leb capacity (length ps) ≡ false = split (leb capacity (length ps)) (λ h. clash r (rw (n, h))) (λ h. h) in
    omega (arith, length_store_new key_before key_of key_order p ps n, leb-false capacity (length ps) q))
    (λ x n. omega (arith, length_store_known key_before key_of key_order p x ps n))

source_fits : (c : Cid) (cs : List Cid) → length cs ≤ capacity → not (listed c cs) && leb capacity (length cs) ≡ false → length (store before itself c cs) ≤ capacity
unfolding listed
source_fits c cs f r =
    found (find before itself c cs)
    (λ n.
    let q : leb capacity (length cs) ≡ false = cc in
    omega (arith, length_store_new before itself cid_order c cs n, leb-false capacity (length cs) q))
    (λ x n. omega (arith, length_store_known before itself cid_order c x cs n))

-- what the test for 10 says
pub full_parts : (p : Pair) (t : Table) → full p t ≡ false → (room p t.pairs ≡ true) × (not (listed p.cid t.sources) && leb capacity (length t.sources) ≡ false)
unfolding full room
full_parts p t f =
    split (unknown (pair_at (key_of p) t.pairs) && leb capacity (length t.pairs))
    (λ h. clash (rw h) f)
    (λ h. (rw h, rw h at f))

pub ordered_recorded : (p : Pair) (t : Table) → Ordered t → full p t ≡ false → Ordered (recorded p t)
unfolding recorded
ordered_recorded p t o f = record {
  pairs_ascend = ascending_store key_before key_of key_order p t.pairs o.pairs_ascend;
  sources_ascend = ascending_store before itself cid_order p.cid t.sources o.sources_ascend;
  pairs_fit = store_fits p t.pairs o.pairs_fit (full_parts p t f).0;
  sources_fit = source_fits p.cid t.sources o.sources_fit (full_parts p t f).1;
}

pub good_recorded : (p : Pair) (t : Table) → GoodTable t → GoodTable (recorded p t)
unfolding recorded
good_recorded p t g = record {
  ascending = ascending_store key_before key_of key_order p t.pairs g.ascending;
  counted = rw g.counted (cids_store p t.pairs);
}

-- ── calls for two CIDs, in either order ──
pub recorded_recorded : (p q : Pair) (t : Table) → GoodTable t → p.cid ≢ q.cid → recorded p (recorded q t) ≡ recorded q (recorded p t)
recorded_recorded p q t g n =
    table_path _ _ (good_recorded p _ (good_recorded q t g)) (good_recorded q _ (good_recorded p t g))
    (unfold recorded in (store_store key_before key_of key_order p q t.pairs g.ascending (key_apart (key_of p) (key_of q) n)))

pub without_recorded : (k : Key) (p : Pair) (t : Table) → GoodTable t → p.cid ≢ k.cid → without k (recorded p t) ≡ recorded p (without k t)
without_recorded k p t g n =
    table_path _ _ (good_without k _ (good_recorded p t g)) (good_recorded p _ (good_without k t g))
    (without_pairs k (recorded p t) ∙ (unfold recorded in (rw (without_pairs k t) (remove_store key_before key_of key_order k p t.pairs g.ascending (key_apart (key_of p) k n)))))

pub recorded_without : (p : Pair) (k : Key) (t : Table) → GoodTable t → p.cid ≢ k.cid → recorded p (without k t) ≡ without k (recorded p t)
recorded_without p k t g n = sym (without_recorded k p t g n)

pub without_without : (j k : Key) (t : Table) → GoodTable t → without j (without k t) ≡ without k (without j t)
without_without j k t g =
    table_path _ _ (good_without j _ (good_without k t g)) (good_without k _ (good_without j t g))
    (without_pairs j (without k t) ∙ (rw (without_pairs k (without j t), without_pairs k t, without_pairs j t) (remove_remove key_before key_of key_order j k t.pairs g.ascending)))

-- ── the sweep ──
pub pair_at_swept : (k : Key) (now : ℕ) (t : Table) → Ordered t → pair_at k (swept now t).pairs ≡ pass (live now) (pair_at k t.pairs)
unfolding swept
pair_at_swept k now t o = find_keep key_before key_of key_order (live now) k t.pairs o.pairs_ascend

pub ordered_swept : (now : ℕ) (t : Table) → Ordered t → Ordered (swept now t)
unfolding swept
ordered_swept now t o = record {
  pairs_ascend = ascending_keep key_before key_of key_order (live now) t.pairs o.pairs_ascend;
  sources_ascend = ascending_keep before itself cid_order (has (keep (live now) t.pairs)) t.sources o.sources_ascend;
  pairs_fit = omega (arith, length_keep (live now) t.pairs, o.pairs_fit);
  sources_fit = omega (arith, length_keep (has (keep (live now) t.pairs)) t.sources, o.sources_fit);
}

pub good_swept : (now : ℕ) (t : Table) → GoodTable t → GoodTable (swept now t)
unfolding swept
good_swept now t g = record {
  ascending = ascending_keep key_before key_of key_order (live now) t.pairs g.ascending;
  counted = rw g.counted (cids_keep (live now) t.pairs);
}

pub good_told : (t : Table) (o : Option Pair) → GoodTable t → GoodTable (told t o).0
unfolding told
good_told t none g = g
good_told t (some p) g = good_without (key_of p) t g

pub ordered_told : (t : Table) (o : Option Pair) → Ordered t → Ordered (told t o).0
unfolding told
ordered_told t none o = o
ordered_told t (some p) o = ordered_without (key_of p) t o

pub ordered_sweep : (announce : Bool) (now : ℕ) (t : Table) → Ordered t → Ordered (sweep announce now t).0
unfolding sweep
ordered_sweep true now t o = ordered_told t (noted now t.pairs t.sources) o
ordered_sweep false now t o = ordered_swept now t o

pub good_sweep : (announce : Bool) (now : ℕ) (t : Table) → GoodTable t → GoodTable (sweep announce now t).0
unfolding sweep
good_sweep true now t g = good_told t (noted now t.pairs t.sources) g
good_sweep false now t g = good_swept now t g

-- a sweep right after a sweep, at the same reading
pub swept_swept : (now : ℕ) (t : Table) → swept now (swept now t) ≡ swept now t
unfolding swept
swept_swept now t = let e = keep_idem (live now) t.pairs in rw e (λ i. record { pairs = keep (live now) t.pairs; sources = keep_idem (has (keep (live now) t.pairs)) t.sources i })

lowest_none : (now : ℕ) (c : Cid) (ps : List Pair) → stale now ps ≡ false → lowest now ps c ≡ none
unfolding lowest any
lowest_none now c [] h = refl
lowest_none now c (p ∷ ps) h =
    split (expired now p.reading)
    (λ e. clash (rw e) h)
    (λ e. let r = lowest_none now c ps (cc) in split (same p.cid c) (λ f. cc) (λ f. cc))

-- where none is, no source notes one
pub noted_none : (now : ℕ) (ps : List Pair) (cs : List Cid) → stale now ps ≡ false → noted now ps cs ≡ none
unfolding noted
noted_none now ps [] h = refl
noted_none now ps (c ∷ cs) h = let e = lowest_none now c ps h in cc

kept_fresh : (now : ℕ) (ps : List Pair) → stale now (keep (live now) ps) ≡ false
unfolding keep any
kept_fresh now [] = refl
kept_fresh now (p ∷ ps) = let r = kept_fresh now ps in split (expired now p.reading) (λ e. cc) (λ e. cc)

-- after a sweep no pair is expired
pub stale_swept : (now : ℕ) (t : Table) → stale now (swept now t).pairs ≡ false
unfolding swept
stale_swept now t = kept_fresh now t.pairs

-- an announced sweep that gave nothing changed nothing
pub announced_quiet : (now : ℕ) (t : Table) → (sweep true now t).1 ≡ none → sweep true now t ≡ (t, none)
unfolding sweep told
announced_quiet now t h =
    found (noted now t.pairs t.sources)
    (λ n. rw (n, told))
    (λ p n. missing (key_of p) (ap (λ (o : Option Pair). (told t o).1) n) h)

pub sweep_again : (announce : Bool) (now : ℕ) (t : Table) → (sweep announce now t).1 ≡ none
    → sweep announce now (sweep announce now t).0 ≡ ((sweep announce now t).0, none)
sweep_again true now t h = let e = announced_quiet now t h in rw e e
sweep_again false now t h = unfold sweep in (ap (λ (u : Table). (u, none)) (swept_swept now t))

-- without announcement nothing is given
pub swept_quiet : (now : ℕ) (t : Table) → sweep false now t ≡ (swept now t, none)
unfolding sweep
swept_quiet now t = refl

-- a table without an expired pair, whose sources all have one, is left as it is
pub swept_fresh : (now : ℕ) (t : Table) → GoodTable t → stale now t.pairs ≡ false → swept now t ≡ t
swept_fresh now t g h =
    table_path _ _ (good_swept now t g) g (unfold swept in (keep_all (live now) (λ p. expired now p.reading) t.pairs (λ p e. rw e) h))

pub sweep_fresh : (announce : Bool) (now : ℕ) (t : Table) → GoodTable t → stale now t.pairs ≡ false → sweep announce now t ≡ (t, none)
unfolding sweep told
sweep_fresh true now t g h = ap (told t) (noted_none now t.pairs t.sources h)
sweep_fresh false now t g h = ap (λ (u : Table). (u, none)) (swept_fresh now t g h)

-- a pair that is stored is not expired at its own reading
pub live_stored : (p : Pair) → live p.reading p ≡ true
live_stored p = rw (lt-leb 2500 (p.reading - p.reading) (omega arith))

-- a sweep and a change
pub swept_recorded : (now : ℕ) (p : Pair) (t : Table) → GoodTable t → live now p ≡ true → swept now (recorded p t) ≡ recorded p (swept now t)
swept_recorded now p t g h =
    table_path _ _ (good_swept now _ (good_recorded p t g)) (good_recorded p _ (good_swept now t g))
    (unfold swept recorded in (keep_store key_before key_of key_order (live now) p t.pairs g.ascending h))

pub swept_without : (now : ℕ) (k : Key) (t : Table) → GoodTable t → swept now (without k t) ≡ without k (swept now t)
swept_without now k t g =
    table_path _ _ (good_swept now _ (good_without k t g)) (good_without k _ (good_swept now t g))
    (unfold swept in (rw (without_pairs k t, without_pairs k (swept now t)) (keep_remove key_before key_of key_order (live now) k t.pairs g.ascending)))

-- a table that a sweep leaves as it is stays so
pub swept_recorded_again : (now : ℕ) (p : Pair) (t : Table) → GoodTable t → live now p ≡ true → swept now t ≡ t → swept now (recorded p t) ≡ recorded p t
swept_recorded_again now p t g h e = swept_recorded now p t g h ∙ ap (recorded p) e

pub swept_without_again : (now : ℕ) (k : Key) (t : Table) → GoodTable t → swept now t ≡ t → swept now (without k t) ≡ without k t
swept_without_again now k t g e = swept_without now k t g ∙ ap (without k) e

-- ── an arrival ──
-- nothing stops it
pub stop_none : (limit : SourceLimit) (p : Pair) (t : Table) → stop limit p t ≡ none
    → (source_stop limit p.cid t ≡ none) × (full p t ≡ false) × (sequence_stop p.sequence (pair_at (key_of p) t.pairs) ≡ none)
unfolding stop
stop_none limit p t h =
    found (source_stop limit p.cid t)
    (λ e. split (full p t) (λ f. missing PairsFull (cc) h) (λ f. (e, f, (cc))))
    (λ a e. missing a (cc) h)

pub admit_stored : (limit : SourceLimit) (p : Pair) (t : Table) → stop limit p t ≡ none → admit limit p t ≡ (recorded p t, Accepted)
unfolding admit settle
admit_stored limit p t h = ap (settle p t) h

pub admit_stopped : (limit : SourceLimit) (p : Pair) (t : Table) (a : Checked) → stop limit p t ≡ some a → admit limit p t ≡ (t, a)
unfolding admit settle
admit_stopped limit p t a h = ap (settle p t) h

pub ordered_admit : (limit : SourceLimit) (p : Pair) (t : Table) → Ordered t → Ordered (admit limit p t).0
ordered_admit limit p t o =
    found (stop limit p t)
    (λ h. rw (admit_stored limit p t h) (ordered_recorded p t o (stop_none limit p t h).1))
    (λ a h. rw (admit_stopped limit p t a h) o)

pub good_admit : (limit : SourceLimit) (p : Pair) (t : Table) → GoodTable t → GoodTable (admit limit p t).0
good_admit limit p t g =
    found (stop limit p t)
    (λ h. rw (admit_stored limit p t h) (good_recorded p t g))
    (λ a h. rw (admit_stopped limit p t a h) g)

-- the sweep gave nothing, or number 4
pub check_quiet : (limit : SourceLimit) (announce : Bool) (p : Pair) (t u : Table) → sweep announce p.reading t ≡ (u, none)
    → check limit announce p t ≡ admit limit p u
unfolding check after_sweep
check_quiet limit announce p t u h = ap (after_sweep limit p) h

pub check_told : (limit : SourceLimit) (announce : Bool) (p : Pair) (t u : Table) (k : Key) → sweep announce p.reading t ≡ (u, some k)
    → check limit announce p t ≡ (u, UniverseTimeout k.cid k.universe)
unfolding check after_sweep
check_told limit announce p t u k h = ap (after_sweep limit p) h

-- right after a sweep at its reading an arrival's own sweep does nothing
pub check_polled : (limit : SourceLimit) (announce : Bool) (p : Pair) (t : Table) → (sweep announce p.reading t).1 ≡ none
    → check limit announce p (sweep announce p.reading t).0 ≡ admit limit p (sweep announce p.reading t).0
check_polled limit announce p t h = check_quiet limit announce p _ _ (sweep_again announce p.reading t h)

-- an empty table takes every arrival, whatever its sequence number: a limit is "either none or 1 to 65,535"
none_reaches : (limit : SourceLimit) → ProperLimit limit → reached limit 0 ≡ false
none_reaches Unlimited h = refl
none_reaches (AtMost n) h = lt-leb n 0 h.0

stop_empty : (limit : SourceLimit) (p : Pair) → ProperLimit limit → stop limit p empty ≡ none
unfolding stop source_stop listed full find sequence_stop
stop_empty limit p h = rw (none_reaches limit h)

pub check_empty : (limit : SourceLimit) (announce : Bool) (p : Pair) → ProperLimit limit → check limit announce p empty ≡ (recorded p empty, Accepted)
unfolding any
check_empty limit announce p h = check_quiet limit announce p empty empty (sweep_fresh announce p.reading empty good_empty refl) ∙ admit_stored limit p empty (stop_empty limit p h)

pub ordered_check : (limit : SourceLimit) (announce : Bool) (p : Pair) (t : Table) → Ordered t → Ordered (check limit announce p t).0
ordered_check limit announce p t o =
    let s = ordered_sweep announce p.reading t o in
    found (sweep announce p.reading t).1
    (λ h. rw (check_quiet limit announce p t (sweep announce p.reading t).0 (λ i. ((sweep announce p.reading t).0, h i))) (ordered_admit limit p _ s))
    (λ k h. rw (check_told limit announce p t (sweep announce p.reading t).0 k (λ i. ((sweep announce p.reading t).0, h i))) s)

pub good_check : (limit : SourceLimit) (announce : Bool) (p : Pair) (t : Table) → GoodTable t → GoodTable (check limit announce p t).0
good_check limit announce p t g =
    let s = good_sweep announce p.reading t g in
    found (sweep announce p.reading t).1
    (λ h. rw (check_quiet limit announce p t (sweep announce p.reading t).0 (λ i. ((sweep announce p.reading t).0, h i))) (good_admit limit p _ s))
    (λ k h. rw (check_told limit announce p t (sweep announce p.reading t).0 k (λ i. ((sweep announce p.reading t).0, h i))) s)

-- a CID is listed exactly if it has a pair, so 2. asks whether it has one and, if not, the limit; 3. is a matter of the pairs alone
pub source_stop_good : (limit : SourceLimit) (c : Cid) (t : Table) → GoodTable t
    → source_stop limit c t ≡ cond (has t.pairs c) none (cond (reached limit (length t.sources)) (some (SourcesExceeded (length t.sources))) none)
unfolding source_stop
source_stop_good limit c t g = rw (listed_good c t g) (split (has t.pairs c) (λ h. rw h) (λ h. rw h))

pub full_good : (p : Pair) (t : Table) → GoodTable t → full p t ≡ unknown (pair_at (key_of p) t.pairs) && leb capacity (length t.pairs)
unfolding full
full_good p t g =
    let l = listed_good p.cid t g in
    let m : length t.sources ≤ length t.pairs = rw g.counted (length_cids t.pairs) in
    found (pair_at (key_of p) t.pairs)
    (λ n. split (leb capacity (length t.pairs))
    (λ h. cc)
    (λ h. let q = lt-leb capacity (length t.sources) (omega (arith, leb-false capacity (length t.pairs) h)) in split (listed p.cid t.sources) (λ e. cc) (λ e. cc)))
    (λ x n. let f = has_found (key_of p) x t.pairs n in cc)

-- a pair that stands in a list above a key is above it
under_found : (j k : Key) (p : Pair) (ps : List Pair) → Under key_before key_of j ps → pair_at k ps ≡ some p → key_before j k ≡ true
unfolding find
under_found j k p [] u h = missing p h refl
under_found j k p (x ∷ ps) u h =
    tri key_before key_order (key_of x) k
    (λ f g. key_order.trans j (key_of x) k u.0 f)
    (λ f. rw (← f) u.0)
    (λ f g. missing p h (cc))

-- ── what number 4 names: a pair that stood in the table and was expired ──
lowest_stands : (now : ℕ) (c : Cid) (ps : List Pair) (p : Pair) → Ascending key_before key_of ps → lowest now ps c ≡ some p
    → (pair_at (key_of p) ps ≡ some p) × (expired now p.reading ≡ true) × (p.cid ≡ c)
unfolding lowest find
lowest_stands now c [] p a h = missing p h refl
lowest_stands now c (x ∷ ps) p a h =
    split (same x.cid c)
    (λ s. split (expired now x.reading)
    (λ e.
    let q : some x ≡ some p = cc in
    let r : x ≡ p = cc in
    let i = key_order.irrefl (key_of p) in
    (rw (r, i), rw (← r) e, rw (← r) (same_path x.cid c s)))
    (λ e. later_one (lowest_stands now c ps p a.1 (cc))))
    (λ s. later_one (lowest_stands now c ps p a.1 (cc)))
  where
    later_one : (pair_at (key_of p) ps ≡ some p) × (expired now p.reading ≡ true) × (p.cid ≡ c) → (pair_at (key_of p) (x ∷ ps) ≡ some p) × (expired now p.reading ≡ true) × (p.cid ≡ c)
    later_one r = ((let u = under_found (key_of x) (key_of p) p ps a.0 r.0 in rw u r.0), r.1, r.2)

last_noted_stands : (now : ℕ) (ps : List Pair) (cs : List Cid) (p : Pair) → Ascending key_before key_of ps → last_noted now ps cs ≡ some p
    → (pair_at (key_of p) ps ≡ some p) × (expired now p.reading ≡ true)
unfolding last_noted
last_noted_stands now ps [] p a h = missing p h refl
last_noted_stands now ps (c ∷ cs) p a h =
    found (last_noted now ps cs)
    (λ n. let r = lowest_stands now c ps p a (cc) in (r.0, r.1))
    (λ q n. last_noted_stands now ps cs p a (cc))

pub noted_stands : (now : ℕ) (ps : List Pair) (cs : List Cid) (p : Pair) → Ascending key_before key_of ps → noted now ps cs ≡ some p
    → (pair_at (key_of p) ps ≡ some p) × (expired now p.reading ≡ true)
unfolding noted
noted_stands now ps [] p a h = missing p h refl
noted_stands now ps (c ∷ cs) p a h =
    found (lowest now ps c)
    (λ n. missing p h (cc))
    (λ q n. last_noted_stands now ps (c ∷ cs) p a (cc))
