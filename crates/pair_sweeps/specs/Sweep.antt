-- What the loops of a sweep do to the lent rows: one law for each kind of turn.
-- Assumes nothing.
use Rattle.std.specs.Prelude.{◌≡◌, ◌≢◌, Bool, true, ℕ, zero, suc, ◌+◌, ◌-◌, ◌≤◌, ◌<◌, ltb, drop, get_or, set}
use Rattle.std.proofs.Math.Path.{refl, sym, ap}
use Rattle.std.proofs.Common.{subst, ◌∙◌, arith, drop_of_length-le, drop-drop, ltb-false, leb-false}
use Rattle.std.proofs.Math.Bool.{false}
use Rattle.std.proofs.Math.Option.{Option, none, some}
use mathlib.Core.List.{List, [], ◌∷◌, ◌++◌, map, append-nil}
use Rattle.std.proofs.Math.ListN.{length, take, length-append, length-take, length-drop}
use Rattle.std.proofs.lemmas.List.{set-get_or}
use Rattle.std.proofs.lemmas.Bool.{lt-leb}
use Rattle.laws.specs.Cases.{split, clash}
use Rattle.laws.specs.Order.{tri, asym, beyond}
use Rattle.laws.specs.Table.{keep, any, Ascending, Under, keep_map, length_keep}
use Rattle.laws.specs.Place.{prefix, drop_map}
use Rattle.laws.specs.Arrays.{next, untouched, compact_keep, compact_drop}
use Rattle.rules.specs.declared.Cid.{Cid}
use Rattle.rules.specs.Cid.{same, before}
use Rattle.rules.proofs.CidLaws.{cid_order, same_refl, same_not}
use Rattle.rules.specs.Age.{expired}
use Rattle.pairs.specs.declared.Pair.{Pair}
use Rattle.pairs.specs.declared.SweepAnswer.{SweepAnswer}
use Rattle.pairs.specs.declared.SweepAnswer.TheVariants.{Quiet, TimedOut}
use Rattle.pairs.specs.Table.{Key, key_of, key_before, itself, has, live, lowest, later, last_noted, noted}
use Rattle.pairs.specs.Laws.{stale}
use Rattle.pair_rows.specs.View.{Rows, cid_of, pair_of, listed_sources_of, row_before, starts, lapsed, older, lonely, note_of, later_note}
use Rattle.pair_rows.specs.Rows.{key_before_by}
use Rattle.pair_rows.specs.Notes.{lonely_swept}

-- ── a row kept where it stands ──
pub stays : (rows : Rows) (kept i : ℕ) → kept ≡ i → rows ≡ set rows kept (get_or rows i [])
stays rows kept i e = sym (ap (λ (k : ℕ). set rows k (get_or rows i [])) e ∙ set-get_or rows i [])

-- ── an ascending list from a place on ──
module _ {K E : Type 0} (lt : K → K → Bool) (key : E → K) where
  pub ascending_drop : (i : ℕ) (es : List E) → Ascending lt key es → Ascending lt key (drop i es)
  ascending_drop zero es a = a
  ascending_drop (suc i) [] a = tt
  ascending_drop (suc i) (e ∷ es) a = ascending_drop i es a.1

  -- tests that agree on every key above k keep the same of a list above k
  pub keep_agree : (t u : E → Bool) (k : K) (es : List E) → Under lt key k es → ((e : E) → lt k (key e) ≡ true → t e ≡ u e) → keep t es ≡ keep u es
  unfolding keep
  keep_agree t u k [] a h = refl
  keep_agree t u k (e ∷ es) a h =
      let q = h e a.0 in
      let r = keep_agree t u k es a.1 h in
      split (t e) (λ p. cc) (λ p. cc)

pub pairs_from : (i : ℕ) (l : Rows) → Ascending key_before key_of (map pair_of l) → Ascending key_before key_of (map pair_of (drop i l))
pairs_from i l a = rw (← (drop_map pair_of i l)) (ascending_drop key_before key_of i (map pair_of l) a)

-- ── the pairs from the first whose CID is not before c ──
pub has_skip : (c d : Cid) (l : Rows) → before d c ≡ false → has (map pair_of (drop (prefix (row_before c) l) l)) d ≡ has (map pair_of l) d
unfolding prefix any
has_skip c d [] h = refl
has_skip c d (r ∷ l) h =
    split (before (pair_of r).cid c)
    (λ e.
    let s = same_not (pair_of r).cid d (λ f. clash (rw (← f) e) h) in
    rw (e, s) (has_skip c d l h))
    (λ e. rw e)

lowest_skip : (now : ℕ) (c d : Cid) (l : Rows) → before d c ≡ false → lowest now (map pair_of (drop (prefix (row_before c) l) l)) d ≡ lowest now (map pair_of l) d
unfolding prefix lowest
lowest_skip now c d [] h = refl
lowest_skip now c d (r ∷ l) h =
    split (before (pair_of r).cid c)
    (λ e.
    let s = same_not (pair_of r).cid d (λ f. clash (rw (← f) e) h) in
    rw (e, s) (lowest_skip now c d l h))
    (λ e. rw e)

-- a CID below the key of a list has no pair in it
has_above : (c : Cid) (k : Key) (ps : List Pair) → before c k.cid ≡ true → Under key_before key_of k ps → has ps c ≡ false
unfolding any
has_above c k [] h u = refl
has_above c k (p ∷ ps) h u =
    let later : before c p.cid ≡ true =
    tri before cid_order k.cid p.cid
    (λ e f. cid_order.trans c k.cid p.cid h e)
    (λ e. rw (← e) h)
    (λ e f. clash u.0 (by_not k (key_of p) e f)) in
    rw (same_not p.cid c (λ e. clash (rw e at later) (cid_order.irrefl c))) (has_above c k ps h u.1)
  where
    by_not : (a b : Key) → before a.cid b.cid ≡ false → before b.cid a.cid ≡ true → key_before a b ≡ false
    by_not a b e f = rw (key_before_by a b, e, f) refl

-- whether an ascending list whose first CID is not before c has a pair of c
pub has_first : (c : Cid) (l : Rows) → Ascending key_before key_of (map pair_of l) → (l ≢ [] → before (pair_of (get_or l 0 [])).cid c ≡ false)
    → has (map pair_of l) c ≡ starts c l
unfolding any
has_first c [] a h = refl
has_first c (r ∷ l) a h =
    split (same (pair_of r).cid c)
    (λ e. rw e)
    (λ e.
    let up = beyond before cid_order (pair_of r).cid c (h (λ z. absurd (nothing z))) (λ f. clash (rw f (same_refl c)) e) in
    rw e (has_above c (key_of (pair_of r)) (map pair_of l) up a.0))
  where
    nothing : r ∷ l ≡ [] → ⊥
    nothing z = let y : ◌≡◌ {A = ℕ} 0 1 = cc in omega arith

-- where a walk while the test holds has stopped, the test fails
pub skip_stop : {A : Type 0} (p : A → Bool) (l : List A) (d : A) → drop (prefix p l) l ≢ [] → p (get_or (drop (prefix p l) l) 0 d) ≡ false
unfolding prefix
skip_stop p [] d n = absurd (n refl)
skip_stop p (x ∷ l) d n = split (p x) (λ e. rw e (skip_stop p l d (rw e at n))) (λ e. rw e e)

-- ── the walk along both lists ──
-- the row's CID has a pair among the rows l
abbrev pub owner : Rows → List ℕ → Bool
owner l row = has (map pair_of l) (cid_of row)

-- of the source rows s, of which m are in use, kept stay and those from i on are to be looked at; no pair row before place j has a CID of theirs
pub record Walk (l all : Rows) (m : ℕ) (s : Rows) (kept i j : ℕ) : Type 0 where
  pub done : take kept s ++ keep (owner (drop j l)) (drop i (take m s)) ≡ keep (owner l) all
  pub rest : Ascending before cid_of (drop i (take m s))

under_rows : (c : Cid) (l : Rows) → Under before itself c (map cid_of l) → Under before cid_of c l
under_rows c [] u = tt
under_rows c (x ∷ l) u = (u.0, under_rows c l u.1)

pub ascending_rows : (l : Rows) → Ascending before itself (map cid_of l) → Ascending before cid_of l
ascending_rows [] a = tt
ascending_rows (r ∷ l) a = (under_rows (cid_of r) l a.0, ascending_rows l a.1)

-- the row that is looked at, and those behind it
ahead : (m : ℕ) (s : Rows) (i : ℕ) → i < m → i < length s → Ascending before cid_of (drop i (take m s)) → Ascending before cid_of (get_or s i [] ∷ drop (i + 1) (take m s))
ahead m s i h ls a = rw (next s m i [] h ls) at a

pub walk_starts : (l : Rows) (m : ℕ) (s : Rows) → Ascending before itself (map cid_of (take m s)) → Walk l (take m s) m s 0 0 0
walk_starts l m s a = record { done = refl; rest = ascending_rows (take m s) a }

-- pairs with a CID before c are passed
passed : (c : Cid) (l : Rows) (j k : ℕ) → k ≡ j + prefix (row_before c) (drop j l) → drop k l ≡ drop (prefix (row_before c) (drop j l)) (drop j l)
passed c l j k e = ap (λ (n : ℕ). drop n l) e ∙ sym (drop-drop (prefix (row_before c) (drop j l)) j l)

module _ {l all : Rows} {m : ℕ} {s : Rows} {kept i j : ℕ} (w : Walk l all m s kept i j) (h : i < m) (ls : i < length s) where
  module _ (k : ℕ) (e : k ≡ j + prefix (row_before (cid_of (get_or s i []))) (drop j l)) where
    agree : (d : Cid) → before d (cid_of (get_or s i [])) ≡ false → has (map pair_of (drop k l)) d ≡ has (map pair_of (drop j l)) d
    agree d f = rw (passed (cid_of (get_or s i [])) l j k e) (has_skip (cid_of (get_or s i [])) d (drop j l) f)

    pub walk_skip : Walk l all m s kept i k
    unfolding keep
    walk_skip = record {
      done =
          let a = agree (cid_of (get_or s i [])) (cid_order.irrefl (cid_of (get_or s i []))) in
          let b = keep_agree before cid_of (owner (drop k l)) (owner (drop j l)) (cid_of (get_or s i [])) (drop (i + 1) (take m s)) (ahead m s i h ls w.rest).0
          (λ r f. agree (cid_of r) (asym before cid_order (cid_of (get_or s i [])) (cid_of r) f)) in
          ap (λ (t : Rows). take kept s ++ t) (rw (next s m i [] h ls, a, b)) ∙ w.done;
      rest = w.rest;
    }

    -- and the first that is left decides
    pub walk_has : Ascending key_before key_of (map pair_of l) → owner (drop k l) (get_or s i []) ≡ starts (cid_of (get_or s i [])) (drop k l)
    walk_has a =
        has_first (cid_of (get_or s i [])) (drop k l) (pairs_from k l a)
        (rw (passed (cid_of (get_or s i [])) l j k e) (λ n. skip_stop (row_before (cid_of (get_or s i []))) (drop j l) [] n))

  pub walk_drop : owner (drop j l) (get_or s i []) ≡ false → Walk l all m s kept (i + 1) j
  walk_drop e = record { done = compact_drop s m (owner (drop j l)) kept i [] h ls e ∙ w.done; rest = (ahead m s i h ls w.rest).1 }

  pub walk_keep : kept ≤ i → owner (drop j l) (get_or s i []) ≡ true → Walk l all m (set s kept (get_or s i [])) (kept + 1) (i + 1) j
  walk_keep k e = record {
    done = compact_keep s m (owner (drop j l)) kept i [] h ls k e ∙ w.done;
    rest = rw (untouched s m kept (i + 1) (get_or s i []) (omega arith)) (ahead m s i h ls w.rest).1;
  }

pub walk_done : {l all : Rows} {m : ℕ} {s : Rows} {kept i j : ℕ} → Walk l all m s kept i j → drop i (take m s) ≡ []
    → map cid_of (take kept s) ≡ keep (has (map pair_of l)) (map cid_of all)
unfolding keep
walk_done {l} {all} {m} {s} {kept} {i} {j} w e =
    ap (map cid_of) (sym (append-nil (take kept s)) ∙ ap (λ (t : Rows). take kept s ++ keep (owner (drop j l)) t) (sym e) ∙ w.done)
    ∙ sym (keep_map cid_of (has (map pair_of l)) all)

-- ── the walk that only looks ──
keep_paired : (ps : List Pair) (r : Rows) → lonely ps (map cid_of r) ≡ false → keep (λ (x : List ℕ). has ps (cid_of x)) r ≡ r
unfolding any keep
keep_paired ps [] f = refl
keep_paired ps (x ∷ r) f =
    split (has ps (cid_of x))
    (λ e. rw e (ap (λ (t : Rows). x ∷ t) (keep_paired ps r (rw e at f))))
    (λ e. clash (rw e) f)

module _ {l : Rows} {m : ℕ} {s : Rows} {i j : ℕ} (w : Walk l (take m s) m s i i j) where
  pub walk_on : i < m → i < length s → owner (drop j l) (get_or s i []) ≡ true → Walk l (take m s) m s (i + 1) (i + 1) j
  walk_on h ls e = subst (λ (t : Rows). Walk l (take m s) m t (i + 1) (i + 1) j) (set-get_or s i []) (walk_keep w h ls (omega arith) e)

  -- all have been found to have a pair
  pub walk_paired : i ≡ m → lonely (map pair_of l) (map cid_of (take m s)) ≡ false
  walk_paired e =
      let k = walk_done w (drop_of_length-le (take m s) {i = i} (omega (arith, length-take m s))) in
      let f : map cid_of (take m s) ≡ keep (has (map pair_of l)) (map cid_of (take m s)) = ap (λ (n : ℕ). map cid_of (take n s)) (sym e) ∙ k in
      ap (lonely (map pair_of l)) f ∙ lonely_swept (map pair_of l) (map cid_of (take m s))

  -- or one to have none
  pub walk_lonely : i < m → m ≤ length s → owner (drop j l) (get_or s i []) ≡ false → lonely (map pair_of l) (map cid_of (take m s)) ≡ true
  unfolding keep
  walk_lonely h ls e =
      split (lonely (map pair_of l) (map cid_of (take m s)))
      (λ f. f)
      (λ f.
      let a = ap length (w.done ∙ keep_paired (map pair_of l) (take m s) f) in
      let b : keep (owner (drop j l)) (drop i (take m s)) ≡ keep (owner (drop j l)) (drop (i + 1) (take m s)) = rw (next s m i [] h (omega arith), e) in
      let c = length_keep (owner (drop j l)) (drop (i + 1) (take m s)) in
      absurd (omega (arith, a, ap length b, c, length-append (take i s) (keep (owner (drop j l)) (drop i (take m s))), length-take i s, length-take m s, length-drop (i + 1) (take m s))))

-- ── the pass that keeps what is live ──
abbrev pub live_row : ℕ → List ℕ → Bool
live_row now row = live now (pair_of row)

pub live_done : (now : ℕ) (a rows : Rows) (n kept i : ℕ) → take kept rows ++ keep (live_row now) (drop i (take n rows)) ≡ keep (live_row now) (take n a) → drop i (take n rows) ≡ []
    → map pair_of (take kept rows) ≡ keep (live now) (map pair_of (take n a))
unfolding keep
live_done now a rows n kept i h e =
    ap (map pair_of) (sym (append-nil (take kept rows)) ∙ ap (λ (t : Rows). take kept rows ++ keep (live_row now) t) (sym e) ∙ h)
    ∙ sym (keep_map pair_of (live now) (take n a))

-- ── a sweep that has nothing to do ──
pub fresh : (o now : ℕ) (ps : List Pair) → older o ps ≡ false → expired now o ≡ false → stale now ps ≡ false
unfolding any
fresh o now [] a e = refl
fresh o now (p ∷ ps) a e =
    split (ltb p.reading o)
    (λ f. clash (rw f) a)
    (λ f.
    let x = lt-leb 2500 (now - p.reading) (omega (arith, ltb-false p.reading o f, leb-false 2500 (now - o) e)) in
    rw x (fresh o now ps (rw f at a) e))

-- ── the source's lowest expired pair ──
-- a CID without a pair has no expired one
lowest_none : (now : ℕ) (c : Cid) (ps : List Pair) → has ps c ≡ false → lowest now ps c ≡ none
unfolding lowest any
lowest_none now c [] h = refl
lowest_none now c (p ∷ ps) h = split (same p.cid c) (λ e. clash (rw e) h) (λ e. rw e (lowest_none now c ps (rw e at h)))

module _ (now : ℕ) (c : Cid) (row : List ℕ) (l : Rows) where
  pub lowest_hit : lapsed now c (pair_of row) ≡ true → lowest now (map pair_of (row ∷ l)) c ≡ some (pair_of row)
  unfolding lowest
  lowest_hit e = rw e

  pub lowest_miss : lapsed now c (pair_of row) ≡ false → lowest now (map pair_of (row ∷ l)) c ≡ lowest now (map pair_of l) c
  unfolding lowest
  lowest_miss e = rw e

  -- from a pair after the CID on there is none of it
  pub lowest_past : Ascending key_before key_of (map pair_of (row ∷ l)) → before c (pair_of row).cid ≡ true → lowest now (map pair_of (row ∷ l)) c ≡ none
  unfolding any
  lowest_past a e =
      let s = same_not (pair_of row).cid c (λ f. clash (rw f at e) (cid_order.irrefl c)) in
      lowest_none now c (map pair_of (row ∷ l)) (rw s (has_above c (key_of (pair_of row)) (map pair_of l) e a.0))

-- ── the last note of the sources ──
later_noted : (a b : Option Pair) → note_of (later a b) ≡ later_note (note_of a) (note_of b)
later_noted a none = refl
later_noted a (some p) = refl

later_later : (a b c : SweepAnswer) → later_note a (later_note b c) ≡ later_note (later_note a b) c
later_later a b Quiet = refl
later_later a b (TimedOut c u) = refl

-- pairs that agree on every CID above c note the same of sources above c
noted_agree : (now : ℕ) (ps qs : List Pair) (c : Cid) (s : Rows) → Under before cid_of c s → ((d : Cid) → before c d ≡ true → lowest now ps d ≡ lowest now qs d)
    → last_noted now ps (map cid_of s) ≡ last_noted now qs (map cid_of s)
unfolding last_noted
noted_agree now ps qs c [] u h = refl
noted_agree now ps qs c (r ∷ s) u h = rw (h (cid_of r) u.0, noted_agree now ps qs c s u.1 h)

-- the sources before place i note last, those from i on are to be looked at; no pair row before place j has a CID of theirs
pub record NoteWalk (now : ℕ) (l : Rows) (m : ℕ) (s : Rows) (last : SweepAnswer) (i j : ℕ) : Type 0 where
  pub done : later_note last (note_of (last_noted now (map pair_of (drop j l)) (map cid_of (drop i (take m s))))) ≡ note_of (last_noted now (map pair_of l) (map cid_of (take m s)))
  pub rest : Ascending before cid_of (drop i (take m s))

pub note_starts : (now : ℕ) (l : Rows) (m : ℕ) (s : Rows) → Ascending before itself (map cid_of (take m s)) → NoteWalk now l m s Quiet 0 0
note_starts now l m s a = record { done = first (last_noted now (map pair_of l) (map cid_of (take m s))); rest = ascending_rows (take m s) a }
  where
    first : (o : Option Pair) → later_note Quiet (note_of o) ≡ note_of o
    first none = refl
    first (some p) = refl

module _ {now : ℕ} {l : Rows} {m : ℕ} {s : Rows} {last : SweepAnswer} {i j : ℕ} (w : NoteWalk now l m s last i j) (h : i < m) (ls : i < length s) where
  -- the CID that is looked at
  abbrev own : Cid
  own = cid_of (get_or s i [])

  pub note_skip : (k : ℕ) → k ≡ j + prefix (row_before own) (drop j l) → NoteWalk now l m s last i k
  unfolding last_noted
  note_skip k e =
      let agree : (d : Cid) → before d own ≡ false → lowest now (map pair_of (drop k l)) d ≡ lowest now (map pair_of (drop j l)) d =
      λ d f. rw (passed own l j k e) (lowest_skip now own d (drop j l) f) in
      let a = agree own (cid_order.irrefl own) in
      let b = noted_agree now (map pair_of (drop k l)) (map pair_of (drop j l)) own (drop (i + 1) (take m s)) (ahead m s i h ls w.rest).0 (λ d f. agree d (asym before cid_order own d f)) in
      let q : last_noted now (map pair_of (drop k l)) (map cid_of (drop i (take m s))) ≡ last_noted now (map pair_of (drop j l)) (map cid_of (drop i (take m s))) = rw (next s m i [] h ls, a, b) in
      record { done = ap (λ (o : Option Pair). later_note last (note_of o)) q ∙ w.done; rest = w.rest }

  -- what the CID's pairs note comes after the notes so far
  pub note_on : (a : SweepAnswer) → a ≡ note_of (lowest now (map pair_of (drop j l)) own) → NoteWalk now l m s (later_note last a) (i + 1) j
  unfolding last_noted
  note_on a e = record {
    done =
        let others = last_noted now (map pair_of (drop j l)) (map cid_of (drop (i + 1) (take m s))) in
        sym (later_later last a (note_of others))
        ∙ ap (later_note last) (ap (λ (x : SweepAnswer). later_note x (note_of others)) e ∙ sym (later_noted (lowest now (map pair_of (drop j l)) own) others))
        ∙ ap (λ (t : Rows). later_note last (note_of (last_noted now (map pair_of (drop j l)) (map cid_of t)))) (sym (next s m i [] h ls))
        ∙ w.done;
    rest = (ahead m s i h ls w.rest).1;
  }

pub note_done : {now : ℕ} {l : Rows} {m : ℕ} {s : Rows} {last : SweepAnswer} {i j : ℕ} → NoteWalk now l m s last i j → drop i (take m s) ≡ []
    → last ≡ note_of (last_noted now (map pair_of l) (map cid_of (take m s)))
unfolding last_noted
note_done {now} {l} {m} {s} {last} {i} {j} w e =
    ap (λ (t : Rows). later_note last (note_of (last_noted now (map pair_of (drop j l)) (map cid_of t)))) (sym e) ∙ w.done

-- the first source decides whether there is a note at all
module _ (now : ℕ) (ps : List Pair) (s : Rows) (m : ℕ) (h : 0 < m) (l : 0 < length s) where
  pub noted_first_none : lowest now ps (cid_of (get_or s 0 [])) ≡ none → noted now ps (listed_sources_of m s) ≡ none
  unfolding noted
  noted_first_none e = let n = next s m 0 [] h l in cc

  pub noted_first_some : (p : Pair) → lowest now ps (cid_of (get_or s 0 [])) ≡ some p → noted now ps (listed_sources_of m s) ≡ last_noted now ps (listed_sources_of m s)
  unfolding noted
  noted_first_some p e = let n = next s m 0 [] h l in cc

pub note_none : (o : Option Pair) → note_of o ≡ Quiet → o ≡ none
note_none none e = refl
note_none (some p) e = let z : ◌≡◌ {A = ℕ} 0 1 = cc in absurd (omega arith)

pub note_some : (o : Option Pair) (c : Cid) (u : ℕ) → note_of o ≡ TimedOut c u → (p : Pair) × (o ≡ some p)
note_some none c u e = let z : ◌≡◌ {A = ℕ} 0 1 = cc in absurd (omega arith)
note_some (some p) c u e = (p, refl)
