-- A table: a list of entries in the strict order of their keys. Its laws, for any entry with a key and any order of keys.
-- Assumes nothing.
use Rattle.std.specs.Prelude.{◌≡◌, ◌≢◌, Bool, cond}
use Rattle.std.proofs.Math.Path.{refl, sym}
use Rattle.std.proofs.Common.{ap, ◌∙◌}
use Rattle.std.proofs.Math.Option.{Option, none, some}
use Rattle.std.proofs.Math.Bool.{true, false}
use mathlib.Core.List.{List, [], ◌∷◌, map}
use Prim.Native.Nat.{suc, ◌≤◌}
use native.Mathlib.Omega.{arith}
use Rattle.std.proofs.Math.ListN.{length}
use Rattle.laws.specs.Cases.{split, found, missing}
use Rattle.laws.specs.Order.{Order, tri, keyed, differs}

-- the entries that pass the test, in their order
unfoldable pub keep : {E : Type 0} → (E → Bool) → List E → List E
keep t [] = []
keep t (e ∷ es) = cond (t e) (e ∷ keep t es) (keep t es)

-- some entry passes the test
unfoldable pub any : {E : Type 0} → (E → Bool) → List E → Bool
any t [] = false
any t (e ∷ es) = cond (t e) true (any t es)

module _ {K E : Type 0} (lt : K → K → Bool) (key : E → K) where
  -- the entry with this key
  unfoldable pub find : K → List E → Option E
  find k [] = none
  find k (e ∷ es) = cond (lt (key e) k) (find k es) (cond (lt k (key e)) none (some e))

  -- the entry put in its place; one with the same key goes
  unfoldable pub store : E → List E → List E
  store v [] = v ∷ []
  store v (e ∷ es) = cond (lt (key e) (key v)) (e ∷ store v es) (cond (lt (key v) (key e)) (v ∷ e ∷ es) (v ∷ es))

  -- the entry with this key taken out
  unfoldable pub remove : K → List E → List E
  remove k [] = []
  remove k (e ∷ es) = cond (lt (key e) k) (e ∷ remove k es) (cond (lt k (key e)) (e ∷ es) es)

  -- every key of the list is above k
  abbrev pub Under : K → List E → Type 0
  Under k [] = Unit {0}
  Under k (e ∷ es) = (lt k (key e) ≡ true) × Under k es

  -- each key is less than every later one
  abbrev pub Ascending : List E → Type 0
  Ascending [] = Unit {0}
  Ascending (e ∷ es) = Under (key e) es × Ascending es

  -- the keys other than k
  abbrev pub other_than : K → E → Bool
  other_than k e = cond (lt (key e) k) true (lt k (key e))

-- what is left of a found entry behind a test
abbrev pub pass : {E : Type 0} → (E → Bool) → Option E → Option E
pass t none = none
pass t (some e) = cond (t e) (some e) none

-- ── keep, whatever the order ──
module _ {E : Type 0} where
  pub keep_keep : (t u : E → Bool) (es : List E) → keep t (keep u es) ≡ keep u (keep t es)
  unfolding keep
  keep_keep t u [] = refl
  keep_keep t u (e ∷ es) =
      let r = keep_keep t u es in
      split (t e) (λ h. split (u e) (λ g. cc) (λ g. cc)) (λ h. split (u e) (λ g. cc) (λ g. cc))

  pub keep_idem : (t : E → Bool) (es : List E) → keep t (keep t es) ≡ keep t es
  unfolding keep
  keep_idem t [] = refl
  keep_idem t (e ∷ es) = let r = keep_idem t es in split (t e) (λ h. cc) (λ h. cc)

  pub keep_implied : (t u : E → Bool) (es : List E) → ((e : E) → t e ≡ true → u e ≡ true) → keep t (keep u es) ≡ keep t es
  unfolding keep
  keep_implied t u [] h = refl
  keep_implied t u (e ∷ es) h =
      let r = keep_implied t u es h in
      split (t e) (λ p. let q = h e p in cc) (λ p. split (u e) (λ q. cc) (λ q. cc))

  -- tests that agree on every entry keep the same
  pub keep_same : (t u : E → Bool) (es : List E) → ((e : E) → t e ≡ u e) → keep t es ≡ keep u es
  unfolding keep
  keep_same t u [] h = refl
  keep_same t u (e ∷ es) h = let r = keep_same t u es h in let q = h e in split (t e) (λ p. cc) (λ p. cc)

  -- where no entry fails the test, nothing goes
  pub keep_all : (t u : E → Bool) (es : List E) → ((e : E) → u e ≡ false → t e ≡ true) → any u es ≡ false → keep t es ≡ es
  unfolding keep any
  keep_all t u [] h a = refl
  keep_all t u (e ∷ es) h a =
      split (u e) (λ p. let z : true ≡ false = cc in cc) (λ p. let q = h e p in let r = keep_all t u es h (cc) in cc)

  pub length_keep : (t : E → Bool) (es : List E) → length (keep t es) ≤ length es
  unfolding keep
  length_keep t [] = omega arith
  length_keep t (e ∷ es) = let r = length_keep t es in split (t e) (λ h. rw h (omega arith)) (λ h. rw h (omega arith))

-- the entries seen through a function
module _ {A E : Type 0} (f : A → E) where
  pub keep_map : (t : E → Bool) (es : List A) → keep t (map f es) ≡ map f (keep (λ a. t (f a)) es)
  unfolding keep
  keep_map t [] = refl
  keep_map t (e ∷ es) = let r = keep_map t es in split (t (f e)) (λ h. cc) (λ h. cc)

  pub any_map : (t : E → Bool) (es : List A) → any t (map f es) ≡ any (λ a. t (f a)) es
  unfolding any
  any_map t [] = refl
  any_map t (e ∷ es) = let r = any_map t es in split (t (f e)) (λ h. cc) (λ h. cc)

module _ {K E : Type 0} (lt : K → K → Bool) (key : E → K) (O : Order lt) where
  pub under_trans : (j k : K) (es : List E) → lt j k ≡ true → Under lt key k es → Under lt key j es
  under_trans j k [] h u = tt
  under_trans j k (e ∷ es) h u = (O.trans j k (key e) h u.0, under_trans j k es h u.1)

  pub find_under : (k : K) (es : List E) → Under lt key k es → find lt key k es ≡ none
  unfolding find
  find_under k [] u = refl
  find_under k (e ∷ es) u = let h = u.0 in tri lt O k (key e) (λ p q. cc) (λ f. let i = O.irrefl k in let z : true ≡ false = cc in cc) (λ p q. let z : true ≡ false = cc in cc)

  -- two tables that answer every key alike are one
  pub ext : (xs ys : List E) → Ascending lt key xs → Ascending lt key ys → ((k : K) → find lt key k xs ≡ find lt key k ys) → xs ≡ ys
  unfolding find
  ext [] [] a b h = refl
  ext [] (y ∷ ys) a b h = let g = h (key y) in let i = O.irrefl (key y) in cc
  ext (x ∷ xs) [] a b h = let g = h (key x) in let i = O.irrefl (key x) in cc
  ext (x ∷ xs) (y ∷ ys) a b h =
      let i = O.irrefl (key x) in
      let i' = O.irrefl (key y) in
      let g = h (key x) in
      let g' = h (key y) in
      tri lt O (key x) (key y)
      (λ p q. cc)
      (λ e.
      let d : x ≡ y = cc in
      let r : xs ≡ ys = ext xs ys a.1 b.1
      (λ k. tri lt O k (key x)
      (λ p q. find_under k xs (under_trans k (key x) xs p a.0) ∙ sym (find_under k ys (under_trans k (key y) ys (rw (← e) p) b.0)))
      (λ f. cc (find_under (key x) xs a.0, find_under (key y) ys b.0))
      (λ p q. let m = h k in cc)) in
      cc)
      (λ p q. cc)

  -- ── store ──
  pub find_store_same : (v : E) (es : List E) → find lt key (key v) (store lt key v es) ≡ some v
  unfolding find store
  find_store_same v [] = let i = O.irrefl (key v) in cc
  find_store_same v (e ∷ es) =
      let i = O.irrefl (key v) in
      let r = find_store_same v es in
      tri lt O (key v) (key e) (λ p q. cc) (λ f. cc) (λ p q. cc)

  pub find_store_other : (j : K) (v : E) (es : List E) → j ≢ key v → find lt key j (store lt key v es) ≡ find lt key j es
  unfolding find store
  find_store_other j v [] n = tri lt O j (key v) (λ p q. cc) (λ f. absurd (n f)) (λ p q. cc)
  find_store_other j v (e ∷ es) n =
      let r = find_store_other j v es n in
      let i = O.irrefl (key v) in
      tri lt O (key v) (key e)
      (λ p q. tri lt O j (key v)
      (λ p' q'. let t = O.trans j (key v) (key e) p' p in tri lt O j (key e) (λ m m'. cc) (λ f. cc) (λ m m'. let z : true ≡ false = cc in cc))
      (λ f. absurd (n f))
      (λ p' q'. cc))
      (λ f. tri lt O j (key v) (λ p' q'. cc) (λ f. absurd (n f)) (λ p' q'. cc))
      (λ p q. cc)

  under_store : (j : K) (v : E) (es : List E) → lt j (key v) ≡ true → Under lt key j es → Under lt key j (store lt key v es)
  unfolding store
  under_store j v [] h u = (h, tt)
  under_store j v (e ∷ es) h u =
      tri lt O (key v) (key e)
      (λ p q. rw (q, p) (h, u))
      (λ f. rw (← f, O.irrefl (key v)) (h, u.1))
      (λ p q. rw q (u.0, under_store j v es h u.1))

  pub ascending_store : (v : E) (es : List E) → Ascending lt key es → Ascending lt key (store lt key v es)
  unfolding store
  ascending_store v [] a = (tt, tt)
  ascending_store v (e ∷ es) a =
      tri lt O (key v) (key e)
      (λ p q. rw (q, p) ((p, under_trans (key v) (key e) es p a.0), a))
      (λ f. rw (← f, O.irrefl (key v)) (rw f a.0, a.1))
      (λ p q. rw q (under_store (key e) v es q a.0, ascending_store v es a.1))

  pub find_key : (k : K) (e : E) (es : List E) → find lt key k es ≡ some e → key e ≡ k
  unfolding find
  find_key k e [] h = cc
  find_key k e (x ∷ es) h =
      tri lt O k (key x)
      (λ p q. let z : none ≡ some e = cc in cc)
      (λ f. let i = O.irrefl k in cc)
      (λ p q. find_key k e es (cc))

  pub length_store_new : (v : E) (es : List E) → find lt key (key v) es ≡ none → length (store lt key v es) ≡ suc (length es)
  unfolding find store
  length_store_new v [] h = refl
  length_store_new v (e ∷ es) h =
      tri lt O (key v) (key e)
      (λ p q. rw (q, p))
      (λ f. let i = O.irrefl (key v) in missing {C = length (store lt key v (e ∷ es)) ≡ suc (length (e ∷ es))} e (cc) h)
      (λ p q. rw q (ap suc (length_store_new v es (cc))))

  pub length_store_known : (v e : E) (es : List E) → find lt key (key v) es ≡ some e → length (store lt key v es) ≡ length es
  unfolding find store
  length_store_known v x [] h = missing x h refl
  length_store_known v x (e ∷ es) h =
      tri lt O (key v) (key e)
      (λ p q. missing {C = length (store lt key v (e ∷ es)) ≡ length (e ∷ es)} x h (cc))
      (λ f. rw (← f, O.irrefl (key v)))
      (λ p q. rw q (ap suc (length_store_known v x es (cc))))

  -- ── keep ──
  under_keep : (j : K) (t : E → Bool) (es : List E) → Under lt key j es → Under lt key j (keep t es)
  unfolding keep
  under_keep j t [] u = tt
  under_keep j t (e ∷ es) u = split (t e) (λ h. rw h (u.0, under_keep j t es u.1)) (λ h. rw h (under_keep j t es u.1))

  pub ascending_keep : (t : E → Bool) (es : List E) → Ascending lt key es → Ascending lt key (keep t es)
  unfolding keep
  ascending_keep t [] a = tt
  ascending_keep t (e ∷ es) a =
      split (t e)
      (λ h. rw h (under_keep (key e) t es a.0, ascending_keep t es a.1))
      (λ h. rw h (ascending_keep t es a.1))

  pub find_keep : (t : E → Bool) (k : K) (es : List E) → Ascending lt key es → find lt key k (keep t es) ≡ pass t (find lt key k es)
  unfolding find keep
  find_keep t k [] a = refl
  find_keep t k (e ∷ es) a =
      let r = find_keep t k es a.1 in
      let i = O.irrefl k in
      let m = find_under (key e) (keep t es) (under_keep (key e) t es a.0) in
      tri lt O k (key e)
      (λ p q.
      let n = find_under k (keep t es) (under_keep k t es (under_trans k (key e) es p a.0)) in
      split (t e) (λ h. cc) (λ h. cc))
      (λ f. split (t e) (λ h. cc) (λ h. cc))
      (λ p q. split (t e) (λ h. cc) (λ h. cc))

  -- what stands in a kept table passes the test
  pub find_kept : (t : E → Bool) (k : K) (e : E) (es : List E) → Ascending lt key es → find lt key k (keep t es) ≡ some e
      → (find lt key k es ≡ some e) × (t e ≡ true)
  find_kept t k e es a h =
      let p = find_keep t k es a in
      found (find lt key k es)
      (λ n. let z : none ≡ some e = cc in ((cc), (cc)))
      (λ x n. split (t x) (λ g. ((cc), (cc))) (λ g. let z : none ≡ some e = cc in ((cc), (cc))))

  -- ── remove ──
  -- in a table, removing is keeping every other key
  remove_above : (k : K) (es : List E) → Under lt key k es → keep (other_than lt key k) es ≡ es
  unfolding keep
  remove_above k [] u = refl
  remove_above k (e ∷ es) u =
      let h = u.0 in
      let r = remove_above k es u.1 in
      split (lt (key e) k) (λ p. cc) (λ p. cc)

  pub remove_keep : (k : K) (es : List E) → Ascending lt key es → remove lt key k es ≡ keep (other_than lt key k) es
  unfolding remove keep
  remove_keep k [] a = refl
  remove_keep k (e ∷ es) a =
      let i = O.irrefl k in
      tri lt O k (key e)
      (λ p q. let r = remove_above k es (under_trans k (key e) es p a.0) in cc)
      (λ f. let r = remove_above k es (rw f a.0) in cc)
      (λ p q. let r = remove_keep k es a.1 in cc)

  pub ascending_remove : (k : K) (es : List E) → Ascending lt key es → Ascending lt key (remove lt key k es)
  ascending_remove k es a = rw (remove_keep k es a) (ascending_keep (other_than lt key k) es a)

  pub find_remove_other : (j k : K) (es : List E) → Ascending lt key es → j ≢ k → find lt key j (remove lt key k es) ≡ find lt key j es
  find_remove_other j k es a n =
      rw (remove_keep k es a, find_keep (other_than lt key k) j es a)
      (found (find lt key j es) (λ h. cc) (λ e h. let d = differs lt O j k n in let f = find_key j e es h in cc))

  pub find_remove_same : (k : K) (es : List E) → Ascending lt key es → find lt key k (remove lt key k es) ≡ none
  find_remove_same k es a =
      rw (remove_keep k es a, find_keep (other_than lt key k) k es a)
      (found (find lt key k es) (λ h. cc) (λ e h. let i = O.irrefl k in let f = find_key k e es h in cc))

  pub remove_absent : (k : K) (es : List E) → find lt key k es ≡ none → remove lt key k es ≡ es
  unfolding find remove
  remove_absent k [] h = refl
  remove_absent k (e ∷ es) h =
      tri lt O k (key e)
      (λ p q. cc)
      (λ f. let i = O.irrefl k in missing {C = remove lt key k (e ∷ es) ≡ e ∷ es} e (cc) h)
      (λ p q. let r = remove_absent k es (cc) in cc)

  pub length_remove : (k : K) (es : List E) → length (remove lt key k es) ≤ length es
  unfolding remove
  length_remove k [] = omega arith
  length_remove k (e ∷ es) =
      let r = length_remove k es in
      split (lt (key e) k) (λ p. rw p (omega arith)) (λ p. split (lt k (key e)) (λ q. rw (p, q) (omega arith)) (λ q. rw (p, q) (omega arith)))

  -- ── two operations, in either order ──
  pub store_store : (v w : E) (es : List E) → Ascending lt key es → key v ≢ key w
      → store lt key v (store lt key w es) ≡ store lt key w (store lt key v es)
  store_store v w es a n =
      ext _ _ (ascending_store v _ (ascending_store w es a)) (ascending_store w _ (ascending_store v es a))
      (λ i. keyed lt O i (key v)
      (λ f. cc (find_store_same v (store lt key w es), find_store_other (key v) w (store lt key v es) n, find_store_same v es))
      (λ m. rw (find_store_other i v (store lt key w es) m) (keyed lt O i (key w)
      (λ f. cc (find_store_same w es, find_store_same w (store lt key v es)))
      (λ m'. cc (find_store_other i w es m', find_store_other i w (store lt key v es) m', find_store_other i v es m)))))

  pub store_again : (v w : E) (es : List E) → Ascending lt key es → key v ≡ key w → store lt key v (store lt key w es) ≡ store lt key v es
  store_again v w es a n =
      ext _ _ (ascending_store v _ (ascending_store w es a)) (ascending_store v es a)
      (λ i. keyed lt O i (key v)
      (λ f. cc (find_store_same v (store lt key w es), find_store_same v es))
      (λ m. cc (find_store_other i v (store lt key w es) m, find_store_other i v es m, find_store_other i w es (λ h. m (h ∙ sym n)))))

  -- an entry that is there already
  pub store_known : (v : E) (es : List E) → Ascending lt key es → find lt key (key v) es ≡ some v → store lt key v es ≡ es
  store_known v es a h =
      ext _ _ (ascending_store v es a) a
      (λ i. keyed lt O i (key v) (λ f. cc (find_store_same v es)) (λ m. find_store_other i v es m))

  pub keep_store : (t : E → Bool) (v : E) (es : List E) → Ascending lt key es → t v ≡ true
      → keep t (store lt key v es) ≡ store lt key v (keep t es)
  keep_store t v es a h =
      ext _ _ (ascending_keep t _ (ascending_store v es a)) (ascending_store v _ (ascending_keep t es a))
      (λ i. rw (find_keep t i (store lt key v es) (ascending_store v es a)) (keyed lt O i (key v)
      (λ f. cc (find_store_same v es, find_store_same v (keep t es)))
      (λ m. cc (find_store_other i v es m, find_store_other i v (keep t es) m, find_keep t i es a))))

  -- an entry that fails the test, where none that passes has its key
  pub keep_store_skip : (t : E → Bool) (v : E) (es : List E) → Ascending lt key es → t v ≡ false → pass t (find lt key (key v) es) ≡ none
      → keep t (store lt key v es) ≡ keep t es
  keep_store_skip t v es a h n =
      ext _ _ (ascending_keep t _ (ascending_store v es a)) (ascending_keep t es a)
      (λ i. rw (find_keep t i (store lt key v es) (ascending_store v es a), find_keep t i es a) (keyed lt O i (key v)
      (λ f. cc (find_store_same v es))
      (λ m. cc (find_store_other i v es m))))

  pub remove_store : (k : K) (v : E) (es : List E) → Ascending lt key es → key v ≢ k
      → remove lt key k (store lt key v es) ≡ store lt key v (remove lt key k es)
  remove_store k v es a n =
      rw (remove_keep k (store lt key v es) (ascending_store v es a), remove_keep k es a)
      (keep_store (other_than lt key k) v es a (differs lt O (key v) k n))

  pub remove_remove : (j k : K) (es : List E) → Ascending lt key es
      → remove lt key j (remove lt key k es) ≡ remove lt key k (remove lt key j es)
  remove_remove j k es a =
      rw (remove_keep j (remove lt key k es) (ascending_remove k es a), remove_keep k (remove lt key j es) (ascending_remove j es a), remove_keep k es a, remove_keep j es a)
      (keep_keep (other_than lt key j) (other_than lt key k) es)

  pub keep_remove : (t : E → Bool) (k : K) (es : List E) → Ascending lt key es → keep t (remove lt key k es) ≡ remove lt key k (keep t es)
  keep_remove t k es a =
      rw (remove_keep k es a, remove_keep k (keep t es) (ascending_keep t es a)) (keep_keep t (other_than lt key k) es)
