-- A table's operations by places: what code finds by walking from the front, and the store or removal that it then makes at a place.
-- They hold of any list, in order or not.
-- Assumes nothing.
use Rattle.std.proofs.Math.Path.{◌≡◌, refl}
use Rattle.std.proofs.Common.{ap, ◌∙◌, length-append, length-take, length-drop}
use Rattle.std.specs.Prelude.{◌≢◌, Bool, true, false, cond, length, take, drop, get_or, set}
use Rattle.std.proofs.Math.Option.{none, some}
use mathlib.Core.List.{List, [], ◌∷◌, ◌++◌, map}
use Prim.Native.Nat.{ℕ, zero, suc, ◌+◌, ◌≤◌, ◌<◌}
use native.Mathlib.Omega.{arith}
use Rattle.laws.specs.Cases.{split}
use Rattle.laws.specs.Order.{Order, tri, beyond}
use Rattle.laws.specs.Table.{find, store, remove}

-- how many entries at the front pass the test
unfoldable pub prefix : {A : Type 0} → (A → Bool) → List A → ℕ
prefix p [] = zero
prefix p (x ∷ l) = cond (p x) (suc (prefix p l)) zero

-- x put in before place i; place i taken out
abbrev pub insert_at : {A : Type 0} → ℕ → A → List A → List A
insert_at i x l = take i l ++ x ∷ drop i l

abbrev pub remove_at : {A : Type 0} → ℕ → List A → List A
remove_at i l = take i l ++ drop (suc i) l

module _ {A : Type 0} where
  pub prefix_le : (p : A → Bool) (l : List A) → prefix p l ≤ length l
  unfolding prefix
  prefix_le p [] = omega arith
  prefix_le p (x ∷ l) = let r = prefix_le p l in split (p x) (λ h. rw h (omega arith)) (λ h. rw h (omega arith))

  -- what a walk passes it may leave out at its start
  pub prefix_past : (p : A → Bool) (k : ℕ) (l : List A) → k ≤ prefix p l → k + prefix p (drop k l) ≡ prefix p l
  unfolding prefix
  prefix_past p zero l h = omega arith
  prefix_past p (suc k) [] h = absurd (omega arith)
  prefix_past p (suc k) (x ∷ l) h =
      split (p x)
      (λ e. let g : suc k ≤ suc (prefix p l) = rw e at h in rw e (omega (arith, prefix_past p k l (omega arith))))
      (λ e. let g : suc k ≤ 0 = rw e at h in absurd (omega arith))

  -- a test that passes less ends the walk no later
  pub prefix_sooner : (p q : A → Bool) (l : List A) → ((x : A) → p x ≡ true → q x ≡ true) → prefix p l ≤ prefix q l
  unfolding prefix
  prefix_sooner p q [] i = omega arith
  prefix_sooner p q (x ∷ l) i =
      split (p x)
      (λ e. let r = prefix_sooner p q l i in rw (e, i x e) (omega arith))
      (λ e. rw e (omega arith))

  -- the entry at that place fails the test
  pub prefix_stop : (p : A → Bool) (l : List A) (d : A) → prefix p l < length l → p (get_or l (prefix p l) d) ≡ false
  unfolding prefix
  prefix_stop p [] d h = absurd (omega arith)
  prefix_stop p (x ∷ l) d h = split (p x) (λ e. rw e (prefix_stop p l d (let g = rw e at h in omega arith))) (λ e. rw e e)

  pub length_insert_at : (i : ℕ) (x : A) (l : List A) → i ≤ length l → length (insert_at i x l) ≡ suc (length l)
  length_insert_at i x l h = omega (arith, length-append (take i l) (x ∷ drop i l), length-take i l, length-drop i l)

  pub length_remove_at : (i : ℕ) (l : List A) → i < length l → suc (length (remove_at i l)) ≡ length l
  length_remove_at i l h = omega (arith, length-append (take i l) (drop (suc i) l), length-take i l, length-drop (suc i) l)

-- the entries seen through a function
module _ {A B : Type 0} (f : A → B) where
  pub prefix_map : (p : B → Bool) (l : List A) → prefix p (map f l) ≡ prefix (λ a. p (f a)) l
  unfolding prefix
  prefix_map p [] = refl
  prefix_map p (x ∷ l) = let r = prefix_map p l in split (p (f x)) (λ h. cc) (λ h. cc)

  pub take_map : (i : ℕ) (l : List A) → take i (map f l) ≡ map f (take i l)
  take_map zero l = refl
  take_map (suc i) [] = refl
  take_map (suc i) (x ∷ l) = ap (λ (t : List B). f x ∷ t) (take_map i l)

  pub drop_map : (i : ℕ) (l : List A) → drop i (map f l) ≡ map f (drop i l)
  drop_map zero l = refl
  drop_map (suc i) [] = refl
  drop_map (suc i) (x ∷ l) = drop_map i l

  pub append_map : (l m : List A) → map f (l ++ m) ≡ map f l ++ map f m
  append_map [] m = refl
  append_map (x ∷ l) m = ap (λ (t : List B). f x ∷ t) (append_map l m)

  pub set_map : (l : List A) (i : ℕ) (x : A) → map f (set l i x) ≡ set (map f l) i (f x)
  set_map [] i x = refl
  set_map (y ∷ l) zero x = refl
  set_map (y ∷ l) (suc i) x = ap (λ (t : List B). f y ∷ t) (set_map l i x)

  pub insert_at_map : (i : ℕ) (x : A) (l : List A) → map f (insert_at i x l) ≡ insert_at i (f x) (map f l)
  insert_at_map i x l = append_map (take i l) (x ∷ drop i l) ∙ (rw (take_map, drop_map))

  pub remove_at_map : (i : ℕ) (l : List A) → map f (remove_at i l) ≡ remove_at i (map f l)
  remove_at_map i l = append_map (take i l) (drop (suc i) l) ∙ (rw (take_map, drop_map))

  -- a read past the end gives the default's image
  pub get_d_map : (l : List A) (i : ℕ) (d : A) → get_or (map f l) i (f d) ≡ f (get_or l i d)
  get_d_map [] i d = refl
  get_d_map (y ∷ l) zero d = refl
  get_d_map (y ∷ l) (suc i) d = get_d_map l i d

module _ {K E : Type 0} (lt : K → K → Bool) (key : E → K) where
  -- how many entries stand before the key
  abbrev pub place : K → List E → ℕ
  place k l = prefix (λ e. lt (key e) k) l

module _ {K E : Type 0} (lt : K → K → Bool) (key : E → K) (O : Order lt) (k : K) where
  -- no entry from the place on, or one with another key: the key is not there
  pub absent_end : (l : List E) → length l ≤ place lt key k l → find lt key k l ≡ none
  unfolding find prefix
  absent_end [] h = refl
  absent_end (e ∷ l) h = split (lt (key e) k) (λ p. rw p (absent_end l (let g = rw p at h in omega arith))) (λ p. absurd (let g = rw p at h in omega arith))

  pub absent : (l : List E) (d : E) → place lt key k l < length l → key (get_or l (place lt key k l) d) ≢ k → find lt key k l ≡ none
  unfolding find prefix
  absent [] d h n = refl
  absent (e ∷ l) d h n =
      split (lt (key e) k)
      (λ p. rw p (absent l d (let g = rw p at h in omega arith) (rw p at n)))
      (λ p. let q = beyond lt O (key e) k p (rw p at n) in rw (p, q))

  pub present : (l : List E) (d : E) → place lt key k l < length l → key (get_or l (place lt key k l) d) ≡ k
      → find lt key k l ≡ some (get_or l (place lt key k l) d)
  unfolding find prefix
  present [] d h e = absurd (omega arith)
  present (x ∷ l) d h e =
      split (lt (key x) k)
      (λ p. rw p (present l d (let g = rw p at h in omega arith) (rw p at e)))
      (λ p. let q : key x ≡ k = rw p at e in rw (q, O.irrefl k))

  -- a key that is there stands at its place
  pub found_place : (l : List E) (x d : E) → find lt key k l ≡ some x → (place lt key k l < length l) × (get_or l (place lt key k l) d ≡ x)
  unfolding find prefix
  found_place [] x d h = let z : ◌≡◌ {A = ℕ} 0 1 = cc in absurd (omega arith)
  found_place (e ∷ l) x d h =
      tri lt O (key e) k
      (λ p q. let r = found_place l x d (cc) in rw p (omega (arith, r.0), r.1))
      (λ f. let i = O.irrefl k in let s : some e ≡ some x = cc in rw (f, i) (omega arith, (cc)))
      (λ p q. let z : none ≡ some x = cc in let y : ◌≡◌ {A = ℕ} 0 1 = cc in absurd (omega arith))

  -- an entry of the key goes in at its place
  pub store_insert : (l : List E) (v : E) → key v ≡ k → find lt key k l ≡ none → store lt key v l ≡ insert_at (place lt key k l) v l
  unfolding find store prefix
  store_insert [] v e h = refl
  store_insert (x ∷ l) v e h =
      tri lt O (key x) k
      (λ p q. rw (e, p) (ap (λ (t : List E). x ∷ t) (store_insert l v e (cc))))
      (λ f. let i = O.irrefl k in let z : some x ≡ none = cc in let y : ◌≡◌ {A = ℕ} 0 1 = cc in absurd (omega arith))
      (λ p q. rw (e, p, q))

  -- or takes the place of the one that is there
  pub store_replace : (l : List E) (v x : E) → key v ≡ k → find lt key k l ≡ some x → store lt key v l ≡ set l (place lt key k l) v
  unfolding find store prefix
  store_replace [] v x e h = let z : ◌≡◌ {A = ℕ} 0 1 = cc in absurd (omega arith)
  store_replace (y ∷ l) v x e h =
      tri lt O (key y) k
      (λ p q. rw (e, p) (ap (λ (t : List E). y ∷ t) (store_replace l v x e (cc))))
      (λ f. rw (e, f, O.irrefl k))
      (λ p q. let z : none ≡ some x = cc in let w : ◌≡◌ {A = ℕ} 0 1 = cc in absurd (omega arith))

  pub remove_place : (l : List E) (x : E) → find lt key k l ≡ some x → remove lt key k l ≡ remove_at (place lt key k l) l
  unfolding find remove prefix
  remove_place [] x h = refl
  remove_place (y ∷ l) x h =
      tri lt O (key y) k
      (λ p q. rw p (ap (λ (t : List E). y ∷ t) (remove_place l x (cc))))
      (λ f. rw (f, O.irrefl k))
      (λ p q. let z : none ≡ some x = cc in let w : ◌≡◌ {A = ℕ} 0 1 = cc in absurd (omega arith))
