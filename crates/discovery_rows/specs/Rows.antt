-- The lent rows. A source's: mark, CID high and low, last page, reading, name length, with its name beside it.
-- A page's: its owner's mark, CID high and low, then its number and how many universes it has.
-- Universes lie in one pool in the order of the page rows: a page's begin where those of the rows before it end.
-- Assumes nothing.
use Rattle.std.specs.Prelude.{◌≡◌, Bool, true, false, cond, ◌&&◌, ltb, eqb, length, take, drop, get_or}
use Rattle.std.proofs.Math.Path.{refl}
use mathlib.Core.List.{List, [], ◌∷◌, ◌++◌, map}
use Prim.Native.Nat.{ℕ, zero, suc, ◌+◌, ◌-◌, ◌≤◌, ◌<◌}
use Rattle.std.proofs.Common.{ltb-true, ltb-false, arith, add-one, take-suc}
use Rattle.laws.specs.Cases.{split}
use Rattle.laws.specs.Place.{append_map}
use Rattle.laws.specs.Arrays.{next}
use Rattle.rules.specs.declared.Cid.{Cid}
use Rattle.rules.specs.Age.{aged}
use Rattle.discovery.specs.Discovery.{most_universes}
use Rattle.discovery_rows.specs.Store.{Head, Leaf, owner}

abbrev pub cid_at : List ℕ → Cid
cid_at r = record { hi = get_or r 1 0; lo = get_or r 2 0 }

-- the row has this owner
abbrev pub owned : ℕ → Cid → List ℕ → Bool
owned m c r = owner m c (get_or r 0 0) (cid_at r)

abbrev pub head_of : List ℕ → List ℕ → Head
head_of r n = record { mark = get_or r 0 0; cid = cid_at r; name = take (get_or r 5 0) n; last_page = get_or r 3 0; reading = get_or r 4 0 }

-- how many universes a page row has
abbrev pub amount : List ℕ → ℕ
amount r = get_or r 4 0

abbrev pub leaf_at : List ℕ → List ℕ → Leaf
leaf_at r us = record { mark = get_or r 0 0; cid = cid_at r; page = record { number = get_or r 3 0; universes = take (amount r) us } }

unfoldable pub heads : List (List ℕ) → List (List ℕ) → List Head
heads [] ns = []
heads (r ∷ rs) ns = head_of r (get_or ns 0 []) ∷ heads rs (drop 1 ns)

unfoldable pub leaves : List (List ℕ) → List ℕ → List Leaf
leaves [] us = []
leaves (r ∷ rs) us = leaf_at r us ∷ leaves rs (drop (amount r) us)

-- how many universes the page rows have
unfoldable pub total : List (List ℕ) → ℕ
total [] = 0
total (r ∷ rs) = amount r + total rs

-- each page has at most 512
abbrev pub Few : List (List ℕ) → Type 0
Few [] = Unit {0}
Few (r ∷ rs) = (amount r ≤ most_universes) × Few rs

-- the owner's partial page rows with a larger number
abbrev pub larger : Cid → ℕ → List ℕ → Bool
larger c n r = owned 0 c r && ltb n (get_or r 3 0)

-- the partial page rows of a CID hold the numbers from i on, n of them: `numbered` on rows
unfoldable pub in_turn : Cid → ℕ → ℕ → List (List ℕ) → Bool
in_turn c i zero rs = true
in_turn c i (suc n) [] = false
in_turn c i (suc n) (r ∷ rs) = cond (owned 0 c r) (eqb (get_or r 3 0) i && in_turn c (i + 1) n rs) (in_turn c i (suc n) rs)

-- a page row turned from partial to listed
abbrev pub turned_row : Cid → List ℕ → List ℕ
turned_row c r = cond (owned 0 c r) (1 ∷ get_or r 1 0 ∷ get_or r 2 0 ∷ get_or r 3 0 ∷ get_or r 4 0 ∷ []) r

-- a source's row turned from partial to listed
abbrev pub listed_row : List ℕ → List ℕ
listed_row r = 1 ∷ get_or r 1 0 ∷ get_or r 2 0 ∷ get_or r 3 0 ∷ get_or r 4 0 ∷ get_or r 5 0 ∷ []

-- a source's row of this age
abbrev pub old_row : ℕ → ℕ → List ℕ → Bool
old_row time now r = aged time now (get_or r 4 0)

-- ── rows, one more at a time ──
pub total_append : (rs ss : List (List ℕ)) → total (rs ++ ss) ≡ total rs + total ss
unfolding total
total_append [] ss = omega arith
total_append (r ∷ rs) ss = omega (arith, total_append rs ss)

pub taken_more : {A : Type 0} (a : List A) (i : ℕ) (d : A) → i < length a → take (i + 1) a ≡ take i a ++ get_or a i d ∷ []
taken_more a i d h = rw add-one (take-suc a i d h)

pub total_more : (a : List (List ℕ)) (i : ℕ) → i < length a → total (take (i + 1) a) ≡ total (take i a) + amount (get_or a i [])
unfolding total
total_more a i h = rw (taken_more a i [] h) (omega (arith, total_append (take i a) (get_or a i [] ∷ [])))

pub few_at : (a : List (List ℕ)) (n i : ℕ) → Few (take n a) → i < n → i < length a → amount (get_or a i []) ≤ most_universes
few_at [] n i f h l = absurd (omega arith)
few_at (r ∷ a) zero i f h l = absurd (omega arith)
few_at (r ∷ a) (suc n) zero f h l = f.0
few_at (r ∷ a) (suc n) (suc i) f h l = few_at a n i f.1 (omega arith) (omega arith)

pub map_more : {A B : Type 0} (f : A → B) (a : List A) (i : ℕ) (d : A) → i < length a → map f (take (i + 1) a) ≡ map f (take i a) ++ f (get_or a i d) ∷ []
map_more f a i d h = rw (taken_more a i d h) (append_map f (take i a) (get_or a i d ∷ []))

-- ── the next row looked at ──
module _ (c : Cid) (a : List (List ℕ)) (n r : ℕ) (h : r < n) (l : r < length a) where
  pub in_turn_skip : (k m : ℕ) → owned 0 c (get_or a r []) ≡ false → in_turn c k m (drop (r + 1) (take n a)) ≡ in_turn c k m (drop r (take n a))
  unfolding in_turn
  in_turn_skip k zero e = refl
  in_turn_skip k (suc m) e = rw (next a n r [] h l, e)

  pub in_turn_row : (k m : ℕ) → owned 0 c (get_or a r []) ≡ true → eqb (get_or (get_or a r []) 3 0) k ≡ true
      → in_turn c (k + 1) m (drop (r + 1) (take n a)) ≡ in_turn c k (suc m) (drop r (take n a))
  unfolding in_turn
  in_turn_row k m e f = rw (next a n r [] h l, e, f)

  pub in_turn_miss : (k m : ℕ) → owned 0 c (get_or a r []) ≡ true → eqb (get_or (get_or a r []) 3 0) k ≡ false → in_turn c k (suc m) (drop r (take n a)) ≡ false
  unfolding in_turn
  in_turn_miss k m e f = rw (next a n r [] h l, e, f)

-- all places are tested
pub in_turn_done : (c : Cid) (k m : ℕ) (rs : List (List ℕ)) → m ≡ 0 → in_turn c k m rs ≡ true
unfolding in_turn
in_turn_done c k m rs e = rw e

-- no row is left: they are, if none is to be tested
pub in_turn_none : (c : Cid) (k last : ℕ) → in_turn c k (suc last - k) [] ≡ ltb last k
unfolding in_turn
in_turn_none c k last =
    split (ltb last k)
    (λ h. let e : suc last - k ≡ 0 = omega (arith, ltb-true last k h) in rw (e, h))
    (λ h. let e : suc last - k ≡ suc (last - k) = omega (arith, ltb-false last k h) in rw (e, h))

-- too few rows: some place is not held
pub in_turn_few : (c : Cid) (k m : ℕ) (rs : List (List ℕ)) → length rs < m → in_turn c k m rs ≡ false
unfolding in_turn
in_turn_few c k zero rs h = absurd (omega arith)
in_turn_few c k (suc m) [] h = refl
in_turn_few c k (suc m) (r ∷ rs) h =
    split (owned 0 c r)
    (λ e. let t = in_turn_few c (k + 1) m rs (omega arith) in split (eqb (get_or r 3 0) k) (λ f. rw (e, f, t)) (λ f. rw (e, f)))
    (λ e. rw e (in_turn_few c k (suc m) rs (omega arith)))
