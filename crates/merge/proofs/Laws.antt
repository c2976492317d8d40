-- Laws of merging: what merging by highest value keeps, and that packets of one reading may be merged in either order.
-- Assumes nothing.
use Rattle.std.specs.Prelude.{◌≡◌, ◌⊎◌, Bool, true, false, ◌||◌, List, [], ◌∷◌, ltb, length}
use Rattle.std.proofs.Math.Path.{refl, sym}
use Rattle.std.proofs.Common.{◌∙◌, inl, inr}
use Rattle.std.proofs.Math.Option.{some}
use Rattle.std.proofs.Math.Bool.{or_comm}
use Prim.Native.Nat.{ℕ, ◌≤◌, max}
use native.Mathlib.Omega.{arith}
use Rattle.std.proofs.Math.Nat.{max_comm}
use borrow.Author.Tests.{eq-eqb}
use Rattle.laws.specs.Cases.{split}
use Rattle.laws.specs.Order.{ℕOrder, tri, asym}
use Rattle.merge.specs.Merge.{Dmx, same_start, mergeable, highest, blended, joined, htp_merge, preferred, most_values}
use Rattle.merge.specs.Laws.{Like, Paired}

-- ── the larger value at each place ──
pub highest_comm : (xs ys : List ℕ) → highest xs ys ≡ highest ys xs
unfolding highest
highest_comm [] [] = refl
highest_comm [] (y ∷ ys) = refl
highest_comm (x ∷ xs) [] = refl
highest_comm (x ∷ xs) (y ∷ ys) = cc (highest_comm xs ys, max_comm x y)

pub highest_swap : (xs ys zs : List ℕ) → highest (highest xs ys) zs ≡ highest (highest xs zs) ys
unfolding highest
highest_swap [] ys zs = highest_comm ys zs
highest_swap (x ∷ xs) [] [] = refl
highest_swap (x ∷ xs) [] (z ∷ zs) = refl
highest_swap (x ∷ xs) (y ∷ ys) [] = refl
highest_swap (x ∷ xs) (y ∷ ys) (z ∷ zs) =
    let h : max (max x y) z ≡ max (max x z) y = omega arith in
    let r = highest_swap xs ys zs in cc

-- as long as the longer list
pub length_highest : (xs ys : List ℕ) → length (highest xs ys) ≡ max (length xs) (length ys)
unfolding highest
length_highest [] ys = omega arith
length_highest (x ∷ xs) [] = omega arith
length_highest (x ∷ xs) (y ∷ ys) = let r = length_highest xs ys in omega arith

-- ── two data of equal priority ──
blended_comm : (p q : Dmx) → p.head.universe ≡ q.head.universe → p.head.sync_uni ≡ q.head.sync_uni
    → p.head.priority ≡ q.head.priority → p.head.recv_timestamp ≡ q.head.recv_timestamp → blended p q ≡ blended q p
unfolding blended
blended_comm p q u a o r = cc (highest_comm p.values q.values, or_comm p.head.preview q.head.preview)

or_swap : (a b c : Bool) → (a || b || c) ≡ (a || c || b)
or_swap true b c = refl
or_swap false b c = or_comm b c

blended_swap : (e p q : Dmx) → blended (blended e p) q ≡ blended (blended e q) p
unfolding blended
blended_swap e p q = cc (highest_swap e.values p.values q.values, or_swap e.head.preview p.head.preview q.head.preview)

pub joined_comm : (p q : Dmx) → Paired p q → joined p q ≡ joined q p
unfolding joined
joined_comm p q s =
    tri ltb ℕOrder p.head.priority q.head.priority
    (λ f g. cc)
    (λ h.
    let m = blended_comm p q s.one_universe s.one_address h s.one_reading in
    let i = ℕOrder.irrefl p.head.priority in
    cc)
    (λ f g. cc)

pub joined_swap : (e p q : Dmx) → Paired p q → joined (joined e p) q ≡ joined (joined e q) p
unfolding joined blended
joined_swap e p q s =
    let i = ℕOrder.irrefl e.head.priority in
    tri ltb ℕOrder e.head.priority p.head.priority
    (λ f g. tri ltb ℕOrder e.head.priority q.head.priority
    (λ f' g'. let c = joined_comm p q s in cc)
    (λ h. cc)
    (λ f' g'.
    let t = ℕOrder.trans q.head.priority e.head.priority p.head.priority g' f in
    let n = asym ltb ℕOrder q.head.priority p.head.priority t in
    cc))
    (λ h. tri ltb ℕOrder e.head.priority q.head.priority
    (λ f' g'. cc)
    (λ h'. let m = blended_swap e p q in cc)
    (λ f' g'. cc))
    (λ f g. tri ltb ℕOrder e.head.priority q.head.priority
    (λ f' g'.
    let t = ℕOrder.trans p.head.priority e.head.priority q.head.priority g f' in
    let n = asym ltb ℕOrder p.head.priority q.head.priority t in
    cc)
    (λ h'. cc)
    (λ f' g'. cc))

-- ── what a merge keeps ──
-- by cases on whose fields the merged data has
pub joined_cases {ℓ} : (C : Dmx → Type ℓ) (e p : Dmx) → C e → C p → C (blended e p) → C (joined e p)
unfolding joined
joined_cases C e p x y z =
    split (ltb p.head.priority e.head.priority)
    (λ h. rw h x)
    (λ h. split (ltb e.head.priority p.head.priority) (λ g. rw (h, g) y) (λ g. rw (h, g) z))

-- the merged data has one of the two readings
pub joined_reading : (e p : Dmx)
    → ((joined e p).head.recv_timestamp ≡ e.head.recv_timestamp) ⊎ ((joined e p).head.recv_timestamp ≡ p.head.recv_timestamp)
unfolding blended
joined_reading e p =
    joined_cases (λ d. (d.head.recv_timestamp ≡ e.head.recv_timestamp) ⊎ (d.head.recv_timestamp ≡ p.head.recv_timestamp)) e p
    (inl refl) (inr refl) (inl refl)

-- so that a test of the reading that both pass is passed
pub joined_passes : (t : ℕ → Bool) (e p : Dmx) → t e.head.recv_timestamp ≡ true → t p.head.recv_timestamp ≡ true
    → t (joined e p).head.recv_timestamp ≡ true
unfolding blended
joined_passes t e p x y = joined_cases (λ d. t d.head.recv_timestamp ≡ true) e p x y x

pub joined_universe : (e p : Dmx) → e.head.universe ≡ p.head.universe → (joined e p).head.universe ≡ e.head.universe
unfolding blended
joined_universe e p h = joined_cases (λ d. d.head.universe ≡ e.head.universe) e p refl (sym h) refl

pub joined_address : (e p : Dmx) → e.head.sync_uni ≡ p.head.sync_uni → (joined e p).head.sync_uni ≡ e.head.sync_uni
unfolding blended
joined_address e p h = joined_cases (λ d. d.head.sync_uni ≡ e.head.sync_uni) e p refl (sym h) refl

pub joined_fits : (e p : Dmx) → length e.values ≤ most_values → length p.values ≤ most_values → length (joined e p).values ≤ most_values
unfolding blended
joined_fits e p x y =
    joined_cases (λ d. length d.values ≤ most_values) e p x y (omega (arith, length_highest e.values p.values))

-- the choice by priority hands on one of the two
pub preferred_cases {ℓ} : (C : Dmx → Type ℓ) (e p : Dmx) → C e → C p → C (preferred e p)
unfolding preferred
preferred_cases C e p x y = split (ltb p.head.priority e.head.priority) (λ h. rw h x) (λ h. rw h y)

module _ (u a f : ℕ) where
  -- they merge
  pub htp_merge_like : (e p : Dmx) → Like u a f e → Like u a f p → htp_merge e p ≡ some (joined e p)
  unfolding htp_merge mergeable same_start
  htp_merge_like e p x y =
      let h = eq-eqb e.head.universe p.head.universe (x.of_universe ∙ sym y.of_universe) in
      let i = eq-eqb e.head.sync_uni p.head.sync_uni (x.of_address ∙ sym y.of_address) in
      let j = eq-eqb f f refl in
      let v = x.of_values in
      let w = y.of_values in
      cc

  -- and stay alike
  pub joined_like : (e p : Dmx) → Like u a f e → Like u a f p → Like u a f (joined e p)
  unfolding blended highest
  joined_like e p x y =
      joined_cases (λ d. Like u a f d) e p x y (record {
        of_universe = x.of_universe;
        of_address = x.of_address;
        others = highest x.others y.others;
        of_values = let m : max f f ≡ f = omega arith in let v = x.of_values in let w = y.of_values in cc;
      })

  -- two of one reading, in either order: onto what is there, and onto each other
  pub like_paired : (p q : Dmx) → Like u a f p → Like u a f q → p.head.recv_timestamp ≡ q.head.recv_timestamp → Paired p q
  like_paired p q x y r = record {
    one_universe = x.of_universe ∙ sym y.of_universe;
    one_address = x.of_address ∙ sym y.of_address;
    one_reading = r;
  }
