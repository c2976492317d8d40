-- The place of a key in an ascending table, by halving: each entry that is looked at tells on which side of it the place lies.
-- Assumes nothing.
use Rattle.std.specs.Prelude.{◌≡◌, Bool, true, false, length, get_or}
use mathlib.Core.List.{List, [], ◌∷◌}
use Prim.Native.Nat.{ℕ, zero, suc, ◌≤◌, ◌<◌}
use Rattle.std.proofs.Common.{arith}
use Rattle.laws.specs.Cases.{split}
use Rattle.laws.specs.Order.{Order}
use Rattle.laws.specs.Table.{Under, Ascending}
use Rattle.laws.specs.Place.{prefix, place}

module _ {K E : Type 0} (lt : K → K → Bool) (key : E → K) where
  -- an entry of a list above j
  pub under_at : (j : K) (l : List E) (m : ℕ) (d : E) → Under lt key j l → m < length l → lt j (key (get_or l m d)) ≡ true
  under_at j [] m d u h = absurd (omega arith)
  under_at j (x ∷ l) zero d u h = u.0
  under_at j (x ∷ l) (suc m) d u h = under_at j l m d u.1 (omega arith)

  module _ (k : K) where
    -- an entry before the key, and with it all in front of it: the place is behind
    pub place_behind : Order lt → (l : List E) (m : ℕ) (d : E) → Ascending lt key l → m < length l → lt (key (get_or l m d)) k ≡ true → m < place lt key k l
    unfolding prefix
    place_behind O [] m d a h e = absurd (omega arith)
    place_behind O (x ∷ l) zero d a h e = rw e (omega arith)
    place_behind O (x ∷ l) (suc m) d a h e =
        let f = O.trans (key x) (key (get_or l m d)) k (under_at (key x) l m d a.0 (omega arith)) e in
        rw f (omega (arith, place_behind O l m d a.1 (omega arith) e))

    -- one that is not before the key: the place is there or in front, in order or not
    pub place_front : (l : List E) (m : ℕ) (d : E) → m < length l → lt (key (get_or l m d)) k ≡ false → place lt key k l ≤ m
    unfolding prefix
    place_front [] m d h e = absurd (omega arith)
    place_front (x ∷ l) zero d h e = rw e (omega arith)
    place_front (x ∷ l) (suc m) d h e = split (lt (key x) k) (λ f. rw f (omega (arith, place_front l m d (omega arith) e))) (λ f. rw f (omega arith))
