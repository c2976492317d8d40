-- The words of this crate and those of the library say the same.
-- Assumes nothing.
use Rattle.std.specs.Prelude.{◌≡◌, refl, Bool, List, [], ◌∷◌, ◌++◌, ℕ, suc, ◌+◌, ◌-◌, ◌≤◌, ◌<◌, length, take, drop, set, filter, count_by}
use Rattle.std.specs.List.{list_any, prefix_len, copy_within}
use Rattle.std.proofs.Common.{ap, ◌∙◌, arith, add-one, length-append, length-drop, length-take-le, take-take, drop_at}
use Rattle.std.proofs.Math.Seq.{paste, take-set-lt}
use Rattle.std.proofs.lemmas.List.{take-append-le, drop-take, set_split}
use Rattle.std.proofs.lemmas.List.Edits.{take-paste}
use Rattle.std.proofs.lemmas.List.Sums.{length-filter}
use Rattle.laws.specs.Cases.{split}
use Rattle.laws.specs.Table.{keep, any}
use Rattle.laws.specs.Place.{prefix, insert_at, remove_at}

module _ {E : Type 0} (t : E → Bool) where
  pub any_is : (es : List E) → any t es ≡ list_any t es
  unfolding any
  any_is [] = refl
  any_is (e ∷ es) = split (t e) (λ h. rw h refl) (λ h. rw h (any_is es))

  pub keep_is : (es : List E) → keep t es ≡ filter t es
  unfolding keep
  keep_is [] = refl
  keep_is (e ∷ es) = split (t e) (λ h. rw (h, keep_is es) refl) (λ h. rw (h, keep_is es) refl)

  pub prefix_is : (es : List E) → prefix t es ≡ prefix_len t es
  unfolding prefix
  prefix_is [] = refl
  prefix_is (e ∷ es) = split (t e) (λ h. rw (h, prefix_is es) (omega arith)) (λ h. rw h refl)

  pub length_keep_is : (es : List E) → length (keep t es) ≡ count_by t es
  length_keep_is es = ap length (keep_is es) ∙ length-filter t es

module _ {A : Type 0} (l : List A) where
  -- the elements from a place on moved up by one, and one put in there
  pub put_in : (at k : ℕ) (x : A) → at + k < length l → take (at + k + 1) (set (copy_within l at (at + k) (at + 1)) at x) ≡ insert_at at x (take (at + k) l)
  put_in at k x h =
      let e : at + k - at ≤ k = omega arith in
      let f : at + k - at ≡ k = omega arith in
      let n : at + 1 + k ≡ at + k + 1 = omega arith in
      let d : k ≤ length (drop at l) = omega (arith, length-drop at l) in
      let m = paste l (at + 1) (drop at l) k in
      let t : take (at + k + 1) m ≡ take (at + 1) l ++ take k (drop at l) = rw (← n) (take-paste l (at + 1) (drop at l) k (omega arith) d) in
      let a : length (take (at + 1) l) ≡ at + 1 = length-take-le (at + 1) l (omega arith) in
      let i : at < length (take (at + k + 1) m) = rw t (omega (arith, length-append (take (at + 1) l) (take k (drop at l)))) in
      let b : take at (take (at + k + 1) m) ≡ take at l = rw t (take-append-le at (take (at + 1) l) (take k (drop at l)) (omega arith) ∙ take-take at (at + 1) l (omega arith)) in
      let c : drop (suc at) (take (at + k + 1) m) ≡ take k (drop at l) = rw t (drop_at (take (at + 1) l) (take k (drop at l)) (suc at) (omega arith)) in
      rw f (take-set-lt (at + k + 1) m at x (omega arith) ∙ set_split (take (at + k + 1) m) at x i ∙ rw (b, c, take-take at (at + k) l (omega arith), drop-take at k l))

  -- the elements behind a place moved down by one
  pub taken_out : (at k : ℕ) → at + k < length l → take (at + k) (copy_within l (at + 1) (at + k + 1) at) ≡ remove_at at (take (at + k + 1) l)
  taken_out at k h =
      let f : at + k + 1 - (at + 1) ≡ k = omega arith in
      let n : at + k + 1 ≡ suc at + k = omega arith in
      let d : k ≤ length (drop (at + 1) l) = omega (arith, length-drop (at + 1) l) in
      rw f (take-paste l at (drop (at + 1) l) k (omega arith) d ∙ rw (n, take-take at (suc at + k) l (omega arith), drop-take (suc at) k l, add-one at))

-- the same of what a call leaves
pub put_in_of : {A : Type 0} (l m : List A) (n at : ℕ) (x : A) → m ≡ copy_within l at n (at + 1) → n < length l → at ≤ n → take (n + 1) (set m at x) ≡ insert_at at x (take n l)
put_in_of l m n at x e h k =
    let f : at + (n - at) ≡ n = omega arith in
    let p : take (at + (n - at) + 1) (set (copy_within l at (at + (n - at)) (at + 1)) at x) ≡ insert_at at x (take (at + (n - at)) l) = put_in l at (n - at) x (omega arith) in
    rw e (rw f at p)

pub taken_out_of : {A : Type 0} (l m : List A) (n at : ℕ) → m ≡ copy_within l (at + 1) n at → n ≤ length l → at < n → take (n - 1) m ≡ remove_at at (take n l)
taken_out_of l m n at e h k =
    let f : at + (n - (at + 1)) + 1 ≡ n = omega arith in
    let g : at + (n - (at + 1)) ≡ n - 1 = omega arith in
    let p : take (at + (n - (at + 1))) (copy_within l (at + 1) (at + (n - (at + 1)) + 1) at) ≡ remove_at at (take (at + (n - (at + 1)) + 1) l) = taken_out l at (n - (at + 1)) (omega arith) in
    rw (e, g) (rw (f, g) at p)
