-- A part of the pool moved up or down at once, and the turns of loops: elements moved up from the end, and a pass that keeps what passes a test.
-- Assumes nothing.
use Rattle.std.specs.Prelude.{◌≡◌, Bool, true, false, cond, ℕ, ◌+◌, ◌-◌, ◌≤◌, ◌<◌, length, take, drop, get_or, set}
use Rattle.std.specs.List.{copy_within}
use Rattle.std.proofs.Math.Seq.{paste}
use Rattle.std.proofs.lemmas.List.{take-append-le, drop-take}
use Rattle.std.proofs.Common.{sym, ap, ◌∙◌, arith, add-one, drop_at, length-take-le, length-drop, length-set, take-take, take-suc, drop-drop, get_or-drop, get_or-take, get_or-set_same}
use mathlib.Core.List.{List, [], ◌∷◌, ◌++◌, append-nil}
use Rattle.laws.specs.Cases.{split}
use Rattle.laws.specs.Table.{keep}
use Rattle.laws.specs.Arrays.{next, untouched}
use Rattle.laws.specs.Parts.{pasted, paste_part, length_pasted, take_pasted, drop_pasted}

module _ {A : Type 0} where
  pub dropped_both : (r k : ℕ) (a b : List A) → drop r a ≡ drop r b → drop (r + k) a ≡ drop (r + k) b
  dropped_both r k a b e = sym (drop-drop k r a) ∙ ap (drop k) e ∙ drop-drop k r b

  pub dropped_past : (r k : ℕ) (a b : List A) → r ≤ k → drop r a ≡ drop r b → drop k a ≡ drop k b
  dropped_past r k a b h e = let z : r + (k - r) ≡ k = omega arith in rw z at (dropped_both r (k - r) a b e)

  -- one more of a part
  pub part_more : (b : List A) (from i : ℕ) (d : A) → from + i < length b → take (i + 1) (drop from b) ≡ take i (drop from b) ++ get_or b (from + i) d ∷ []
  part_more b from i d h =
      rw (add-one, ← (get_or-drop from b i d)) (take-suc (drop from b) i d (omega (arith, length-drop from b)))

  -- with less taken, lists still agree
  pub take_less : (a b : List A) (i j : ℕ) → j ≤ i → take i a ≡ take i b → take j a ≡ take j b
  take_less a b i j h e = sym (take-take j i a h) ∙ ap (take j) e ∙ take-take j i b h

  pub keep_more : (p : A → Bool) (l : List A) (x : A) → keep p (l ++ x ∷ []) ≡ keep p l ++ cond (p x) (x ∷ []) []
  unfolding keep
  keep_more p [] x = split (p x) (λ h. rw h) (λ h. rw h)
  keep_more p (y ∷ l) x = let r = keep_more p l x in split (p y) (λ h. rw h (ap (λ (t : List A). y ∷ t) r)) (λ h. rw h r)

  -- one element moved up by n, those behind it moved already
  pub moved_up : (a b : List A) (used n i : ℕ) (d : A) → i < used → used + n ≤ length a → used ≤ length b → take (i + 1) a ≡ take (i + 1) b
      → drop (i + 1 + n) (take (used + n) a) ≡ drop (i + 1) (take used b)
      → drop (i + n) (take (used + n) (set a (i + n) (get_or a i d))) ≡ drop i (take used b)
  moved_up a b used n i d h l m e f =
      let x : get_or a i d ≡ get_or b i d =
      sym (get_or-take (i + 1) a i d (omega arith)) ∙ ap (λ (t : List A). get_or t i d) e ∙ get_or-take (i + 1) b i d (omega arith) in
      let s = set a (i + n) (get_or a i d) in
      let k : i + n < length s = omega (arith, length-set a (i + n) (get_or a i d)) in
      let y : get_or s (i + n) d ≡ get_or a i d = get_or-set_same a (i + n) (get_or a i d) d (omega arith) in
      let z : i + n + 1 ≡ i + 1 + n = omega arith in
      next s (used + n) (i + n) d (omega arith) k
      ∙ ap (λ (v : A). v ∷ drop (i + n + 1) (take (used + n) s)) (y ∙ x)
      ∙ ap (λ (t : List A). get_or b i d ∷ t) (untouched a (used + n) (i + n) (i + n + 1) (get_or a i d) (omega arith) ∙ ap (λ (q : ℕ). drop q (take (used + n) a)) z ∙ f)
      ∙ sym (next b used i d h (omega arith))

  -- a pass that keeps what passes the test: one more is kept, or passed over
  module _ (p : A → Bool) (b : List A) (from i : ℕ) (d : A) (h : from + i < length b) where
    pub kept_more : p (get_or b (from + i) d) ≡ true → keep p (take (i + 1) (drop from b)) ≡ keep p (take i (drop from b)) ++ get_or b (from + i) d ∷ []
    kept_more e = rw (part_more b from i d h, keep_more p (take i (drop from b)) (get_or b (from + i) d), e)

    pub kept_passed : p (get_or b (from + i) d) ≡ false → keep p (take (i + 1) (drop from b)) ≡ keep p (take i (drop from b))
    kept_passed e = rw (part_more b from i d h, keep_more p (take i (drop from b)) (get_or b (from + i) d), e) (append-nil (keep p (take i (drop from b))))

-- those from place at to the first `used` moved up by n
pub lifted : {A : Type 0} (l m : List A) (used at n : ℕ) → m ≡ copy_within l at used (at + n) → at ≤ used → used + n ≤ length l
    → (length m ≡ length l) × (take at m ≡ take at l) × (drop (at + n) (take (used + n) m) ≡ drop at (take used l)) × (drop (used + n) m ≡ drop (used + n) l)
lifted l m used at n e h k =
    let xs = take (used - at) (drop at l) in
    let s : length xs ≡ used - at = length-take-le (used - at) (drop at l) (omega (arith, length-drop at l)) in
    let p : m ≡ pasted l (at + n) xs = e ∙ paste_part l (at + n) (drop at l) (used - at) (omega arith) (omega (arith, length-drop at l)) in
    let z : at + n + length xs ≡ used + n = omega (arith, s) in
    let y : at + (used - at) ≡ used = omega arith in
    let t : take (used + n) m ≡ take (at + n) l ++ xs = rw p (ap (λ (q : ℕ). take q (pasted l (at + n) xs)) (sym z) ∙ take_pasted l (at + n) xs (omega arith)) in
    let f : length (take (at + n) l) ≡ at + n = length-take-le (at + n) l (omega arith) in (
      rw p (length_pasted l (at + n) xs (omega (arith, s))),
      sym (take-take at (used + n) m (omega arith)) ∙ ap (take at) t ∙ take-append-le at (take (at + n) l) xs (omega (arith, f)) ∙ take-take at (at + n) l (omega arith),
      ap (drop (at + n)) t ∙ drop_at (take (at + n) l) xs (at + n) f ∙ sym (rw y at (drop-take at (used - at) l)),
      rw p (drop_pasted l (at + n) xs (omega arith) (used + n) (omega (arith, s))),
    )

-- n from place from moved down to place to
pub lowered : {A : Type 0} (l m : List A) (to from n : ℕ) → m ≡ copy_within l from (from + n) to → to ≤ from → from + n ≤ length l
    → (length m ≡ length l) × (take (to + n) m ≡ take to l ++ take n (drop from l)) × (drop (from + n) m ≡ drop (from + n) l)
lowered l m to from n e h k =
    let xs = take n (drop from l) in
    let s : length xs ≡ n = length-take-le n (drop from l) (omega (arith, length-drop from l)) in
    let z : from + n - from ≡ n = omega arith in
    let p : m ≡ pasted l to xs = e ∙ ap (λ (q : ℕ). paste l to (drop from l) q) z ∙ paste_part l to (drop from l) n (omega arith) (omega (arith, length-drop from l)) in (
      rw p (length_pasted l to xs (omega (arith, s))),
      rw p (ap (λ (q : ℕ). take (to + q) (pasted l to xs)) (sym s) ∙ take_pasted l to xs (omega arith)),
      rw p (drop_pasted l to xs (omega arith) (from + n) (omega (arith, s))),
    )
