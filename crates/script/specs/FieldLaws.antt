-- Laws of the fields: what one turn of a loop over a field's bytes leaves unchanged, and how it ends.
-- Assumes nothing.
use Rattle.std.specs.Prelude.{◌≡◌, refl, Option, Some, None, Bool, false, ℕ, suc, ◌+◌, ◌*◌, ◌-◌, ◌/◌, ◌%◌, ◌≤◌, ◌<◌, ltb, leb, eqb, take, drop, get_or, set}
use Rattle.std.proofs.Math.Path.{sym, ap}
use Rattle.std.proofs.Common.{subst, ◌∙◌, add-one, length-drop, drop-cons, take-suc-set, length-take-le, take_all}
use Rattle.std.specs.Prelude.{Result}
use Rattle.std.specs.Result.{OkIff, result_ok}
use Rattle.std.proofs.lemmas.Result.{Ok-from_Ok_iff}
use mathlib.Core.List.{List, [], ◌∷◌, ◌++◌}
use native.Mathlib.Omega.{arith}
use Rattle.std.proofs.Math.ListN.{length, drop_of_length-le}
use borrow.Author.Tests.{leb-true, ltb-true, ltb-false, lt-ltb, le-ltb}
use Rattle.laws.specs.Cases.{split as by_test}
use Rattle.script.specs.Fields.{ending, digit, within, with_digit, onward, spelt, number_of, lowered, two_digits, added, paired, hex_of, onto, split, listed, numbers, fitting, small_of, Decoded}

-- the next byte
pub next : {A : Type 0} (s : List A) (i : ℕ) (d : A) → i < length s → drop i s ≡ get_or s i d ∷ drop (i + 1) s
next s i d h = rw (add-one i) (drop-cons s i d h)

-- ── up to a mark ──
-- what a part of a slice from a place on holds
pub rest_of_lem : {A : Type 0} (s : List A) (at : ℕ) → take (length s - at) (drop at s) ≡ drop at s
rest_of_lem s at = take_all (length s - at) (drop at s) (omega (arith, length-drop at s))

-- what stands behind the mark
pub rest_behind : (mark : ℕ) (s : List ℕ) (e : ℕ) → e ≡ ending mark s → take (length s - (e + 1)) (drop (e + 1) s) ≡ drop (suc (ending mark s)) s
rest_behind mark s e h = rest_of_lem s (e + 1) ∙ ap (λ (i : ℕ). drop i s) (add-one e ∙ ap suc h)

-- ── decimal numbers ──
pub spelt_bad : (most : ℕ) (s : List ℕ) → spelt most None s ≡ None
unfolding spelt
spelt_bad most [] = refl
spelt_bad most (b ∷ s) = spelt_bad most s

-- the number is within the limit
abbrev pub Within : ℕ → Option ℕ → Type 0
Within most (Some n) = n ≤ most
Within most None = Unit {0}

within_limit : (most n : ℕ) → Within most (within most n)
within_limit most n = by_test (leb n most) (λ h. rw h (leb-true n most h)) (λ h. rw h tt)

onward_limit : (most : ℕ) (n : Option ℕ) (b : ℕ) → Within most (onward most n b)
onward_limit most (Some n) b =
    by_test (digit b) (λ h. rw h (within_limit most (n * 10 + (b - 48)))) (λ h. rw h tt)
onward_limit most None b = tt

spelt_limit : (most : ℕ) (n : Option ℕ) (s : List ℕ) → Within most n → Within most (spelt most n s)
unfolding spelt
spelt_limit most n [] h = h
spelt_limit most n (b ∷ s) h = spelt_limit most (onward most n b) s (onward_limit most n b)

pub number_limit : (most : ℕ) (s : List ℕ) → Within most (number_of most s)
number_limit most [] = tt
number_limit most (b ∷ s) = spelt_limit most (Some 0) (b ∷ s) (omega arith)

-- so it fits what it is narrowed to
pub narrowed : {E : Type 0} {o r : Option ℕ} (t : Result ℕ E) (most room n : ℕ) (s : List ℕ) → o ≡ number_of most s → o ≡ Some n → most < room → OkIff t (n < room) n → r ≡ result_ok t → r ≡ number_of most s
narrowed {E} {o} {r} t most room n s e f h g k =
    let w : n ≤ most = subst (Within most) (sym e ∙ f) (number_limit most s) in
    k ∙ ap result_ok (Ok-from_Ok_iff t (n < room) n g (omega arith)) ∙ sym f ∙ e

module _ (most : ℕ) (s : List ℕ) (i : ℕ) where
  pub spelt_next : (n : ℕ) → i < length s → spelt most (Some n) (drop i s) ≡ spelt most (with_digit most n (get_or s i 0)) (drop (i + 1) s)
  unfolding spelt
  spelt_next n h = rw (next s i 0 h)

  pub spelt_ends : (n : Option ℕ) → length s ≤ i → spelt most n (drop i s) ≡ n
  unfolding spelt
  spelt_ends n h = rw (drop_of_length-le s {i = i} h)

-- ── hexadecimal digits ──
pub paired_none : (caps : Bool) (s : List ℕ) → paired caps None s ≡ None
unfolding paired
paired_none caps [] = refl
paired_none caps (a ∷ []) = refl
paired_none caps (a ∷ b ∷ s) = paired_none caps s

-- a digit that is left over
pub paired_odd : (caps : Bool) (o : Option (List ℕ)) (s : List ℕ) → (length s % 2 ≡ 0 → ⊥) → paired caps o s ≡ None
unfolding paired
paired_odd caps o [] h = absurd (h refl)
paired_odd caps o (a ∷ []) h = refl
paired_odd caps o (a ∷ b ∷ s) h = paired_odd caps (added o (two_digits (lowered caps a) (lowered caps b))) s (λ e. h (omega arith))

module _ (caps : Bool) (s : List ℕ) (i : ℕ) where
  pub paired_next : (l : List ℕ) → i + 1 < length s
      → paired caps (Some l) (drop i s) ≡ paired caps (added (Some l) (two_digits (lowered caps (get_or s i 0)) (lowered caps (get_or s (i + 1) 0)))) (drop (i + 2) s)
  unfolding paired
  paired_next l h =
      let e : i + 1 + 1 ≡ i + 2 = omega arith in
      rw (next s i 0 (omega arith), next s (i + 1) 0 h, e)

  pub paired_ends : (o : Option (List ℕ)) → length s ≤ i → paired caps o (drop i s) ≡ o
  unfolding paired
  paired_ends o h = rw (drop_of_length-le s {i = i} h)

-- two digits more
pub paired_turn : (caps : Bool) (s : List ℕ) (n : ℕ) (l : List ℕ) {h k : ℕ} {o : Option ℕ} → 2 * n + 1 < length s → o ≡ two_digits h k → h ≡ lowered caps (get_or s (2 * n) 0) → k ≡ lowered caps (get_or s (2 * n + 1) 0)
    → paired caps (Some l) (drop (2 * n) s) ≡ paired caps (added (Some l) o) (drop (2 * (n + 1)) s)
paired_turn caps s n l i e f g =
    let m : 2 * n + 2 ≡ 2 * (n + 1) = omega arith in
    rw (e, f, g, ← m) (paired_next caps s (2 * n) l i)

-- no room, or a digit that is left over
pub hex_short : (caps : Bool) (room : ℕ) (s : List ℕ) → room < length s / 2 → hex_of caps room s ≡ None
hex_short caps room s h = rw (lt-ltb room (length s / 2) h)

pub hex_odd : (caps : Bool) (room : ℕ) (s : List ℕ) → (length s % 2 ≡ 0 → ⊥) → hex_of caps room s ≡ None
hex_odd caps room s h = by_test (ltb room (length s / 2)) (λ e. rw e) (λ e. rw e (paired_odd caps (Some []) s h))

-- there is room: half as many bytes as digits
pub hex_room : (caps : Bool) (room : ℕ) (s : List ℕ) → length s / 2 ≤ room → hex_of caps room s ≡ paired caps (Some []) s
hex_room caps room s h = rw (le-ltb room (length s / 2) h)

-- ── what lies at the front of the lent memory ──
pub decoded_front : (o : Option (List ℕ)) (n : ℕ) (out : List ℕ) → n ≤ length out → o ≡ Some (take n out) → Decoded o (Some n) out
decoded_front o n out h e =
    let k = length-take-le n out h in
    rw e (ap (λ (m : ℕ). Some m) (sym k), ap (λ (m : ℕ). take m out) k)

pub decoded_bad : (o : Option (List ℕ)) (out : List ℕ) → o ≡ None → Decoded o None out
decoded_bad o out e = rw e refl

-- one more at the front
pub front_more : {A : Type 0} (out : List A) (n : ℕ) (x : A) → n < length out → take (n + 1) (set out n x) ≡ take n out ++ x ∷ []
front_more out n x h = rw (add-one n) (take-suc-set out n x h)

-- ── lists ──
pub split_some : (mark : ℕ) (s : List ℕ) → 0 < length (split mark s)
unfolding split
split_some mark [] = omega arith
split_some mark (b ∷ s) =
    by_test (eqb b mark) (λ h. rw h (omega arith)) (λ h. rw h (onto_some (split mark s)))
  where
    onto_some : (fs : List (List ℕ)) → 0 < length (onto b fs)
    onto_some [] = omega arith
    onto_some (f ∷ fs) = omega arith

-- the first field, and what stands behind its mark
ending_goes : (mark b : ℕ) (s : List ℕ) → eqb b mark ≡ false → ending mark (b ∷ s) ≡ suc (ending mark s)
ending_goes mark b s e = rw e (omega arith)

pub split_last : (mark : ℕ) (s : List ℕ) → length s ≤ ending mark s → split mark s ≡ take (ending mark s) s ∷ []
unfolding split
split_last mark [] h = refl
split_last mark (b ∷ s) h =
    by_test (eqb b mark)
    (λ e. absurd (let g = rw e at h in omega arith))
    (λ e.
    let f = ending_goes mark b s e in
    let r = split_last mark s (omega arith) in
    rw (f, e, r))

pub split_more : (mark : ℕ) (s : List ℕ) → ending mark s < length s → split mark s ≡ take (ending mark s) s ∷ split mark (drop (suc (ending mark s)) s)
unfolding split
split_more mark [] h = absurd (omega arith)
split_more mark (b ∷ s) h =
    by_test (eqb b mark)
    (λ e. rw e)
    (λ e.
    let f = ending_goes mark b s e in
    let r = split_more mark s (omega arith) in
    rw (f, e, r))

numbers_none : (fs : List (List ℕ)) → numbers None fs ≡ None
unfolding numbers
numbers_none [] = refl
numbers_none (f ∷ fs) = numbers_none fs

pub fitting_none : (room : ℕ) (fs : List (List ℕ)) → numbers (Some []) fs ≡ None → fitting room fs ≡ None
fitting_none room fs h = by_test (ltb room (length fs)) (λ e. rw e) (λ e. rw e h)

-- one turn: the fields in front of what is left are read, and their numbers lie at the front
pub record Turn (s rest out : List ℕ) (n : ℕ) : Type 0 where
  pub counted : n + length (split 44 rest) ≡ length (split 44 s)
  pub gathered : numbers (Some (take n out)) (split 44 rest) ≡ numbers (Some []) (split 44 s)

module _ (s rest out : List ℕ) (n : ℕ) (t : Turn s rest out n) where
  -- the field in hand as a number, before the fields behind it
  reads : (u : Option ℕ) (fs : List (List ℕ)) → small_of (take (ending 44 rest) rest) ≡ u → split 44 rest ≡ take (ending 44 rest) rest ∷ fs
      → numbers (Some []) (split 44 s) ≡ numbers (listed (Some (take n out)) u) fs
  unfolding numbers
  reads u fs e k =
      sym t.gathered ∙ ap (numbers (Some (take n out))) k ∙ ap (λ (v : Option ℕ). numbers (listed (Some (take n out)) v) fs) e

  -- no room is left
  pub turn_full : length out ≤ n → fitting (length out) (split 44 s) ≡ None
  turn_full h =
      let p = split_some 44 rest in
      let d = t.counted in
      rw (lt-ltb (length out) (length (split 44 s)) (omega arith))

  module _ (e : ℕ) (x : e ≡ ending 44 rest) where
    at_end : {u : Option ℕ} → small_of (take e rest) ≡ u → small_of (take (ending 44 rest) rest) ≡ u
    at_end k = ap (λ (i : ℕ). small_of (take i rest)) (sym x) ∙ k

    -- a field that is no number
    pub turn_bad : (room : ℕ) → small_of (take e rest) ≡ None → fitting room (split 44 s) ≡ None
    turn_bad room k =
        by_test (ltb (ending 44 rest) (length rest))
        (λ h.
        let fs = split 44 (drop (suc (ending 44 rest)) rest) in
        fitting_none room (split 44 s) (reads None fs (at_end k) (split_more 44 rest (ltb-true (ending 44 rest) (length rest) h)) ∙ numbers_none fs))
        (λ h. fitting_none room (split 44 s) (reads None [] (at_end k) (split_last 44 rest (ltb-false (ending 44 rest) (length rest) h)) ∙ numbers_none []))

    -- the last field
    pub turn_last : (u : ℕ) → n < length out → length rest ≤ e → small_of (take e rest) ≡ Some u → fitting (length out) (split 44 s) ≡ Some (take (n + 1) (set out n u))
    unfolding numbers
    turn_last u h l k =
        let j = split_last 44 rest (omega arith) in
        let d : length (split 44 s) ≡ n + 1 = sym t.counted ∙ ap (λ (fs : List (List ℕ)). n + length fs) j in
        let g = reads (Some u) [] (at_end k) j in
        rw (le-ltb (length out) (length (split 44 s)) (omega arith)) (g ∙ ap (λ (l : List ℕ). Some l) (sym (front_more out n u h)))

    -- a field with more behind it
    pub turn_more : (u : ℕ) → n < length out → e < length rest → small_of (take e rest) ≡ Some u → Turn s (take (length rest - (e + 1)) (drop (e + 1) rest)) (set out n u) (n + 1)
    turn_more u h l k =
        let j = split_more 44 rest (omega arith) in
        let r : take (length rest - (e + 1)) (drop (e + 1) rest) ≡ drop (suc (ending 44 rest)) rest = rest_behind 44 rest e x in
        let c : n + suc (length (split 44 (drop (suc (ending 44 rest)) rest))) ≡ length (split 44 s) = sym (ap (λ (fs : List (List ℕ)). n + length fs) j) ∙ t.counted in
        let b = ap (λ (q : List ℕ). length (split 44 q)) r in
        record {
          counted = omega arith;
          gathered = ap (λ (q : List ℕ). numbers (Some (take (n + 1) (set out n u))) (split 44 q)) r ∙ ap (λ (l : List ℕ). numbers (Some l) (split 44 (drop (suc (ending 44 rest)) rest))) (front_more out n u h) ∙ sym (reads (Some u) (split 44 (drop (suc (ending 44 rest)) rest)) (at_end k) j);
        }
