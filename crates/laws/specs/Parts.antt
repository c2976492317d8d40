-- A list laid over a part of another, as a copying loop leaves it: what it replaces, and two laid one after the other.
-- Assumes nothing.
use Rattle.std.specs.Prelude.{◌≡◌, ◌⊎◌, List, [], ◌∷◌, ◌++◌, ℕ, ◌+◌, ◌-◌, ◌≤◌, ◌<◌, length, take, drop, get_or, set}
use Rattle.std.proofs.Common.{sym, ap, ◌∙◌, ⊎_elim, append_assoc, arith, add-one, add_assoc, zero-add, add-zero, length-append, length-drop, take-append-drop, take-suc, get_or-take, get_or-drop, get_or-append-add, take_all, take-add, length-take-le, take_at, drop-drop}
use Rattle.std.proofs.Math.ListN.{get_or-append}
use Rattle.std.proofs.Math.Seq.{paste, paste-suc, length_paste_head, take-length, drop-append-add}

-- xs over what stands in l from the place `at` on
abbrev pub pasted : {A : Type 0} → List A → ℕ → List A → List A
pasted l at xs = take at l ++ (xs ++ drop (at + length xs) l)

module _ {A : Type 0} (l : List A) (at : ℕ) where
  -- what a loop that copies element by element ends with
  pub paste_whole : (xs : List A) → paste l at xs (length xs) ≡ pasted l at xs
  paste_whole xs = rw (take-length xs) (append_assoc (take at l) xs (drop (at + length xs) l))

  pub pasted_none : pasted l at [] ≡ l
  pasted_none = rw (add-zero at) (take-append-drop at l)

  pub length_pasted : (xs : List A) → at + length xs ≤ length l → length (pasted l at xs) ≡ length l
  length_pasted xs h =
      omega (arith, length-append (take at l) (xs ++ drop (at + length xs) l), length-append xs (drop (at + length xs) l), length-take-le at l (omega arith), length-drop (at + length xs) l)

  module _ (xs : List A) (h : at ≤ length l) where
    front : length (take at l ++ xs) ≡ at + length xs
    front = omega (arith, length-append (take at l) xs, length-take-le at l h)

    apart : pasted l at xs ≡ (take at l ++ xs) ++ drop (at + length xs) l
    apart = sym (append_assoc (take at l) xs (drop (at + length xs) l))

    -- up to its end
    pub take_pasted : take (at + length xs) (pasted l at xs) ≡ take at l ++ xs
    take_pasted = rw apart (take_at (take at l ++ xs) (drop (at + length xs) l) (at + length xs) front)

    -- what stands after it is unchanged
    pub drop_past : (m : ℕ) → drop (at + length xs + m) (pasted l at xs) ≡ drop (at + length xs + m) l
    drop_past m =
        let e = drop-append-add (take at l ++ xs) (drop (at + length xs) l) m in
        rw apart ((rw front at e) ∙ drop-drop m (at + length xs) l)

    pub drop_pasted : (n : ℕ) → at + length xs ≤ n → drop n (pasted l at xs) ≡ drop n l
    drop_pasted n k =
        let e : n ≡ at + length xs + (n - (at + length xs)) = omega arith in
        rw e (drop_past (n - (at + length xs)))

    -- two laid one after the other are one
    pub pasted_append : (ys : List A) → pasted (pasted l at xs) (at + length xs) ys ≡ pasted l at (xs ++ ys)
    pasted_append ys =
        rw (take_pasted, drop_past (length ys), length-append xs ys, ← add_assoc at (length xs) (length ys), append_assoc xs ys)
        (append_assoc (take at l) xs (ys ++ drop (at + length xs + length ys) l))

-- over the front
pub pasted_front : {A : Type 0} (l xs : List A) → pasted l 0 xs ≡ xs ++ drop (length xs) l
pasted_front l xs = rw (zero-add (length xs))

-- a part that goes to the end
pub part_rest : {A : Type 0} (l : List A) (n : ℕ) → take (length l - n) (drop n l) ≡ drop n l
part_rest l n = take_all (length l - n) (drop n l) (omega (arith, length-drop n l))

-- past the first m elements
pub pasted_shift : {A : Type 0} (l : List A) (m k : ℕ) (xs : List A) → pasted l (m + k) xs ≡ take m l ++ pasted (drop m l) k xs
pasted_shift l m k xs =
    let e : m + k + length xs ≡ m + (k + length xs) = omega arith in
    rw (e, take-add m k l, ← drop-drop (k + length xs) m l) (append_assoc (take m l) (take k (drop m l)) (xs ++ drop (k + length xs) (drop m l)))

-- a copy that is under way leaves the places around it
module _ {A : Type 0} (l : List A) (at : ℕ) (xs : List A) (n : ℕ) (h : at ≤ length l) (k : n ≤ length xs) where
  pub paste_before : (j : ℕ) (z : A) → j < at → get_or (paste l at xs n) j z ≡ get_or l j z
  paste_before j z f =
      let t = length-take-le at l h in
      let e = length_paste_head l at xs n h k in
      get_or-append (take at l ++ take n xs) (drop (at + n) l) z j (omega arith)
      ∙ get_or-append (take at l) (take n xs) z j (omega arith)
      ∙ get_or-take at l j z f

  pub paste_after : (j : ℕ) (z : A) → at + n ≤ j → get_or (paste l at xs n) j z ≡ get_or l j z
  paste_after j z f =
      let e = length_paste_head l at xs n h k in
      let i : length (take at l ++ take n xs) + (j - (at + n)) ≡ j = omega arith in
      let m : at + n + (j - (at + n)) ≡ j = omega arith in
      let g = get_or-append-add (take at l ++ take n xs) (drop (at + n) l) (j - (at + n)) z in
      (rw i at g) ∙ get_or-drop (at + n) l (j - (at + n)) z ∙ ap (λ (q : ℕ). get_or l q z) m

  pub paste_part : paste l at xs n ≡ pasted l at (take n xs)
  paste_part =
      let t : length (take n xs) ≡ n = length-take-le n xs k in
      append_assoc (take at l) (take n xs) (drop (at + n) l) ∙ ap (λ (q : ℕ). take at l ++ (take n xs ++ drop (at + q) l)) (sym t)

-- a turn of a copy within one list, from one place to another apart from it
pub copy_turn : {A : Type 0} (l m : List A) (from to n k : ℕ) (z : A) → from + n ≤ length l → to + n ≤ length l → (from + n ≤ to) ⊎ (to + n ≤ from) → k < n
    → m ≡ paste l to (drop from l) k → set m (to + k) (get_or m (from + k) z) ≡ paste l to (drop from l) (k + 1)
copy_turn l m from to n k z f t apart h e =
    let d = length-drop from l in
    let g : get_or m (from + k) z ≡ get_or l (from + k) z = rw e (⊎_elim
    (λ a. paste_before l to (drop from l) k (omega arith) (omega arith) (from + k) z (omega arith))
    (λ a. paste_after l to (drop from l) k (omega arith) (omega arith) (from + k) z (omega arith)) apart) in
    rw (add-one k, g, e, ← get_or-drop from l k z) (paste-suc l to (drop from l) k z (omega arith) (omega arith))

-- one element more
pub take_more : {A : Type 0} (s : List A) (i : ℕ) (d : A) → i < length s → take (i + 1) s ≡ take i s ++ get_or s i d ∷ []
take_more s i d h = rw (add-one i) (take-suc s i d h)
