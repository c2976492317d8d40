-- A list with a gap, as a loop leaves it that moves elements from the top to make room: the element at place j counts for nothing.
-- Assumes nothing.
use Rattle.std.specs.Prelude.{◌≡◌, List, ◌++◌, ℕ, zero, suc, ◌+◌, ◌-◌, ◌≤◌, ◌<◌, length, take, drop, get_or, set}
use Rattle.std.proofs.Common.{sym, append-nil, arith, add-one, length-take, length-set, drop_of_length-le, take-suc, drop-set-lt, drop-cons, take_at, drop_at, length-take-le, get_or-set_same, take-take}
use Rattle.std.proofs.Math.Seq.{take-set-lt, append_snoc}
use Rattle.std.proofs.lemmas.List.{take-set-le, set_split}
use Rattle.laws.specs.Place.{insert_at}

-- the first n + 1 elements but for place j
abbrev pub gap : {A : Type 0} → ℕ → ℕ → List A → List A
gap n j a = take j a ++ drop (j + 1) (take (n + 1) a)

module _ {A : Type 0} (a : List A) (n : ℕ) (room : n < length a) where
  -- the gap past the end
  pub gap_start : gap n n a ≡ take n a
  gap_start = rw (drop_of_length-le (take (n + 1) a) {i = n + 1} (omega (arith, length-take (n + 1) a))) (append-nil (take n a))

  -- the element below moves up into it
  pub gap_move : (j : ℕ) (d : A) → 0 < j → j ≤ n → gap n (j - 1) (set a j (get_or a (j - 1) d)) ≡ gap n j a
  gap_move zero d h l = absurd (omega arith)
  gap_move (suc j) d h l =
      let e : suc j - 1 ≡ j = omega arith in
      let k : suc j < length (take (n + 1) a) = omega (arith, length-take (n + 1) a) in
      let x = get_or a j d in
      let b = set a (suc j) x in
      let m : suc j < length (take (n + 1) b) = rw (take-set-lt (n + 1) a (suc j) x (omega arith)) (omega (arith, length-set (take (n + 1) a) (suc j) x)) in
      rw (e, add-one j, add-one (suc j), take-set-le j a (suc j) x (omega arith), take-set-lt (n + 1) a (suc j) x (omega arith))
      (rw (drop-cons (set (take (n + 1) a) (suc j) x) (suc j) x (omega (arith, length-set (take (n + 1) a) (suc j) x)), get_or-set_same (take (n + 1) a) (suc j) x x k, drop-set-lt (suc (suc j)) (take (n + 1) a) (suc j) x (omega arith), take-suc a j d (omega arith))
      (sym (append_snoc (take j a) x (drop (suc (suc j)) (take (n + 1) a)))))

  -- and is filled
  pub gap_fill : (i : ℕ) (x : A) (l : List A) → i ≤ n → gap n i a ≡ l → take (n + 1) (set a i x) ≡ insert_at i x l
  gap_fill i x l h e =
      let k : i < length (take (n + 1) a) = omega (arith, length-take (n + 1) a) in
      let t : length (take i a) ≡ i = length-take-le i a (omega arith) in
      let f : take i l ≡ take i a = rw (← e) (take_at (take i a) (drop (i + 1) (take (n + 1) a)) i t) in
      let g : drop i l ≡ drop (i + 1) (take (n + 1) a) = rw (← e) (drop_at (take i a) (drop (i + 1) (take (n + 1) a)) i t) in
      let s : take i (take (n + 1) a) ≡ take i a = take-take i (n + 1) a (omega arith) in
      rw (take-set-lt (n + 1) a i x (omega arith), set_split (take (n + 1) a) i x k, s, f, g, add-one i)
