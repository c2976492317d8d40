-- What a loop over an array does to the part of it in use, `take n a`: one law for each kind of turn. d is what the code's read gives past the end.
-- Assumes nothing.
use Rattle.std.specs.Prelude.{◌≡◌, Bool, true, false, List, [], ◌∷◌, ◌++◌, ltb, take, drop, get_or, set}
use Rattle.std.proofs.Common.{sym, ap, ◌∙◌, length-take, drop_of_length-le, drop-cons, get_or-take, ltb-true, ltb-false}
use Prim.Native.Nat.{ℕ, suc, ◌+◌, ◌≤◌, ◌<◌, min}
use native.Mathlib.Omega.{arith}
use Rattle.std.proofs.Math.Numerals.{add-one}
use Rattle.std.proofs.Math.ListN.{length}
use Rattle.std.proofs.Math.Seq.{take-suc-set, take-set-lt, set_out, drop-set-lt, append_snoc}
use Rattle.std.proofs.lemmas.List.{take-set-le}
use Rattle.laws.specs.Cases.{split}
use Rattle.laws.specs.Table.{keep, any}
use Rattle.laws.specs.Place.{prefix}

module _ {A : Type 0} (a : List A) (n : ℕ) where
  -- nothing is left of the part in use
  pub spent : (r : ℕ) → min n (length a) ≤ r → drop r (take n a) ≡ []
  spent r h = drop_of_length-le (take n a) {i = r} (omega (arith, length-take n a))

  -- the next element of the part in use
  pub next : (r : ℕ) (d : A) → r < n → r < length a → drop r (take n a) ≡ get_or a r d ∷ drop (r + 1) (take n a)
  next r d h l =
      let h' : r < length (take n a) = omega (arith, length-take n a) in
      rw (add-one, ← (get_or-take n a r d h)) (drop-cons (take n a) r d h')

  -- a store, seen through the part in use
  pub replace : (i : ℕ) (x : A) → take n (set a i x) ≡ set (take n a) i x
  replace i x =
      split (ltb i n)
      (λ h. take-set-lt n a i x (ltb-true i n h))
      (λ h.
      let q = ltb-false i n h in
      take-set-le n a i x q ∙ sym (set_out (take n a) i x (omega (arith, length-take n a))))

  -- a store below what is still to be looked at
  pub untouched : (w r : ℕ) (x : A) → w < r → drop r (take n (set a w x)) ≡ drop r (take n a)
  untouched w r x h = ap (drop r) (replace w x) ∙ drop-set-lt r (take n a) w x h

  -- element r moved to place w, with those between given up
  pub move : (w r : ℕ) (d : A) → w ≤ r → r < n → r < length a
      → take (w + 1) (set a w (get_or a r d)) ++ drop (r + 1) (take n (set a w (get_or a r d))) ≡ take w a ++ drop r (take n a)
  move w r d wr h l =
      let lw : w < length a = omega arith in
      let wn : w < n = omega arith in
      let wr' : w < suc r = omega arith in
      rw (next r d h l, add-one w, add-one r, take-suc-set a w (get_or a r d) lw, take-set-lt n a w (get_or a r d) wn, drop-set-lt (suc r) (take n a) w (get_or a r d) wr')
      (append_snoc (take w a) (get_or a r d) (drop (suc r) (take n a)))

  -- a pass that keeps what passes the test p: w elements are kept, and those from r on are still to be looked at
  module _ (p : A → Bool) (w r : ℕ) (d : A) (h : r < n) (l : r < length a) where
    pub compact_drop : p (get_or a r d) ≡ false → take w a ++ keep p (drop (r + 1) (take n a)) ≡ take w a ++ keep p (drop r (take n a))
    unfolding keep
    compact_drop e = rw (next r d h l, e)

    pub compact_keep : w ≤ r → p (get_or a r d) ≡ true
        → take (w + 1) (set a w (get_or a r d)) ++ keep p (drop (r + 1) (take n (set a w (get_or a r d)))) ≡ take w a ++ keep p (drop r (take n a))
    unfolding keep
    compact_keep wr e =
        let lw : w < length a = omega arith in
        let wn : w < n = omega arith in
        let wr' : w < suc r = omega arith in
        rw (next r d h l, e, add-one w, add-one r, take-suc-set a w (get_or a r d) lw, take-set-lt n a w (get_or a r d) wn, drop-set-lt (suc r) (take n a) w (get_or a r d) wr')
        (append_snoc (take w a) (get_or a r d) (keep p (drop (suc r) (take n a))))

  -- x is carried along: put at r, and the element that stood there is carried on
  pub carry : (x : A) (r : ℕ) (d : A) → r < n → r < length a
      → take (r + 1) (set a r x) ++ get_or a r d ∷ drop (r + 1) (take n (set a r x)) ≡ take r a ++ x ∷ drop r (take n a)
  carry x r d h l =
      let rr : r < suc r = omega arith in
      rw (next r d h l, add-one r, take-suc-set a r x l, take-set-lt n a r x h, drop-set-lt (suc r) (take n a) r x rr)
      (append_snoc (take r a) x (get_or a r d ∷ drop (suc r) (take n a)))

  -- and laid down past the end
  pub laid : (x : A) → n < length a → take (n + 1) (set a n x) ≡ take n a ++ x ∷ drop n (take n a)
  laid x l =
      let h : min n (length a) ≤ n = omega arith in
      rw (spent n h, add-one n) (take-suc-set a n x l)

  -- a walk from the front while the test p holds, and a search for one element that passes it
  module _ (p : A → Bool) (r : ℕ) (d : A) (h : r < n) (l : r < length a) where
    pub prefix_stays : p (get_or a r d) ≡ false → r + prefix p (drop r (take n a)) ≡ r
    unfolding prefix
    prefix_stays e = rw (next r d h l, e) (omega arith)

    pub prefix_goes : p (get_or a r d) ≡ true → (r + 1) + prefix p (drop (r + 1) (take n a)) ≡ r + prefix p (drop r (take n a))
    unfolding prefix
    prefix_goes e = rw (next r d h l, e) (omega arith)

    pub any_hit : p (get_or a r d) ≡ true → any p (drop r (take n a)) ≡ true
    unfolding any
    any_hit e = rw (next r d h l, e)

    pub any_miss : p (get_or a r d) ≡ false → any p (drop (r + 1) (take n a)) ≡ any p (drop r (take n a))
    unfolding any
    any_miss e = rw (next r d h l, e)
