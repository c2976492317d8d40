-- Laws of texts: one put behind another, and the fewest digits.
-- Assumes nothing.
use Rattle.std.specs.Prelude.{◌≡◌, refl, true, false, List, [], ◌∷◌, ◌++◌, ℕ, zero, suc, ◌+◌, ◌-◌, ◌/◌, ◌%◌, ◌^◌, ◌≤◌, ◌<◌, ltb, ℤ, pos, negsuc, nat_abs, length, take, drop, get_or, set}
use Rattle.std.proofs.Common.{sym, ap, ◌∙◌, append_assoc, append-nil, arith, add-one, pow-suc, length-append, length-take, length-set, take-suc-set, take_all, ltb-true, ltb-false}
use Rattle.std.specs.Int.Signed.{lt_z}
use Rattle.io.specs.Digits.{IsDigitCount, last_digits, hex_digit_ascii}
use Rattle.laws.specs.Cases.{split, clash}
use Rattle.laws.specs.Parts.{take_more}
use Rattle.printing.specs.Text.{places, decimal_of, signed_of, hex_text, tail_text, list_text, byte_text, Ready, Tells}

-- ── one text behind another ──
pub tells_none : (o : List ℕ) (a : ℕ) → Ready a o → Tells [] o a o a
tells_none o a h = record { ready = h; as_long = refl; gone = []; told = append-nil (take a o); held = λ r. refl }

pub tells_then : {t u o p q : List ℕ} {a b c : ℕ} → Tells t o a p b → Tells u p b q c → Tells (t ++ u) o a q c
tells_then {t} {u} {o} {p} {q} {a} {b} {c} x y = record {
  ready = y.ready;
  as_long = y.as_long ∙ x.as_long;
  gone = x.gone ++ y.gone;
  told =
      sym (append_assoc (take a o) t u) ∙ ap (λ (l : List ℕ). l ++ u) x.told ∙ append_assoc x.gone (take b p) u ∙ ap (λ (l : List ℕ). x.gone ++ l) y.told ∙ sym (append_assoc x.gone y.gone (take c q));
  held = λ h.
      let l = length-append t u in
      let e = x.held (omega (arith, l)) in
      let n : a + length t ≡ b =
      omega (arith, l, x.ready.ready_within, ap length (x.told ∙ ap (λ (g : List ℕ). g ++ take b p) e), length-append (take a o) t, length-take a o, length-take b p) in
      let f = y.held (omega (arith, l, x.as_long)) in
      ap (λ (g : List ℕ). g ++ y.gone) e ∙ f;
}

pub tells_as : {t u o p : List ℕ} {a b : ℕ} → t ≡ u → Tells t o a p b → Tells u o a p b
tells_as {t} {u} {o} {p} {a} {b} e x = record { ready = x.ready; as_long = x.as_long; gone = x.gone; told = ap (λ (l : List ℕ). take a o ++ l) (sym e) ∙ x.told; held = λ h. x.held (omega (arith, ap length e)) }

-- a byte where there is room, and in front after all before it was handed over, the mark set or not
pub tells_stored : (o : List ℕ) (a b : ℕ) → a < length o - 1 → Tells (b ∷ []) o a (set o a b) (a + 1)
tells_stored o a b h = record {
  ready = record { ready_within = simp length-set (omega arith); ready_some = simp length-set (omega arith) };
  as_long = length-set o a b;
  gone = [];
  told = sym (rw (add-one a) (take-suc-set o a b (omega arith)));
  held = λ r. refl;
}

pub tells_flushed : (o : List ℕ) (a b : ℕ) → 1 < length o → length o - 1 ≤ a → Tells (b ∷ []) o a (set o 0 b) 1
tells_flushed o a b h f = record {
  ready = record { ready_within = simp length-set (omega arith); ready_some = simp length-set (omega arith) };
  as_long = length-set o 0 b;
  gone = take a o;
  told = ap (λ (l : List ℕ). take a o ++ l) (sym (take-suc-set o 0 b (omega arith)));
  held = λ r. absurd (omega arith);
}

pub tells_marked : (o : List ℕ) (a b : ℕ) → 1 < length o → length o - 1 ≤ a → Tells (b ∷ []) o a (set (set o (length o - 1) 1) 0 b) 1
tells_marked o a b h f = record {
  ready = record { ready_within = simp length-set (omega arith); ready_some = simp length-set (omega arith) };
  as_long = length-set (set o (length o - 1) 1) 0 b ∙ length-set o (length o - 1) 1;
  gone = take a o;
  told = ap (λ (l : List ℕ). take a o ++ l) (sym (take-suc-set (set o (length o - 1) 1) 0 b (simp length-set (omega arith))));
  held = λ r. absurd (omega arith);
}

-- ── digits ──
ten_power : (j : ℕ) → 1 ≤ 10 ^ j
ten_power zero = omega arith
ten_power (suc j) = let r = ten_power j in omega (arith, pow-suc 10 j)

fewest_one : (n k : ℕ) → n < 10 → IsDigitCount 10 1 n k → k ≡ 1
fewest_one n zero h f = absurd (let g = f.0 in omega arith)
fewest_one n (suc zero) h f = refl
fewest_one n (suc (suc j)) h f =
    let e : suc (suc j) - 1 ≡ suc j = omega arith in
    let g = rw e at (f.2 (omega arith)) in
    absurd (omega (arith, pow-suc 10 j, ten_power j))

fewest_more : (n k : ℕ) → 10 ≤ n → IsDigitCount 10 1 n (suc k) → IsDigitCount 10 1 (n / 10) k
fewest_more n zero h f = absurd (let g : n < 10 ^ 1 = f.1 in omega arith)
fewest_more n (suc j) h f =
    let a : n < 10 ^ suc (suc j) = f.1 in
    let e : suc (suc j) - 1 ≡ suc j = omega arith in
    let d : suc j - 1 ≡ j = omega arith in
    let b : 10 ^ suc j ≤ n = rw e at (f.2 (omega arith)) in
    (omega arith, omega (arith, pow-suc 10 (suc j)), λ p. rw d (omega (arith, pow-suc 10 j)))

pub fewest_places : (f n k : ℕ) → n < 10 ^ suc f → IsDigitCount 10 1 n k → k ≡ places f n
unfolding places
fewest_places zero n k h w = fewest_one n k (omega arith) w
fewest_places (suc f) n zero h w = absurd (let g = w.0 in omega arith)
fewest_places (suc f) n (suc k) h w =
    split (ltb n 10)
    (λ e. rw e (fewest_one n (suc k) (ltb-true n 10 e) w))
    (λ e.
    let g = ltb-false n 10 e in
    rw e (ap suc (fewest_places f (n / 10) k (omega (arith, pow-suc 10 (suc f))) (fewest_more n k g w))))

pub decimal_of_lem : (n k : ℕ) → n < 2 ^ 64 → IsDigitCount 10 1 n k → last_digits 10 k n ≡ decimal_of n
decimal_of_lem n k h f = ap (λ (j : ℕ). last_digits 10 j n) (fewest_places 20 n k (omega arith) f)

-- ── element by element ──
hex_snoc : (s : List ℕ) (b : ℕ) → hex_text (s ++ b ∷ []) ≡ hex_text s ++ hex_digit_ascii (b / 16) ∷ hex_digit_ascii (b % 16) ∷ []
unfolding hex_text
hex_snoc [] b = refl
hex_snoc (a ∷ s) b = ap (λ (l : List ℕ). hex_digit_ascii (a / 16) ∷ hex_digit_ascii (a % 16) ∷ l) (hex_snoc s b)

tail_snoc : (s : List ℕ) (u : ℕ) → tail_text (s ++ u ∷ []) ≡ tail_text s ++ 44 ∷ decimal_of u
unfolding tail_text
tail_snoc [] u = ap (λ (l : List ℕ). 44 ∷ l) (append-nil (decimal_of u))
tail_snoc (a ∷ s) u =
    ap (λ (l : List ℕ). 44 ∷ l)
    (ap (λ (l : List ℕ). decimal_of a ++ l) (tail_snoc s u) ∙ sym (append_assoc (decimal_of a) (tail_text s) (44 ∷ decimal_of u)))

module _ {o p q : List ℕ} {a b c : ℕ} (s : List ℕ) (i : ℕ) (h : i < length s) where
  pub tells_byte : Tells (take i s) o a p b → Tells (get_or s i 0 ∷ []) p b q c → Tells (take (i + 1) s) o a q c
  tells_byte x y = tells_as (sym (take_more s i 0 h)) (tells_then x y)

  pub tells_hex : {m : List ℕ} {n : ℕ} → Tells (hex_text (take i s)) o a m n → Tells (hex_digit_ascii (get_or s i 0 / 16) ∷ []) m n p b → Tells (hex_digit_ascii (get_or s i 0 % 16) ∷ []) p b q c
      → Tells (hex_text (take (i + 1) s)) o a q c
  tells_hex x y z =
      let g = hex_digit_ascii (get_or s i 0 / 16) in
      let f = hex_digit_ascii (get_or s i 0 % 16) in
      let e : (hex_text (take i s) ++ g ∷ []) ++ f ∷ [] ≡ hex_text (take (i + 1) s) =
      append_assoc (hex_text (take i s)) (g ∷ []) (f ∷ []) ∙ sym (hex_snoc (take i s) (get_or s i 0)) ∙ ap hex_text (sym (take_more s i 0 h))
      in
      tells_as e (tells_then (tells_then x y) z)

  pub tells_number : {m : List ℕ} {n : ℕ} → Tells (tail_text (take i s)) o a m n → Tells (44 ∷ []) m n p b → Tells (decimal_of (get_or s i 0)) p b q c
      → Tells (tail_text (take (i + 1) s)) o a q c
  tells_number x y z =
      let d = decimal_of (get_or s i 0) in
      let e : (tail_text (take i s) ++ 44 ∷ []) ++ d ≡ tail_text (take (i + 1) s) =
      append_assoc (tail_text (take i s)) (44 ∷ []) d ∙ sym (tail_snoc (take i s) (get_or s i 0)) ∙ ap tail_text (sym (take_more s i 0 h))
      in
      tells_as e (tells_then (tells_then x y) z)

-- all of it
pub take_whole : {A : Type 0} (s : List A) (i : ℕ) → length s ≤ i → take i s ≡ s
take_whole s i h = take_all i s h

pub bytes_empty : (s : List ℕ) → length s ≡ 0 → byte_text s ≡ 45 ∷ []
bytes_empty [] h = refl
bytes_empty (b ∷ s) h = absurd (omega arith)

pub bytes_some : (s : List ℕ) → (length s ≡ 0 → ⊥) → byte_text s ≡ hex_text s
bytes_some [] h = absurd (h refl)
bytes_some (b ∷ s) h = refl

pub list_empty : (s : List ℕ) → length s ≡ 0 → list_text s ≡ 45 ∷ []
list_empty [] h = refl
list_empty (b ∷ s) h = absurd (omega arith)

pub list_some : (s : List ℕ) → (length s ≡ 0 → ⊥) → list_text s ≡ decimal_of (get_or s 0 0) ++ tail_text (take (length s - 1) (drop 1 s))
list_some [] h = absurd (h refl)
list_some (b ∷ s) h =
    let e : suc (length s) - 1 ≡ length s = omega arith in
    ap (λ (l : List ℕ). decimal_of b ++ tail_text l) (sym (take_all (suc (length s) - 1) s (omega arith)))

-- ── signed numbers ──
pub signed_minus : (d : ℤ) → lt_z d (pos 0) ≡ true → signed_of d ≡ 45 ∷ decimal_of (nat_abs d)
signed_minus (pos m) h = absurd (omega (arith, ltb-true m 0 h))
signed_minus (negsuc m) h = refl

pub signed_plus : (d : ℤ) → lt_z d (pos 0) ≡ false → signed_of d ≡ decimal_of (nat_abs d)
signed_plus (pos m) h = refl
signed_plus (negsuc m) h = clash refl h
