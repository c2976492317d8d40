-- Numbers as bytes, most significant first ('big-endian' in document 01), and the order of byte strings.
-- Assumes nothing.
use Rattle.std.specs.Prelude.{◌≡◌, ℕ, zero, suc, ◌+◌, ◌*◌, ◌/◌, ◌%◌, ◌^◌, ◌<◌, ◌≤◌, true, false, cond, ltb, List, [], ◌∷◌, ◌++◌, reverse, length, take, drop, nat_lt, slice_index, refl}
use Rattle.std.proofs.Common.{sym, ap, ◌∙◌, arith, mul-le-mul_right, suc-mul, le_of_lt, pow-suc, mod-lt, mod-eq_of_lt, add-mul, mul_assoc, mul_comm, div-add-mod', ltb-true, ltb-false, lt-ltb, le-ltb, div-one}
use Rattle.std.specs.Int.{w64, from_be_bytes, to_le_bytes, to_be_bytes, swap_bytes}
use mathlib.Core.List.{reverse_aux, reverse-reverse}
use Rattle.std.proofs.Math.Nat.{pow-succ', mod-one, div-div-eq-div-mul}
use Rattle.std.proofs.lemmas.List.{length-reverse}
use Rattle.laws.specs.Cases.{split}
use Rattle.rules.specs.Bytes.{Bytes, big_endian, bytes_before, number, turned_of}

-- ── the library's words ──
-- the number of eight bytes, and those of a word
pub number_word : (a b c d e f g h : ℕ) → from_be_bytes w64 (a ∷ b ∷ c ∷ d ∷ e ∷ f ∷ g ∷ h ∷ []) ≡ number (a ∷ b ∷ c ∷ d ∷ e ∷ f ∷ g ∷ h ∷ [])
unfolding number
number_word a b c d e f g h = omega arith

pub bytes_word : (w : ℕ) → to_be_bytes w64 w ≡ big_endian 8 w
unfolding big_endian
bytes_word w = simp div-one

pub turned_word : (w : ℕ) → swap_bytes w64 w ≡ turned_of w
unfolding big_endian
turned_word w = simp div-one (number_word _ _ _ _ _ _ _ _)

-- ── laws ──
-- eight bytes of a list, one by one
pub eight : (l : List ℕ) → 8 ≤ length l
    → take 8 l ≡ slice_index l 0 ∷ slice_index l 1 ∷ slice_index l 2 ∷ slice_index l 3 ∷ slice_index l 4 ∷ slice_index l 5 ∷ slice_index l 6 ∷ slice_index l 7 ∷ []
eight [] h = absurd (omega arith)
eight (_ ∷ []) h = absurd (omega arith)
eight (_ ∷ _ ∷ []) h = absurd (omega arith)
eight (_ ∷ _ ∷ _ ∷ []) h = absurd (omega arith)
eight (_ ∷ _ ∷ _ ∷ _ ∷ []) h = absurd (omega arith)
eight (_ ∷ _ ∷ _ ∷ _ ∷ _ ∷ []) h = absurd (omega arith)
eight (_ ∷ _ ∷ _ ∷ _ ∷ _ ∷ _ ∷ []) h = absurd (omega arith)
eight (_ ∷ _ ∷ _ ∷ _ ∷ _ ∷ _ ∷ _ ∷ []) h = absurd (omega arith)
eight (_ ∷ _ ∷ _ ∷ _ ∷ _ ∷ _ ∷ _ ∷ _ ∷ l) h = refl

-- a part of bytes
pub bytes_take : (n : ℕ) (l : List ℕ) → Bytes l → Bytes (take n l)
bytes_take zero l h = tt
bytes_take (suc n) [] h = tt
bytes_take (suc n) (b ∷ l) h = (h.0, bytes_take n l h.1)

pub bytes_drop : (n : ℕ) (l : List ℕ) → Bytes l → Bytes (drop n l)
bytes_drop zero l h = h
bytes_drop (suc n) [] h = tt
bytes_drop (suc n) (b ∷ l) h = bytes_drop n l h.1

-- bytes spell a number that their count of bytes holds
pub number_below : (bs : List ℕ) → Bytes bs → number bs < 256 ^ length bs
unfolding number
number_below [] h = omega arith
number_below (b ∷ bs) h =
    let r = number_below bs h.1 in
    let m : suc b * 256 ^ length bs ≤ 256 * 256 ^ length bs = mul-le-mul_right (256 ^ length bs) h.0 in
    rw (pow-succ' 256 (length bs)) (omega (arith, suc-mul b (256 ^ length bs)))

-- numbers of two digits of the base b, the lower digits below b: their order goes by the higher digit first
module _ (b h l h' l' : ℕ) where
  higher : l < b → h < h' → h * b + l < h' * b + l'
  higher q p =
      let m : suc h * b ≤ h' * b = mul-le-mul_right b p in
      omega (arith, suc-mul h b)

module _ (b h l h' l' : ℕ) (q : l < b) (q' : l' < b) where
  digits : ltb (h * b + l) (h' * b + l') ≡ cond (nat_lt h h') true (cond (nat_lt h' h) false (nat_lt l l'))
  digits =
      split (nat_lt h h')
      (λ e. rw (e, lt-ltb (h * b + l) (h' * b + l') (higher b h l h' l' q (ltb-true h h' e))))
      (λ e. split (nat_lt h' h)
      (λ f. rw (e, f, le-ltb (h * b + l) (h' * b + l') (le_of_lt (higher b h' l' h l q' (ltb-true h' h f)))))
      (λ f.
      let s : h ≡ h' = omega (arith, ltb-false h h' e, ltb-false h' h f) in
      rw (e, f) (rw s (last (h' * b)))))
    where
      last : (c : ℕ) → nat_lt (c + l) (c + l') ≡ nat_lt l l'
      last c =
          split (nat_lt l l')
          (λ e. rw e (lt-ltb (c + l) (c + l') (omega (arith, ltb-true l l' e))))
          (λ e. rw e (le-ltb (c + l) (c + l') (omega (arith, ltb-false l l' e))))

-- strings of one length stand in the order of the numbers that they spell
pub number_order : (s t : List ℕ) → length s ≡ length t → Bytes s → Bytes t → bytes_before s t ≡ nat_lt (number s) (number t)
unfolding number bytes_before
number_order [] [] e p q = refl
number_order [] (b ∷ t) e p q = absurd (omega arith)
number_order (a ∷ s) [] e p q = absurd (omega arith)
number_order (a ∷ s) (b ∷ t) e p q =
    let f : length s ≡ length t = omega arith in
    let r = number_order s t f p.1 q.1 in
    rw (r, f) (sym (digits (256 ^ length t) a (number s) b (number t) (rw f at (number_below s p.1)) (number_below t q.1)))

-- the first parts decide, unless they are the same
pub before_append : (s t u v : List ℕ) → length s ≡ length t
    → bytes_before (s ++ u) (t ++ v) ≡ cond (bytes_before s t) true (cond (bytes_before t s) false (bytes_before u v))
unfolding bytes_before
before_append [] [] u v e = refl
before_append [] (b ∷ t) u v e = absurd (omega arith)
before_append (a ∷ s) [] u v e = absurd (omega arith)
before_append (a ∷ s) (b ∷ t) u v e =
    let r = before_append s t u v (omega arith) in
    split (nat_lt a b) (λ f. cc) (λ f. split (nat_lt b a) (λ g. cc) (λ g. cc))

-- ── there and back ──
pub length_big_endian : (n w : ℕ) → length (big_endian n w) ≡ n
unfolding big_endian
length_big_endian zero w = refl
length_big_endian (suc n) w = ap suc (length_big_endian n w)

pub bytes_big_endian : (n w : ℕ) → Bytes (big_endian n w)
unfolding big_endian
bytes_big_endian zero w = tt
bytes_big_endian (suc n) w = (mod-lt (w / 256 ^ n) (omega arith), bytes_big_endian n w)

-- one more digit of the base d
next_digit : (w m d : ℕ) → w / m % d * m + w % m ≡ w % (m * d)
next_digit w m d =
    let q = w / m in
    let e : (q / d * d + q % d) * m ≡ q / d * d * m + q % d * m = add-mul (q / d * d) (q % d) m in
    let f : q / d * d * m ≡ w / (m * d) * (m * d) = rw (div-div-eq-div-mul w m d, mul_assoc (w / (m * d)) d m, mul_comm d m) in
    omega (arith, div-add-mod' w m, rw (div-add-mod' q d) at e, div-add-mod' w (m * d))

-- a number spelled is its last bytes
pub number_big_endian : (n w : ℕ) → number (big_endian n w) ≡ w % 256 ^ n
unfolding number big_endian
number_big_endian zero w = sym (mod-one w)
number_big_endian (suc n) w = rw (length_big_endian n w, number_big_endian n w, pow-suc 256 n) (next_digit w (256 ^ n) 256)

-- strings of one length that spell one number are the same
pub number_injective : (s t : List ℕ) → length s ≡ length t → Bytes s → Bytes t → number s ≡ number t → s ≡ t
unfolding number
number_injective [] [] e p q h = refl
number_injective [] (b ∷ t) e p q h = absurd (omega arith)
number_injective (a ∷ s) [] e p q h = absurd (omega arith)
number_injective (a ∷ s) (b ∷ t) e p q h =
    let f : length s ≡ length t = omega arith in
    let m = 256 ^ length t in
    let x : number s < m = rw f at (number_below s p.1) in
    let y = number_below t q.1 in
    let h' : a * m + number s ≡ b * m + number t = rw f at h in
    let c : a ≡ b =
    split (nat_lt a b)
    (λ l. absurd (omega (arith, higher m a (number s) b (number t) x (ltb-true a b l))))
    (λ l. split (nat_lt b a)
    (λ r. absurd (omega (arith, higher m b (number t) a (number s) y (ltb-true b a r))))
    (λ r. omega (arith, ltb-false a b l, ltb-false b a r))) in
    let z : number s ≡ number t = omega (arith, ap (λ (k : ℕ). k * m) c) in
    cc (number_injective s t f p.1 q.1 z)

-- bytes read and spelled again are themselves
pub big_endian_number : (s : List ℕ) → Bytes s → big_endian (length s) (number s) ≡ s
big_endian_number s p =
    number_injective (big_endian (length s) (number s)) s (length_big_endian (length s) (number s)) (bytes_big_endian (length s) (number s)) p
    (number_big_endian (length s) (number s) ∙ mod-eq_of_lt (number_below s p))

-- ── the other way round ──
bytes_reverse : (s t : List ℕ) → Bytes s → Bytes t → Bytes (reverse_aux s t)
bytes_reverse [] t p q = q
bytes_reverse (b ∷ s) t p q = bytes_reverse s (b ∷ t) p.1 (p.0, q)

-- the bytes of the turned word, last first, are those of the word, first to last
pub turned_back : (w t : ℕ) → t ≡ turned_of w → reverse (big_endian 8 t) ≡ big_endian 8 w
turned_back w t h =
    let s = reverse (big_endian 8 w) in
    let l : length s ≡ 8 = length-reverse (big_endian 8 w) ∙ length_big_endian 8 w in
    let e : big_endian 8 (turned_of w) ≡ s = rw l at (big_endian_number s (bytes_reverse (big_endian 8 w) [] (bytes_big_endian 8 w) tt)) in
    rw (h, e) (reverse-reverse (big_endian 8 w))

-- so they are the turned word's, from the lowest on
pub turned_bytes : (w : ℕ) → to_le_bytes w64 (turned_of w) ≡ big_endian 8 w
turned_bytes w = ap reverse (bytes_word (turned_of w)) ∙ turned_back w (turned_of w) refl
