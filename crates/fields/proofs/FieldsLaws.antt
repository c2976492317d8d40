-- Fields one after the other, for any list of them: each is a number of so many bytes, most significant first, and has a test that its value passes.
-- Document 02, F-6: "The facts on fields are shown for a field list in general, then used for both layouts."
-- Assumes nothing.
use Rattle.std.specs.Prelude.{◌≡◌, refl, true, cond, List, [], ◌∷◌, ◌++◌, map, ℕ, suc, ◌+◌, ◌≤◌, ◌<◌, ltb, take, drop}
use Rattle.std.proofs.Common.{sym, ap, ◌∙◌, append_assoc, arith, mod-eq_of_lt, length-take, length-drop, take-add, length-take-le, drop-drop, ltb-true, ltb-false, lt-ltb, le-ltb}
use Rattle.std.proofs.Math.ListN.{length, length-append}
use Rattle.std.proofs.Math.Seq.{take_at, drop_at}
use Rattle.std.proofs.lemmas.List.{take-append-le}
use Rattle.laws.specs.Cases.{split}
use Rattle.rules.specs.Bytes.{number, big_endian, Bytes}
use Rattle.rules.proofs.BytesLaws.{length_big_endian, number_big_endian, big_endian_number, number_below, bytes_take, bytes_drop}
use Rattle.fields.specs.Fields.{Decoded, Field, Fit, decode, encode, joined, size, with_value, out_of_range, short, values}

-- ── in numbers, before the laws ──
-- a field of one byte, 0 or 1, and one of two bytes
two_fields : List Field
two_fields = record { width = 1; allows = λ n. ltb n 2 } ∷ record { width = 2; allows = λ n. true } ∷ []

-- most significant byte first, nothing behind the fields looked at, the first fault from left to right
decoded_rows : map (decode two_fields) ((1 ∷ 2 ∷ 3 ∷ []) ∷ (0 ∷ 0 ∷ 255 ∷ 9 ∷ []) ∷ (2 ∷ 2 ∷ 3 ∷ []) ∷ (2 ∷ []) ∷ (1 ∷ 2 ∷ []) ∷ [] ∷ [])
    ≡ values (1 ∷ 515 ∷ []) ∷ values (0 ∷ 255 ∷ []) ∷ out_of_range ∷ out_of_range ∷ short ∷ short ∷ []
unfolding two_fields decode number
decoded_rows = refl

encoded_row : encode two_fields (1 ∷ 515 ∷ []) ≡ 1 ∷ 2 ∷ 3 ∷ []
unfolding two_fields encode big_endian
encoded_row = refl

-- ── laws ──
-- values that fit take the fields' bytes
pub length_encode : (fs : List Field) (vs : List ℕ) → Fit fs vs → length (encode fs vs) ≡ size fs
unfolding encode size
length_encode [] [] h = refl
length_encode [] (v ∷ vs) h = absurd h
length_encode (f ∷ fs) [] h = absurd h
length_encode (f ∷ fs) (v ∷ vs) h =
    let r = length_encode fs vs h.2 in
    omega (arith, length-append (big_endian f.width v) (encode fs vs), length_big_endian f.width v)

pub fit_append : (fs gs : List Field) (vs ws : List ℕ) → Fit fs vs → Fit gs ws → Fit (fs ++ gs) (vs ++ ws)
fit_append [] gs [] ws h k = k
fit_append [] gs (v ∷ vs) ws h k = absurd h
fit_append (f ∷ fs) gs [] ws h k = absurd h
fit_append (f ∷ fs) gs (v ∷ vs) ws h k = (h.0, h.1, fit_append fs gs vs ws h.2 k)

pub fit_length : (fs : List Field) (vs : List ℕ) → Fit fs vs → length fs ≡ length vs
fit_length [] [] h = refl
fit_length [] (v ∷ vs) h = absurd h
fit_length (f ∷ fs) [] h = absurd h
fit_length (f ∷ fs) (v ∷ vs) h = ap suc (fit_length fs vs h.2)

-- no field: nothing is decoded
pub decode_none : (bs : List ℕ) → decode [] bs ≡ values []
unfolding decode
decode_none bs = refl

-- a field's bytes in front: what decoding then does
module _ (f : Field) (fs : List Field) (front rest : List ℕ) (e : length front ≡ f.width) where
  pub decode_front : decode (f ∷ fs) (front ++ rest) ≡ cond (f.allows (number front)) (with_value (number front) (decode fs rest)) out_of_range
  unfolding decode
  decode_front =
      let l : f.width ≤ length (front ++ rest) = omega (arith, length-append front rest) in
      rw (le-ltb (length (front ++ rest)) f.width l, take_at front rest f.width e, drop_at front rest f.width e)

-- decoding what was encoded, whatever follows, gives the values back
pub decode_encode : (fs : List Field) (vs rest : List ℕ) → Fit fs vs → decode fs (encode fs vs ++ rest) ≡ values vs
unfolding encode
decode_encode [] [] rest h = decode_none rest
decode_encode [] (v ∷ vs) rest h = absurd h
decode_encode (f ∷ fs) [] rest h = absurd h
decode_encode (f ∷ fs) (v ∷ vs) rest h =
    let b = big_endian f.width v in
    let n : number b ≡ v = number_big_endian f.width v ∙ mod-eq_of_lt h.1 in
    rw (append_assoc b (encode fs vs) rest, decode_front f fs b (encode fs vs ++ rest) (length_big_endian f.width v), n, h.0, decode_encode fs vs rest h.2)

-- a field's bytes that are there in front, and those that are not
module _ (f : Field) (fs : List Field) (bs : List ℕ) where
  pub decode_taken : f.width ≤ length bs
      → decode (f ∷ fs) bs ≡ cond (f.allows (number (take f.width bs))) (with_value (number (take f.width bs)) (decode fs (drop f.width bs))) out_of_range
  unfolding decode
  decode_taken h = rw (le-ltb (length bs) f.width h)

  pub decode_missing : length bs < f.width → decode (f ∷ fs) bs ≡ short
  unfolding decode
  decode_missing h = rw (lt-ltb (length bs) f.width h)

joined_with : (v : ℕ) (d e : Decoded) → joined (with_value v d) e ≡ with_value v (joined d e)
joined_with v (values vs) e = refl
joined_with v short e = refl
joined_with v out_of_range e = refl

-- fields behind fields are decoded from the bytes behind theirs
pub decode_append : (fs gs : List Field) (bs : List ℕ) → decode (fs ++ gs) bs ≡ joined (decode fs bs) (decode gs (drop (size fs) bs))
unfolding size
decode_append [] gs bs = rw (decode_none bs)
decode_append (f ∷ fs) gs bs =
    let w = f.width in
    let v = number (take w bs) in
    let r = decode_append fs gs (drop w bs) in
    split (ltb (length bs) w)
    (λ e. let l = ltb-true (length bs) w e in rw (decode_missing f (fs ++ gs) bs l, decode_missing f fs bs l))
    (λ e.
    let l = ltb-false (length bs) w e in
    split (f.allows v)
    (λ a. rw (decode_taken f (fs ++ gs) bs l, decode_taken f fs bs l, a, r, drop-drop (size fs) w bs) (sym (joined_with v (decode fs (drop w bs)) (decode gs (drop (w + size fs) bs)))))
    (λ a. rw (decode_taken f (fs ++ gs) bs l, decode_taken f fs bs l, a)))

-- decoding reads the fields' bytes and no more
pub decode_reads : (fs : List Field) (bs : List ℕ) → decode fs (take (size fs) bs) ≡ decode fs bs
unfolding size
decode_reads [] bs = decode_none (take 0 bs) ∙ sym (decode_none bs)
decode_reads (f ∷ fs) bs =
    let w = f.width in
    let t = take (w + size fs) bs in
    let r = decode_reads fs (drop w bs) in
    split (ltb (length bs) w)
    (λ e.
    let a = ltb-true (length bs) w e in
    decode_missing f fs t (omega (arith, length-take (w + size fs) bs)) ∙ sym (decode_missing f fs bs a))
    (λ e.
    let a = ltb-false (length bs) w e in
    rw (take-add w (size fs) bs, decode_front f fs (take w bs) (take (size fs) (drop w bs)) (length-take-le w bs a), decode_taken f fs bs a, r))

-- so that bytes which are enough decode alike, whatever follows them
pub decode_behind : (fs : List Field) (bs rest : List ℕ) → size fs ≤ length bs → decode fs (bs ++ rest) ≡ decode fs bs
decode_behind fs bs rest h = sym (decode_reads fs (bs ++ rest)) ∙ (rw (take-append-le (size fs) bs rest h) (decode_reads fs bs))

-- what comes of the fields behind the first
with_value_short : (v : ℕ) (d : Decoded) → with_value v d ≡ short → d ≡ short
with_value_short v (values vs) e = let y : ◌≡◌ {A = ℕ} 0 1 = cc in absurd (omega arith)
with_value_short v short e = refl
with_value_short v out_of_range e = let y : ◌≡◌ {A = ℕ} 0 1 = cc in absurd (omega arith)

with_value_values {ℓ} : {C : Type ℓ} (v : ℕ) (d : Decoded) (vs : List ℕ) → with_value v d ≡ values vs → ((ws : List ℕ) → d ≡ values ws → vs ≡ v ∷ ws → C) → C
with_value_values v (values ws) vs e k = k ws refl (cc)
with_value_values v short vs e k = let y : ◌≡◌ {A = ℕ} 0 1 = cc in absurd (omega arith)
with_value_values v out_of_range vs e k = let y : ◌≡◌ {A = ℕ} 0 1 = cc in absurd (omega arith)

-- enough bytes: no field passes the end
pub decode_enough : (fs : List Field) (bs : List ℕ) → size fs ≤ length bs → decode fs bs ≡ short → ⊥
unfolding size
decode_enough [] bs h e = let z = decode_none bs in let y : ◌≡◌ {A = ℕ} 0 1 = cc in omega arith
decode_enough (f ∷ fs) bs h e =
    let w = f.width in
    let v = number (take w bs) in
    let t = sym (decode_taken f fs bs (omega arith)) ∙ e in
    split (f.allows v)
    (λ a. decode_enough fs (drop w bs) (omega (arith, length-drop w bs)) (with_value_short v (decode fs (drop w bs)) (rw a at t)))
    (λ a. let z : out_of_range ≡ short = rw a at t in let y : ◌≡◌ {A = ℕ} 0 1 = cc in omega arith)

-- values that were decoded: the first field's bytes are there, it allows their number, and the rest comes from the bytes behind them
module _ {ℓ} {C : Type ℓ} (f : Field) (fs : List Field) (bs vs : List ℕ) where
  decoded : decode (f ∷ fs) bs ≡ values vs
      → ((ws : List ℕ) → f.width ≤ length bs → f.allows (number (take f.width bs)) ≡ true → decode fs (drop f.width bs) ≡ values ws → vs ≡ number (take f.width bs) ∷ ws → C)
      → C
  decoded h k =
      let w = f.width in
      let v = number (take w bs) in
      split (ltb (length bs) w)
      (λ e. let z = decode_missing f fs bs (ltb-true (length bs) w e) in let y : ◌≡◌ {A = ℕ} 0 1 = cc in absurd (omega arith))
      (λ e.
      let l = ltb-false (length bs) w e in
      let t = sym (decode_taken f fs bs l) ∙ h in
      split (f.allows v)
      (λ a. with_value_values v (decode fs (drop w bs)) vs (rw a at t) (λ ws d q. k ws l a d q))
      (λ a. let z : out_of_range ≡ values vs = rw a at t in let y : ◌≡◌ {A = ℕ} 0 1 = cc in absurd (omega arith)))

-- a list that is another's beginning decodes to the beginning of its values
pub decode_beginning : (fs gs : List Field) (bs vs : List ℕ) → decode (fs ++ gs) bs ≡ values vs → decode fs bs ≡ values (take (length fs) vs)
decode_beginning [] gs bs vs h = decode_none bs
decode_beginning (f ∷ fs) gs bs vs h =
    decoded f (fs ++ gs) bs vs h
    (λ ws l a d q.
    let r = decode_beginning fs gs (drop f.width bs) ws d in
    rw (decode_taken f fs bs l, a, r, q))

-- what was decoded from bytes fits, and encodes to those bytes
pub decode_fits : (fs : List Field) (bs vs : List ℕ) → Bytes bs → decode fs bs ≡ values vs → Fit fs vs
decode_fits [] bs [] p h = tt
decode_fits [] bs (v ∷ vs) p h = let z = decode_none bs in let y : ◌≡◌ {A = ℕ} 0 1 = cc in absurd (omega arith)
decode_fits (f ∷ fs) bs vs p h =
    decoded f fs bs vs h
    (λ ws l a d q.
    let w = f.width in
    let b = number_below (take w bs) (bytes_take w bs p) in
    rw q (a, rw (length-take-le w bs l) at b, decode_fits fs (drop w bs) ws (bytes_drop w bs p) d))

pub encode_decode : (fs : List Field) (bs vs : List ℕ) → Bytes bs → decode fs bs ≡ values vs → encode fs vs ≡ take (size fs) bs
unfolding encode size
encode_decode [] bs vs p h = refl
encode_decode (f ∷ fs) bs vs p h =
    decoded f fs bs vs h
    (λ ws l a d q.
    let w = f.width in
    let t = length-take-le w bs l in
    let b = big_endian_number (take w bs) (bytes_take w bs p) in
    rw (q, take-add w (size fs) bs, rw t at b, encode_decode fs (drop w bs) ws (bytes_drop w bs p) d))

-- a beginning is encoded in front of the rest
pub encode_append : (fs gs : List Field) (vs ws : List ℕ) → length fs ≡ length vs → encode (fs ++ gs) (vs ++ ws) ≡ encode fs vs ++ encode gs ws
unfolding encode
encode_append [] gs [] ws e = refl
encode_append [] gs (v ∷ vs) ws e = absurd (omega arith)
encode_append (f ∷ fs) gs [] ws e = absurd (omega arith)
encode_append (f ∷ fs) gs (v ∷ vs) ws e = rw (append_assoc (big_endian f.width v) (encode fs vs) (encode gs ws)) (ap (λ (r : List ℕ). big_endian f.width v ++ r) (encode_append fs gs vs ws (omega arith)))
