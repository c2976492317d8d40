-- A source's CID: 16 bytes, held as two words, most significant first.
-- Assumes nothing.
use Rattle.std.specs.Prelude.{◌≡◌, ℕ, true, false, ◌≢◌, List, [], ◌∷◌, ◌++◌, length, take, drop, ◌==◌, nat_lt, refl}
use Rattle.std.proofs.Common.{sym, ap, ◌∙◌, arith, mod-eq_of_lt, take-append-drop, length-take, length-drop, length-append, take_at, drop_at, eq-eqb, eqb-true}
use Rattle.laws.specs.Cases.{split}
use Rattle.laws.specs.Order.{Order, ℕOrder, before_by, order_by}
use Rattle.rules.specs.declared.Cid.{Cid}
use Rattle.rules.specs.Bytes.{number, big_endian, Bytes, bytes_before}
use Rattle.rules.proofs.BytesLaws.{bytes_take, bytes_drop, number_order, before_append, length_big_endian, bytes_big_endian, number_big_endian, big_endian_number}
use Rattle.rules.specs.Cid.{Exactly, Sixteen, Words, before, cid_bytes, cid_of, same}

-- it is a strict order of all CIDs
pub cid_order : Order before
cid_order = order_by nat_lt nat_lt (λ (c : Cid). c.hi) (λ (c : Cid). c.lo) ℕOrder ℕOrder (λ a b p q i. record { hi = p i; lo = q i })

-- ── laws ──
pub same_refl : (a : Cid) → same a a ≡ true
same_refl a = simp (eq-eqb a.hi a.hi refl, eq-eqb a.lo a.lo refl)

-- two CIDs are the same where the test says so
pub same_path : (a b : Cid) → same a b ≡ true → a ≡ b
same_path a b h =
    split (a.hi == b.hi)
    (λ e.
    let p = eqb-true a.hi b.hi e in
    let q = eqb-true a.lo b.lo (rw e at h) in
    λ i. record { hi = p i; lo = q i })
    (λ e. let z : false ≡ true = rw e at h in cc)

-- and not where they differ
pub same_not : (a b : Cid) → a ≢ b → same a b ≡ false
same_not a b n = split (same a b) (λ h. absurd (n (same_path a b h))) (λ h. h)

bytes_append : (s t : List ℕ) → Bytes s → Bytes t → Bytes (s ++ t)
bytes_append [] t p q = q
bytes_append (b ∷ s) t p q = (p.0, bytes_append s t p.1 q)

-- sixteen bytes read and spelled again are themselves
pub bytes_back : (s : List ℕ) → Sixteen s → cid_bytes (cid_of s) ≡ s
bytes_back s (p, x) =
    let a : length (take 8 s) ≡ 8 = omega (arith, length-take 8 s) in
    let b : length (drop 8 s) ≡ 8 = omega (arith, length-drop 8 s) in
    let e = rw a at (big_endian_number (take 8 s) (bytes_take 8 s x)) in
    let f = rw b at (big_endian_number (drop 8 s) (bytes_drop 8 s x)) in
    rw (e, f) (take-append-drop 8 s)

-- and so is a CID of 64-bit words
pub cid_back : (c : Cid) → Words c → cid_of (cid_bytes c) ≡ c
cid_back c (p, q) =
    let a = take_at (big_endian 8 c.hi) (big_endian 8 c.lo) 8 (length_big_endian 8 c.hi) in
    let b = drop_at (big_endian 8 c.hi) (big_endian 8 c.lo) 8 (length_big_endian 8 c.hi) in
    let e : number (take 8 (cid_bytes c)) ≡ c.hi = rw a (number_big_endian 8 c.hi ∙ mod-eq_of_lt p) in
    let f : number (drop 8 (cid_bytes c)) ≡ c.lo = rw b (number_big_endian 8 c.lo ∙ mod-eq_of_lt q) in
    λ i. record { hi = e i; lo = f i }

-- a CID is spelled in sixteen bytes
pub cid_bytes_sixteen : (c : Cid) → Sixteen (cid_bytes c)
cid_bytes_sixteen c =
    let h = big_endian 8 c.hi in
    let l = big_endian 8 c.lo in
    (omega (arith, length-append h l, length_big_endian 8 c.hi, length_big_endian 8 c.lo), bytes_append h l (bytes_big_endian 8 c.hi) (bytes_big_endian 8 c.lo))

-- two strings of sixteen bytes: the order of the CIDs read from them is theirs, byte by byte
pub before_bytes : (s t : List ℕ) → Sixteen s → Sixteen t → before (cid_of s) (cid_of t) ≡ bytes_before s t
unfolding before_by
before_bytes s t (p, x) (q, y) =
    let e : length (take 8 s) ≡ length (take 8 t) = omega (arith, length-take 8 s, length-take 8 t) in
    let f : length (drop 8 s) ≡ length (drop 8 t) = omega (arith, length-drop 8 s, length-drop 8 t) in
    let g = before_append (take 8 s) (take 8 t) (drop 8 s) (drop 8 t) e in
    let a = number_order (take 8 s) (take 8 t) e (bytes_take 8 s x) (bytes_take 8 t y) in
    let b = number_order (take 8 t) (take 8 s) (sym e) (bytes_take 8 t y) (bytes_take 8 s x) in
    let c = number_order (drop 8 s) (drop 8 t) f (bytes_drop 8 s x) (bytes_drop 8 t y) in
    sym (rw (take-append-drop 8 s, take-append-drop 8 t, a, b, c) at g)

-- and the CIDs are the same exactly when the strings are equal
pub same_bytes : (s t : List ℕ) → Sixteen s → Sixteen t → Exactly (same (cid_of s) (cid_of t)) (s ≡ t)
same_bytes s t p q =
    ((λ h. sym (bytes_back s p) ∙ ap cid_bytes (same_path (cid_of s) (cid_of t) h) ∙ bytes_back t q), (λ e. rw e (same_refl (cid_of t))))

-- two CIDs of 64-bit words: their order is that of their sixteen bytes
pub before_words : (a b : Cid) → Words a → Words b → before a b ≡ bytes_before (cid_bytes a) (cid_bytes b)
before_words a b p q = rw (cid_back a p, cid_back b q) at (before_bytes (cid_bytes a) (cid_bytes b) (cid_bytes_sixteen a) (cid_bytes_sixteen b))

-- and they are the same exactly when their bytes are equal
pub same_words : (a b : Cid) → Words a → Words b → Exactly (same a b) (cid_bytes a ≡ cid_bytes b)
same_words a b p q =
    ((λ h. ap cid_bytes (same_path a b h)), (λ e. let f : a ≡ b = sym (cid_back a p) ∙ ap cid_of e ∙ cid_back b q in rw f (same_refl b)))
