-- Laws of a block moved to a place apart from it, and of a record written in four parts.
-- Assumes nothing.
use Rattle.std.specs.Prelude.{◌≡◌, ◌≢◌, ◌⊎◌, ltb, ◌*◌}
use Rattle.std.proofs.Math.Path.{sym, ap}
use Rattle.std.proofs.Common.{inl, inr, arith, ltb-true, ◌∙◌, subst, mod-eq_of_lt, length-append}
use mathlib.Core.List.{List, [], ◌∷◌, ◌++◌, append_assoc}
use Prim.Native.Nat.{ℕ, ◌+◌, ◌/◌, ◌%◌, ◌≤◌, ◌<◌}
use Rattle.std.proofs.Math.ListN.{length}
use Rattle.laws.specs.Order.{ℕOrder, tri}
use Rattle.laws.specs.Parts.{pasted, pasted_append}
use Rattle.rules.specs.Bytes.{big_endian, bit}
use Rattle.merge.specs.declared.DmxData.{DmxData}
use Rattle.merge.specs.Merge.{most_values}
use Rattle.merge.specs.Views.{dmx}
use Rattle.waiting.specs.Records.{owner, encode}
use Rattle.waiting.proofs.Laws.{length_encode}
use Rattle.waiting_store.specs.Written.{Laid, one, two}

-- two blocks that do not overlap
abbrev pub Apart : ℕ → ℕ → Type 0
Apart a b = (a + most_values ≤ b) ⊎ (b + most_values ≤ a)

-- places that differ have blocks apart
pub blocks_apart : (a b : ℕ) → a ≢ b → Apart (a * most_values) (b * most_values)
blocks_apart a b n = tri ltb ℕOrder a b (λ p q. inl (omega (arith, ltb-true a b p))) (λ e. absurd (n e)) (λ p q. inr (omega (arith, ltb-true b a q)))

-- ── the parts of a record ──
abbrev pub front_bytes : DmxData → ℕ → List ℕ
front_bytes d present =
    0x55 ∷ 0x44 ∷ d.universe / 256 % 256 ∷ d.universe % 256 ∷ d.sync_uni / 256 % 256 ∷ d.sync_uni % 256 ∷ d.priority ∷ bit d.preview ∷ present ∷ []

abbrev pub back_bytes : ℕ → ℕ → List ℕ
back_bytes reading count = big_endian 8 reading ++ big_endian 2 count

-- ── laws ──
-- the parts laid one after the other
pub laid_parts : (out o₁ o₂ o₃ o₄ : List ℕ) (at : ℕ) (front cid back values : List ℕ) → length front ≡ 9 → length cid ≡ 16 → length back ≡ 10 → at + 35 ≤ length out
    → o₁ ≡ pasted out at front → o₂ ≡ pasted o₁ (at + 9) cid → o₃ ≡ pasted o₂ (at + 25) back → o₄ ≡ pasted o₃ (at + 35) values
    → o₄ ≡ pasted out at (front ++ (cid ++ (back ++ values)))
laid_parts out o₁ o₂ o₃ o₄ at front cid back values f c b room e₁ e₂ e₃ e₄ =
    let h : at ≤ length out = omega arith in
    let n₂ : length (front ++ cid) ≡ 25 = omega (arith, length-append front cid) in
    let n₃ : length ((front ++ cid) ++ back) ≡ 35 = omega (arith, length-append (front ++ cid) back) in
    let p₂ : o₂ ≡ pasted out at (front ++ cid) = rw (e₂, e₁) (subst (λ (k : ℕ). pasted (pasted out at front) (at + k) cid ≡ pasted out at (front ++ cid)) f (pasted_append out at front h cid)) in
    let p₃ : o₃ ≡ pasted out at ((front ++ cid) ++ back) =
    rw (e₃, p₂) (subst (λ (k : ℕ). pasted (pasted out at (front ++ cid)) (at + k) back ≡ pasted out at ((front ++ cid) ++ back)) n₂ (pasted_append out at (front ++ cid) h back)) in
    let p₄ : o₄ ≡ pasted out at (((front ++ cid) ++ back) ++ values) =
    rw (e₄, p₃) (subst (λ (k : ℕ). pasted (pasted out at ((front ++ cid) ++ back)) (at + k) values ≡ pasted out at (((front ++ cid) ++ back) ++ values)) n₃ (pasted_append out at ((front ++ cid) ++ back) h values)) in
    p₄ ∙ ap (pasted out at) (append_assoc (front ++ cid) back values ∙ append_assoc front cid (back ++ values))

-- are the record
pub encode_parts : (d : DmxData) (present : ℕ) (cid values : List ℕ) → d.priority < 256 → owner d.src_cid ≡ present ∷ cid
    → encode (dmx d values) ≡ front_bytes d present ++ (cid ++ (back_bytes d.recv_timestamp (length values) ++ values))
unfolding encode
encode_parts d present cid values p e =
    let u = two d.universe in
    let a = two d.sync_uni in
    let o : big_endian 1 d.priority ≡ d.priority ∷ [] = one d.priority ∙ ap (λ (x : ℕ). x ∷ []) (mod-eq_of_lt p) in
    rw (e, u, a, o)
    (ap (λ (x : List ℕ). front_bytes d present ++ x) (append_assoc (cid ++ big_endian 8 d.recv_timestamp) (big_endian 2 (length values)) values
    ∙ append_assoc cid (big_endian 8 d.recv_timestamp) (big_endian 2 (length values) ++ values)
    ∙ ap (λ (x : List ℕ). cid ++ x) (sym (append_assoc (big_endian 8 d.recv_timestamp) (big_endian 2 (length values)) values))))

pub record_laid_parts : (d : DmxData) (present : ℕ) (front cid back values out out' : List ℕ) (at r : ℕ) → d.priority < 256 → owner d.src_cid ≡ present ∷ cid
    → front ≡ front_bytes d present → back ≡ back_bytes d.recv_timestamp (length values)
    → r ≡ at + 35 + length values → out' ≡ pasted out at (front ++ (cid ++ (back ++ values))) → Laid d values out out' at r
record_laid_parts d present front cid back values out out' at r p o f b k e =
    let q : front ++ (cid ++ (back ++ values)) ≡ encode (dmx d values) = rw (f, b) (sym (encode_parts d present cid values p o)) in
    record { after = omega (arith, length_encode (dmx d values)); laid = e ∙ ap (pasted out at) q }
