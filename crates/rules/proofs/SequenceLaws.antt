-- Document 01, 'Number rules': the sequence rule of E1.31 6.7.2; document 02, F-4: its three answers.
-- Assumes nothing.
use Rattle.std.specs.Prelude.{◌≡◌, ℕ, zero, suc, ◌+◌, ◌-◌, ◌<◌, true, false, [], ◌∷◌, map, ℤ, pos, negsuc, neg_ℤ, nat_abs, ◌==◌, nat_le, nat_lt, refl}
use Rattle.std.proofs.Common.{sym, ap, ◌∙◌, arith, le-leb, eq-eqb}
use Rattle.std.proofs.lemmas.Bool.{lt-leb}
use Rattle.laws.specs.Cases.{split, clash}
use Rattle.rules.specs.declared.SequenceAnswer.{SequenceAnswer}
use Rattle.rules.specs.declared.SequenceAnswer.TheVariants.{Accepted, Repeated, Late}
use Rattle.rules.specs.Sequence.{Within, difference, judged, number_of, refused, refuses, signed, wrapped}

-- the numbers at the ends of each range
edges : map (λ (d : ℤ). number_of (judged d)) (neg_ℤ (pos 128) ∷ neg_ℤ (pos 20) ∷ neg_ℤ (pos 19) ∷ neg_ℤ (pos 1) ∷ pos 0 ∷ pos 1 ∷ pos 127 ∷ [])
    ≡ 0 ∷ 0 ∷ 7 ∷ 7 ∷ 21 ∷ 0 ∷ 0 ∷ []
edges = refl

-- the rule above 0, from -1 to -19, and below
ahead : (n : ℕ) → judged (pos (suc n)) ≡ Accepted
ahead n = rw (le-leb 0 (suc n) (omega arith), lt-leb (suc n) 0 (omega arith))

behind : (n : ℕ) → nat_le n 18 ≡ true → judged (negsuc n) ≡ Late
behind n h = rw (h, le-leb 0 n (omega arith))

far : (n : ℕ) → nat_le n 18 ≡ false → judged (negsuc n) ≡ Accepted
far n h = rw h

-- no two answers are one
apart {ℓ} : {C : Type ℓ} (a b : SequenceAnswer) → a ≡ b → (number_of a == number_of b) ≡ false → C
apart a b e n = clash (eq-eqb (number_of a) (number_of b) (ap number_of e)) n

-- repeated exactly at 0
pub repeated_exactly : (d : ℤ) → (judged d ≡ Repeated → d ≡ pos 0) × (d ≡ pos 0 → judged d ≡ Repeated)
repeated_exactly (pos zero) = ((λ h. refl), (λ h. refl))
repeated_exactly (pos (suc n)) = ((λ h. apart Accepted Repeated (sym (ahead n) ∙ h) refl), ap judged)
repeated_exactly (negsuc n) = (
  (λ h. split (nat_le n 18) (λ f. apart Late Repeated (sym (behind n f) ∙ h) refl) (λ f. apart Accepted Repeated (sym (far n f) ∙ h) refl)),
  ap judged,
)

-- late exactly from -19 to -1
pub late_exactly : (d : ℤ) → (judged d ≡ Late → Within (neg_ℤ (pos 19)) (neg_ℤ (pos 1)) d) × (Within (neg_ℤ (pos 19)) (neg_ℤ (pos 1)) d → judged d ≡ Late)
late_exactly (pos zero) = ((λ h. apart Repeated Late h refl), (λ (f, l). clash l refl))
late_exactly (pos (suc n)) = ((λ h. apart Accepted Late (sym (ahead n) ∙ h) refl), (λ (f, l). clash l refl))
late_exactly (negsuc n) = (
  (λ h. split (nat_le n 18) (λ f. (f, le-leb 0 n (omega arith))) (λ f. apart Accepted Late (sym (far n f) ∙ h) refl)),
  (λ (f, l). behind n f),
)

-- document 01: "-19 to 0 is refused, all else accepted"
pub refused_exactly : (d : ℤ) → (refused d ≡ true → Within (neg_ℤ (pos 19)) (pos 0) d) × (Within (neg_ℤ (pos 19)) (pos 0) d → refused d ≡ true)
refused_exactly (pos zero) = ((λ h. (refl, refl)), (λ w. refl))
refused_exactly (pos (suc n)) = ((λ h. clash h (ap refuses (ahead n))), (λ (f, l). clash l (lt-leb (suc n) 0 (omega arith))))
refused_exactly (negsuc n) = (
  (λ h. split (nat_le n 18) (λ f. (f, refl)) (λ f. clash h (ap refuses (far n f)))),
  (λ (f, l). ap refuses (behind n f)),
)

-- a number after itself, and no other byte, is a repeat
pub difference_same : (n : ℕ) → difference n n ≡ pos 0
difference_same n = let e : n + 256 - n ≡ 256 = omega arith in rw e

negative_zero : (n : ℕ) → neg_ℤ (pos n) ≡ pos 0 → n ≡ 0
negative_zero zero e = refl
negative_zero (suc n) e = ap nat_abs e

signed_zero : (d : ℕ) → d < 256 → signed d ≡ pos 0 → d ≡ 0
signed_zero d b e =
    split (nat_lt d 128)
    (λ f. let g : pos d ≡ pos 0 = rw f at e in ap nat_abs g)
    (λ f. let g : neg_ℤ (pos (256 - d)) ≡ pos 0 = rw f at e in let z = negative_zero (256 - d) g in absurd (omega arith))

pub repeated_same : (arriving last : ℕ) → arriving < 256 → last < 256
    → (judged (difference arriving last) ≡ Repeated → arriving ≡ last) × (arriving ≡ last → judged (difference arriving last) ≡ Repeated)
repeated_same arriving last a l = (
  (λ h.
      let d = wrapped arriving last in
      let z : d ≡ 0 = signed_zero d (omega arith) ((repeated_exactly (difference arriving last)).0 h) in
      omega arith),
  (λ e. (repeated_exactly (difference arriving last)).1 (ap (λ (n : ℕ). difference n last) e ∙ difference_same last)),
)
