-- What either merge answers, and what an answer says of its data and of the output: for the code and for its callers.
-- Assumes nothing.
use Rattle.std.specs.Prelude.{◌≡◌, refl, List, ◌++◌, ℕ, ◌≤◌, ◌<◌, max, ltb, length, take, drop, Some, None}
use Rattle.std.proofs.Common.{ap, sym, ◌∙◌, arith}
use Rattle.std.proofs.Math.Option.{none, some}
use Rattle.std.proofs.Math.Seq.{take-append_seam}
use borrow.Author.Tests.{ltb-true, lt-ltb, le-ltb}
use Rattle.laws.specs.Cases.{split}
use Rattle.merge.specs.declared.DmxData.{DmxData}
use Rattle.merge.specs.declared.HtpAnswer.{HtpAnswer}
use Rattle.merge.specs.declared.HtpAnswer.TheVariants as htp
use Rattle.merge.specs.declared.Choice.{Choice}
use Rattle.merge.specs.declared.Choice.TheVariants.{Older, Newer, TooLong}
use Rattle.merge.specs.Merge.{Dmx, most_values, mergeable, joined, htp_merge, preferred, htp_with, too_long, htp_answer, htp_output, htp_number_of, htp_values_of, htp_told, choice, choice_number_of, choice_values_of, choice_told, chosen}

impossible : {C : Type 0} → ◌≡◌ {A = ℕ} 0 1 → C
impossible z = absurd (omega arith)

-- ── the lists' lengths ──
module _ (e p : Dmx) where
  pub long_older : most_values < length e.values → too_long e.values p.values ≡ Some (length e.values)
  unfolding too_long
  long_older h = let f = lt-ltb most_values (length e.values) h in cc

  module _ (g : length e.values ≤ most_values) where
    pub long_newer : most_values < length p.values → too_long e.values p.values ≡ Some (length p.values)
    unfolding too_long
    long_newer h = let f = le-ltb most_values (length e.values) g in let k = lt-ltb most_values (length p.values) h in cc

    pub long_neither : length p.values ≤ most_values → too_long e.values p.values ≡ None
    unfolding too_long
    long_neither h = let f = le-ltb most_values (length e.values) g in let k = le-ltb most_values (length p.values) h in cc

-- ── the number and the values of each answer, as document 01 tells them ──
module _ (e p : Dmx) where
  pub htp_answer_told : (room : ℕ) {r : HtpAnswer} → r ≡ htp_answer room e p → (htp_number_of r, htp_values_of r) ≡ htp_told room e p
  unfolding htp_answer htp_with htp_merge too_long htp_told
  htp_answer_told room {r} q =
      split (ltb most_values (length e.values)) (λ h. cc)
      (λ h. split (ltb most_values (length p.values)) (λ g. cc)
      (λ g. split (mergeable e p)
      (λ m. split (ltb room (max (length e.values) (length p.values))) (λ l. cc) (λ l. cc))
      (λ m. cc)))

  pub choice_answer_told : {r : Choice} → r ≡ choice e p → (choice_number_of r, choice_values_of r) ≡ choice_told e p
  unfolding choice too_long choice_told
  choice_answer_told {r} q =
      split (ltb most_values (length e.values)) (λ h. cc)
      (λ h. split (ltb most_values (length p.values)) (λ g. cc)
      (λ g. split (ltb p.head.priority e.head.priority) (λ l. cc) (λ l. cc)))

  -- so that what is told is the answer's number and values
  pub htp_told_is : (room : ℕ) → htp_told room e p ≡ (htp_number_of (htp_answer room e p), htp_values_of (htp_answer room e p))
  htp_told_is room = sym (htp_answer_told room refl)

  pub choice_told_is : choice_told e p ≡ (choice_number_of (choice e p), choice_values_of (choice e p))
  choice_told_is = sym (choice_answer_told refl)

-- "No stopped call writes output"
pub htp_stopped : (r : HtpAnswer) (e p : Dmx) (out : List ℕ) → (htp_number_of r ≡ 0 → ⊥) → htp_output r e p out ≡ out
unfolding htp_output
htp_stopped (htp.Merged d n) e p out h = absurd (h refl)
htp_stopped (htp.TooLong n) e p out h = refl
htp_stopped htp.Refused e p out h = refl
htp_stopped (htp.OutputShort n) e p out h = refl

-- the part that is handed on where the newer won
pub newer_chosen : (c : Choice) (xs ys : List ℕ) → c ≡ Newer → chosen c xs ys ≡ ys
unfolding chosen
newer_chosen c xs ys e = ap (λ (x : Choice). chosen x xs ys) e

-- "0 to 513 values each"
pub values_513 : most_values ≡ 513
values_513 = refl

-- of lists within 513 values
module _ (e p : Dmx) (x : length e.values ≤ most_values) (y : length p.values ≤ most_values) where
  -- ── the choice by priority ──
  pub older_preferred : choice e p ≡ Older → preferred e p ≡ e
  unfolding choice preferred
  older_preferred h =
      let t = long_neither e p x y in
      split (ltb p.head.priority e.head.priority) (λ l. cc) (λ l. let z : Older ≡ Newer = cc in cc)

  pub newer_preferred : choice e p ≡ Newer → preferred e p ≡ p
  unfolding choice preferred
  newer_preferred h =
      let t = long_neither e p x y in
      split (ltb p.head.priority e.head.priority) (λ l. let z : Older ≡ Newer = cc in cc) (λ l. cc)

  pub choice_fits : {C : Type 0} {n : ℕ} → choice e p ≡ TooLong n → C
  unfolding choice
  choice_fits {C} {n} h =
      let t = long_neither e p x y in
      split (ltb p.head.priority e.head.priority)
      (λ l. let z : Older ≡ TooLong n = cc in impossible (cc))
      (λ l. let z : Newer ≡ TooLong n = cc in impossible (cc))

  -- ── the highest-value merge, with room for 513 values ──
  module _ (room : ℕ) where
    pub htp_fits : {C : Type 0} {n : ℕ} → htp_answer room e p ≡ htp.TooLong n → C
    unfolding htp_answer htp_with htp_merge
    htp_fits {C} {n} h =
        let t = long_neither e p x y in
        split (mergeable e p)
        (λ m. split (ltb room (max (length e.values) (length p.values)))
        (λ l. let z : htp.OutputShort (max (length e.values) (length p.values)) ≡ htp.TooLong n = cc in impossible (cc))
        (λ l. let z : htp.Merged (joined e p).head (length (joined e p).values) ≡ htp.TooLong n = cc in impossible (cc)))
        (λ m. let z : htp.Refused ≡ htp.TooLong n = cc in impossible (cc))

    pub htp_roomy : {C : Type 0} {n : ℕ} → most_values ≤ room → htp_answer room e p ≡ htp.OutputShort n → C
    unfolding htp_answer htp_with htp_merge
    htp_roomy {C} {n} r h =
        let t = long_neither e p x y in
        split (mergeable e p)
        (λ m. split (ltb room (max (length e.values) (length p.values)))
        (λ l. absurd (omega (arith, ltb-true room (max (length e.values) (length p.values)) l)))
        (λ l. let z : htp.Merged (joined e p).head (length (joined e p).values) ≡ htp.OutputShort n = cc in impossible (cc)))
        (λ m. let z : htp.Refused ≡ htp.OutputShort n = cc in impossible (cc))

    pub htp_refuses : htp_answer room e p ≡ htp.Refused → htp_merge e p ≡ none
    unfolding htp_answer htp_with htp_merge
    htp_refuses h =
        let t = long_neither e p x y in
        split (mergeable e p)
        (λ m. split (ltb room (max (length e.values) (length p.values)))
        (λ l. let z : htp.OutputShort (max (length e.values) (length p.values)) ≡ htp.Refused = cc in impossible (cc))
        (λ l. let z : htp.Merged (joined e p).head (length (joined e p).values) ≡ htp.Refused = cc in impossible (cc)))
        (λ m. cc)

    -- the header and the number of values that a merge answers
    pub record Merging (d : DmxData) (n : ℕ) : Type 0 where
      pub merges : htp_merge e p ≡ some (joined e p)
      pub head_is : d ≡ (joined e p).head
      pub count_is : n ≡ length (joined e p).values

    pub htp_merges : {d : DmxData} {n : ℕ} → htp_answer room e p ≡ htp.Merged d n → Merging d n
    unfolding htp_answer htp_with htp_merge
    htp_merges {d} {n} h =
        let t = long_neither e p x y in
        split (mergeable e p)
        (λ m. split (ltb room (max (length e.values) (length p.values)))
        (λ l. let z : htp.OutputShort (max (length e.values) (length p.values)) ≡ htp.Merged d n = cc in impossible (cc))
        (λ l. let z : htp.Merged (joined e p).head (length (joined e p).values) ≡ htp.Merged d n = cc in record { merges = cc; head_is = cc; count_is = cc }))
        (λ m. let z : htp.Refused ≡ htp.Merged d n = cc in impossible (cc))

-- the values of a merge, off the output
pub htp_values : (e p : Dmx) (d : DmxData) (n : ℕ) (r : HtpAnswer) (out out' : List ℕ) → r ≡ htp.Merged d n → n ≡ length (joined e p).values
    → out' ≡ htp_output r e p out → take n out' ≡ (joined e p).values
unfolding htp_output
htp_values e p d n r out out' h k o =
    let q : out' ≡ (joined e p).values ++ drop (length (joined e p).values) out = o ∙ ap (λ (a : HtpAnswer). htp_output a e p out) h in
    rw (q, k) (take-append_seam (joined e p).values (drop (length (joined e p).values) out))
