-- A turn of a loop over a list of numbers, by the place at which the field in hand begins: what it leaves unchanged, and how it ends.
-- Assumes nothing.
use Rattle.std.specs.Prelude.{◌≡◌, refl, Option, Some, None, ℕ, suc, ◌+◌, ◌-◌, ◌≤◌, ◌<◌, take, drop, set}
use Rattle.std.proofs.Math.Path.{sym, ap}
use Rattle.std.proofs.Common.{◌∙◌, length-drop, drop-drop}
use mathlib.Core.List.{List, []}
use native.Mathlib.Omega.{arith}
use Rattle.std.proofs.Math.ListN.{length}
use Rattle.script.specs.Fields.{ending, split, numbers, fitting, small_of}
use Rattle.script.specs.FieldLaws as fields
use Rattle.script.specs.FieldLaws.{rest_of_lem}

-- one turn: the field from `at` on is read, and the numbers before it lie at the front
pub record Turn (s out : List ℕ) (at n : ℕ) : Type 0 where
  pub within_field : at ≤ length s
  pub counted : n + length (split 44 (drop at s)) ≡ length (split 44 s)
  pub gathered : numbers (Some (take n out)) (split 44 (drop at s)) ≡ numbers (Some []) (split 44 s)

-- the fields from `at` on are what is left
abbrev left : {s out : List ℕ} {at n : ℕ} → Turn s out at n → fields.Turn s (drop at s) out n
left t = record { counted = t.counted; gathered = t.gathered }

module _ (s out : List ℕ) (at n : ℕ) (t : Turn s out at n) where
  -- a field that is no number
  pub turn_bad : (room : ℕ) → small_of (take (ending 44 (drop at s)) (drop at s)) ≡ None → fitting room (split 44 s) ≡ None
  turn_bad room e = fields.turn_bad s (drop at s) out n (left t) (ending 44 (drop at s)) refl room e

  -- the last field
  pub turn_last : (u : ℕ) → n < length out → length (drop at s) ≤ ending 44 (drop at s) → small_of (take (ending 44 (drop at s)) (drop at s)) ≡ Some u
      → fitting (length out) (split 44 s) ≡ Some (take (n + 1) (set out n u))
  turn_last u h l e = fields.turn_last s (drop at s) out n (left t) (ending 44 (drop at s)) refl u h l e

  -- a field with more behind it
  pub turn_more : (u : ℕ) → n < length out → ending 44 (drop at s) < length (drop at s) → small_of (take (ending 44 (drop at s)) (drop at s)) ≡ Some u
      → Turn s (set out n u) (at + ending 44 (drop at s) + 1) (n + 1)
  turn_more u h l e =
      let j = ending 44 (drop at s) in
      let i : at + (j + 1) ≡ at + j + 1 = omega arith in
      let d : take (length (drop at s) - (j + 1)) (drop (j + 1) (drop at s)) ≡ drop (at + j + 1) s = rest_of_lem (drop at s) (j + 1) ∙ drop-drop (j + 1) at s ∙ ap (λ (m : ℕ). drop m s) i in
      let t' = fields.turn_more s (drop at s) out n (left t) j refl u h l e in
      record {
        within_field = omega (arith, length-drop at s);
        counted = ap (λ (r : List ℕ). n + 1 + length (split 44 r)) (sym d) ∙ t'.counted;
        gathered = ap (λ (r : List ℕ). numbers (Some (take (n + 1) (set out n u))) (split 44 r)) (sym d) ∙ t'.gathered;
      }

  -- no room is left
  pub turn_full : length out ≤ n → fitting (length out) (split 44 s) ≡ None
  turn_full h = fields.turn_full s (drop at s) out n (left t) h

pub turn_first : (s out : List ℕ) → Turn s out 0 0
turn_first s out = record { within_field = omega arith; counted = omega arith; gathered = refl }
