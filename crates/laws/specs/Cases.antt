-- Case analysis that hands over its equation: on a test, and on an option.
-- Assumes nothing.
use Rattle.std.specs.Prelude.{◌≡◌, refl, Bool, true, false, cond, ℕ}
use Rattle.std.proofs.Math.Option.{Option, none, some}
use Rattle.std.proofs.Common.{arith}

-- by cases on a test
abbrev pub split {ℓ} : {C : Type ℓ} (b : Bool) → (b ≡ true → C) → (b ≡ false → C) → C
split true f g = f refl
split false f g = g refl

-- what is done to either result of a test is done to its result
pub cond_map : {A B : Type 0} (f : A → B) (b : Bool) (x y : A) → cond b (f x) (f y) ≡ f (cond b x y)
cond_map f true x y = refl
cond_map f false x y = refl

-- a test that would be both
pub clash {ℓ} : {C : Type ℓ} {b : Bool} → b ≡ true → b ≡ false → C
clash p q = let z : ◌≡◌ {A = ℕ} 0 1 = cc in absurd (omega arith)

-- by cases on an option
abbrev pub found {ℓ} : {C : Type ℓ} {E : Type 0} (o : Option E) → (o ≡ none → C) → ((e : E) → o ≡ some e → C) → C
found none f g = f refl
found (some e) f g = g e refl

-- an option that would be both
pub missing {ℓ} : {C : Type ℓ} {E : Type 0} {o : Option E} (e : E) → o ≡ some e → o ≡ none → C
missing e p q = let z : ◌≡◌ {A = ℕ} 0 1 = cc in absurd (omega arith)
