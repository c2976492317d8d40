-- What a length's test says where the code goes on after it.
-- Assumes nothing.
use Rattle.std.specs.Prelude.{◌≡◌, refl, ℕ, Ok, Err}
use Rattle.std.proofs.Math.Option.{Option, none, some}
use Rattle.lengths.specs.declared.LengthError.TheVariants as refused
use Rattle.lengths.specs.Finds.{long_of}
use Rattle.lengths.specs.Space.{Measured, shortage}

-- not too short: nothing is missing
pub none_short : (x : Measured) (o : Option ℕ) → x ≡ shortage o → ((n : ℕ) → x ≡ Err (refused.TooShort n) → ⊥) → o ≡ none
none_short x none e k = refl
none_short x (some n) e k = absurd (k n e)

-- not too long: nothing is over
pub none_long : (x : Measured) → ((n : ℕ) → x ≡ Err (refused.TooLong n) → ⊥) → long_of x ≡ none
none_long (Ok fits) k = refl
none_long (Err (refused.TooLong n)) k = absurd (k n refl)
none_long (Err (refused.TooShort n)) k = refl
