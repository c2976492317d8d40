-- What is turned over is the same: header, settings, reply; and each answer has the model's number and values.
-- Assumes nothing.
use Rattle.std.specs.Prelude.{◌≡◌, List, ℕ}
use Rattle.rules.specs.Answer.{Value}
use Rattle.boundary.specs.declared.Answer.{Answer}
use Rattle.boundary.specs.Boundary.{values_in}

-- ── the further calls ──
-- an answer that has the number and the values of the model's
pub record Tells {A : Type 0} (number : A → ℕ) (values : A → List Value) (a : A) (t : Answer) : Type 0 where
  pub number_is : t.number ≡ number a
  pub values_are : (own : List ℕ) → values_in own t ≡ values a
