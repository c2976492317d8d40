-- What a part answers, as the answer of a step: with the part's own number and values.
-- Assumes nothing.
use Rattle.std.specs.Prelude.{◌≡◌, List, cond, false, ℕ, eqb}
use Rattle.rules.specs.Answer.{Value}
use Rattle.settings.specs.declared.Settings.{Settings}
use Rattle.waiting.specs.declared.StoreCall.{StoreCall}
use Rattle.waiting.specs.declared.StoreCall.TheVariants as call
use Rattle.waiting.specs.declared.ReleaseAnswer.{ReleaseAnswer}
use Rattle.waiting.specs.declared.ReleaseAnswer.TheVariants as releasing
use Rattle.model.specs.declared.StepAnswer.{StepAnswer}
use Rattle.model.specs.declared.StepAnswer.TheVariants as says
use Rattle.model.specs.Answer.{step_number, step_values}
use Rattle.model.specs.Step.{kept, listed}
use Rattle.discovery.specs.Discovery.{call_number, call_values}
use Rattle.discovery.specs.declared.PageCall.{PageCall}
use Rattle.discovery.specs.declared.PageCall.TheVariants as paging

-- a step's answer has this number and these values, whatever name the packet in hand has
pub record Tells (answer : StepAnswer) (n : ℕ) (vs : List Value) : Type 0 where
  pub number_is : step_number answer ≡ n
  pub values_are : (own : List ℕ) → step_values own answer ≡ vs

-- what storing answers
abbrev pub store_said : StoreCall → StepAnswer
store_said (call.Taken a) = kept a
store_said (call.TooLong n) = says.TooLong n

-- what a release answers: "release, or nothing if none is left"
abbrev pub release_said : ReleaseAnswer → StepAnswer
release_said (releasing.Released n b) = cond (eqb n 0) says.Nothing (says.Released n b)
release_said (releasing.OutputShort n) = says.TooShort n

-- 5: what the call for a page answers, as the step's answer
abbrev pub called : Settings → PageCall → StepAnswer
called S (paging.Done a) = listed S a
called S (paging.TooLong n) = says.TooLong n

-- the step's answer has the call's own number and values, but for "9 if listed and announced"
pub record TellsPage (call : PageCall) (answer : StepAnswer) : Type 0 where
  pub number_is : eqb (step_number answer) 9 ≡ false → step_number answer ≡ call_number call
  pub values_are : eqb (step_number answer) 9 ≡ false → (own : List ℕ) → step_values own answer ≡ call_values call
