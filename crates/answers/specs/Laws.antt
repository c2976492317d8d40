-- One law for each kind of answer.
-- Assumes nothing.
use Rattle.std.specs.Prelude.{◌≡◌, refl, ℕ, eqb}
use Rattle.std.proofs.Common.{sym, subst}
use Rattle.laws.specs.Cases.{split, clash}
use Rattle.settings.specs.declared.Settings.{Settings}
use Rattle.waiting.specs.declared.StoreAnswer.TheVariants as storing
use Rattle.waiting.specs.declared.StoreCall.{StoreCall}
use Rattle.waiting.specs.declared.StoreCall.TheVariants as call
use Rattle.waiting.specs.declared.ReleaseAnswer.{ReleaseAnswer}
use Rattle.waiting.specs.declared.ReleaseAnswer.TheVariants as releasing
use Rattle.waiting.specs.Answers.{store_number_of, store_values_of, release_number_of}
use Rattle.model.specs.Answer.{step_number}
use Rattle.model.specs.declared.StepAnswer.{StepAnswer}
use Rattle.model.specs.declared.StepAnswer.TheVariants as says
use Rattle.model.specs.Step.{stopped, listed}
use Rattle.pairs.specs.declared.Checked.{Checked}
use Rattle.pairs.specs.declared.Checked.TheVariants as checked
use Rattle.pairs.specs.Table.{number_of, values_of}
use Rattle.discovery.specs.declared.PageAnswer.{PageAnswer}
use Rattle.discovery.specs.declared.PageAnswer.TheVariants as page
use Rattle.discovery.specs.declared.PageCall.{PageCall}
use Rattle.discovery.specs.declared.PageCall.TheVariants as paging
use Rattle.answers.specs.View.{Tells, store_said, release_said, called, TellsPage}

-- ── the answers of the parts, told by the step ──
pub store_tells : (c : StoreCall) → Tells (store_said c) (store_number_of c) (store_values_of c)
store_tells (call.Taken storing.Stored) = record { number_is = refl; values_are = λ own. refl }
store_tells (call.Taken storing.MergeRefused) = record { number_is = refl; values_are = λ own. refl }
store_tells (call.Taken storing.WaitingFull) = record { number_is = refl; values_are = λ own. refl }
store_tells (call.TooLong n) = record { number_is = refl; values_are = λ own. refl }

pub stop_tells : (a : Checked) → Tells (stopped a) (number_of a) (values_of a)
stop_tells checked.Accepted = record { number_is = refl; values_are = λ own. refl }
stop_tells (checked.UniverseTimeout c u) = record { number_is = refl; values_are = λ own. refl }
stop_tells (checked.SourcesExceeded n) = record { number_is = refl; values_are = λ own. refl }
stop_tells (checked.OutOfSequence a l d) = record { number_is = refl; values_are = λ own. refl }
stop_tells checked.PairsFull = record { number_is = refl; values_are = λ own. refl }
stop_tells (checked.Repeated a l d) = record { number_is = refl; values_are = λ own. refl }

-- a release's number; its values are told where records are left
pub release_tells : (a : ReleaseAnswer) → step_number (release_said a) ≡ release_number_of a
release_tells (releasing.Released n b) = split (eqb n 0) (λ h. rw h) (λ h. rw h)
release_tells (releasing.OutputShort n) = refl

-- the answer keeps number and values
tells_listed : (S : Settings) (a : PageAnswer) → TellsPage (paging.Done a) (listed S a)
tells_listed S page.Taken = record { number_is = λ z. refl; values_are = λ z own. refl }
tells_listed S page.Listed =
    split S.announce_source_discovery
    (λ e. rw e (record { number_is = λ z. clash refl z; values_are = λ z. clash refl z }))
    (λ e. rw e (record { number_is = λ z. refl; values_are = λ z own. refl }))
tells_listed S page.PagesFull = record { number_is = λ z. refl; values_are = λ z own. refl }

tells_long : (n : ℕ) → TellsPage (paging.TooLong n) (says.TooLong n)
tells_long n = record { number_is = λ z. refl; values_are = λ z own. refl }

-- one law for each case of the call
module _ (S : Settings) (a : PageCall) (r : StepAnswer) where
  pub called_done : (p : PageAnswer) → a ≡ paging.Done p → r ≡ listed S p → (r ≡ called S a) × TellsPage a r
  called_done p e f =
      subst (λ (b : PageCall). (r ≡ called S b) × TellsPage b r) (sym e)
      (subst (λ (x : StepAnswer). (x ≡ listed S p) × TellsPage (paging.Done p) x) (sym f) (refl, tells_listed S p))

  pub called_long : (n : ℕ) → a ≡ paging.TooLong n → r ≡ says.TooLong n → (r ≡ called S a) × TellsPage a r
  called_long n e f =
      subst (λ (b : PageCall). (r ≡ called S b) × TellsPage b r) (sym e)
      (subst (λ (x : StepAnswer). (x ≡ says.TooLong n) × TellsPage (paging.TooLong n) x) (sym f) (refl, tells_long n))
