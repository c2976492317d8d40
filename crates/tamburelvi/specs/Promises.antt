-- What an exported call promises.
-- Assumes nothing.
use Rattle.std.specs.Prelude.{Result, Ok, ◌≡◌, List, ℕ}
use Rattle.rules.specs.Answer.{Value}
use Rattle.settings.specs.declared.Settings.{Settings}
use Rattle.settings_store.specs.declared.Layouts.{Layouts}
use Rattle.settings_store.specs.declared.StoreSettingsError.{StoreSettingsError}
use Rattle.settings_store.specs.declared.LoadSettingsError.{LoadSettingsError}
use Rattle.settings_store.specs.Record.{store_number, store_values, load_number, Stores, Loads}
use Rattle.model.specs.declared.StepAnswer.{StepAnswer}
use Rattle.model.specs.Answer.{step_number, step_values}
use Rattle.model.specs.State.{State}
use Rattle.model.specs.Packet.{Packet}
use Rattle.receiver.specs.View.{Memory, Does}
use Rattle.handlers.specs.View.{Steps}
use Rattle.boundary.specs.declared.Header.{Header}
use Rattle.boundary.specs.declared.Reply.{Reply}
use Rattle.boundary.specs.declared.Choices.{Choices}
use Rattle.boundary.specs.declared.Answer.{Answer}
use Rattle.boundary.specs.declared.Adjusted.{Adjusted}
use Rattle.boundary.specs.Boundary.{receiver_of, settings_of, values_in}

-- the receiver's own promise, and an answer with the model's number and values
pub record Replies (S : Settings) (now : ℕ) (p : Packet) (h : Header) (m : Memory) (out : List ℕ) (r : Reply) (m' : Memory) (out' : List ℕ) : Type 0 where
  pub answer : StepAnswer
  pub steps : Steps S now p (receiver_of h) m out (receiver_of r.header) m' out' answer
  pub number_is : r.answer.number ≡ step_number answer
  pub values_are : (own : List ℕ) → values_in own r.answer ≡ step_values own answer

-- the same for a further call
pub record Answers {A : Type 0} (call : State → State × A) (number : A → ℕ) (values : A → List Value) (h : Header) (m : Memory) (r : Reply) (m' : Memory) : Type 0 where
  pub answer : A
  pub does : Does call number (receiver_of h) m (receiver_of r.header) m' answer
  pub number_is : r.answer.number ≡ number answer
  pub values_are : (own : List ℕ) → values_in own r.answer ≡ values answer

-- the writer of a settings record: its own promise for the settings that the caller's stand for, and an answer with its number and values
pub record StoresSettings (c : Choices) (before : List ℕ) (r : Answer) (after : List ℕ) : Type 0 where
  pub answer : Result Unit StoreSettingsError
  pub stores : Stores (settings_of c) before answer after
  pub number_is : r.number ≡ store_number answer
  pub values_are : (own : List ℕ) → values_in own r ≡ store_values answer

-- its reader: its own promise, the number, and what the caller's settings become: those that were read, on a stop what they were, field by field
pub record LoadsSettings (layouts : Layouts) (c : Choices) (bytes : List ℕ) (r : Adjusted) : Type 0 where
  pub answer : Result Settings LoadSettingsError
  pub loads : Loads layouts bytes answer
  pub number_is : r.number ≡ load_number answer
  pub taken : (s : Settings) → answer ≡ Ok s → settings_of r.choices ≡ s
  pub left : (r.number ≡ 0 → ⊥) → r.choices ≡ c
