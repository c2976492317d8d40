-- What the opening of a step promises: lengths, then the poll.
-- Assumes nothing.
use Rattle.std.specs.Prelude.{◌≡◌, Bool, true, false, cond, List, ℕ, eqb}
use Rattle.std.specs.Prelude as rust
use Rattle.std.proofs.Math.Option.{Option, none, some}
use Rattle.rules.specs.Answer.{Value, first_of}
use Rattle.settings.specs.declared.Settings.{Settings}
use Rattle.pairs.specs.Table.{Key}
use Rattle.pairs.specs.Answers.{answer_of, sweep_number_of, sweep_values_of}
use Rattle.waiting_store.specs.Entries as waiting
use Rattle.discovery_pages.specs.Lent as pool
use Rattle.lengths.specs.Space.{Measured, shortage, excess, measured_number, measured_values}
use Rattle.model.specs.declared.StepAnswer.{StepAnswer}
use Rattle.model.specs.declared.StepAnswer.TheVariants as says
use Rattle.model.specs.Packet.{Packet, too_long}
use Rattle.model.specs.Answer.{step_number, step_values}
use Rattle.model.specs.Step.{Space, outcome, too_short, poll, packet_step, step}
use Rattle.receiver.specs.declared.Receiver.{Receiver}
use Rattle.receiver.specs.View.{Memory, state_of, space_in, Kept}
use Rattle.timeouts.specs.View.{idle}

-- what lengths and sweep say, each with its own number and values; and of two, the first that stops
abbrev pub length_said : Measured → ℕ × List Value
length_said x = (measured_number x, measured_values x)

abbrev pub sweep_said : Option Key → ℕ × List Value
sweep_said k = (sweep_number_of (answer_of k), sweep_values_of (answer_of k))

abbrev pub first_said : ℕ × List Value → ℕ × List Value → ℕ × List Value
first_said a b = cond (eqb a.0 0) b a

-- "1. Output under 35,072 bytes: 15. A lent part too long: 1 .. 2. Poll", in this order
abbrev pub opening : Option ℕ → Option ℕ → Option Key → ℕ × List Value
opening short long k = first_said (length_said (shortage short)) (first_said (length_said (excess long)) (sweep_said k))

-- whether lengths and poll end the step, and the step's answer where they do
abbrev pub stops : rust.Option StepAnswer → Bool
stops rust.None = false
stops (rust.Some a) = true

abbrev pub answer_of_opening : rust.Option StepAnswer → StepAnswer
answer_of_opening rust.None = says.Nothing
answer_of_opening (rust.Some a) = a

-- 1 and 2: a step on any packet of this length ends here, or goes on from here
pub record Opens (S : Settings) (now : ℕ) (long : Option ℕ) (r : Receiver) (m : Memory) (out : List ℕ) (r' : Receiver) (m' : Memory) (stopped : Bool) (answer : StepAnswer) : Type 0 where
  pub ends : stopped ≡ true → (p : Packet) → too_long p ≡ long → step (space_in m out) S now p (state_of r m) ≡ outcome (state_of r' m') answer
  pub goes_on : stopped ≡ false → (p : Packet) → too_long p ≡ long → step (space_in m out) S now p (state_of r m) ≡ packet_step S now p (state_of r' m')
  pub told : (own : List ℕ) → (step_number answer, step_values own answer) ≡ opening (too_short (space_in m out)) long (poll S now (state_of r m)).1
  pub fits : stopped ≡ false → (too_short (space_in m out) ≡ none) × (long ≡ none)
  pub all_left : (n : ℕ) → first_of (too_short (space_in m out)) long ≡ some n → (r' ≡ r) × (m' ≡ m)
  pub kept : Kept r m → Kept r' m'
  pub lent_waiting : waiting.Lent m.rows m.store m'.rows m'.store
  pub lent_pages : pool.Lent m.universes m'.universes

-- 1 and 2 would leave all and let the packet be taken
pub record Ready (S : Settings) (now : ℕ) (long : Option ℕ) (r : Receiver) (space : Space) : Type 0 where
  pub room : too_short space ≡ none
  pub fits : long ≡ none
  pub idles : idle S now r.sequences r.waiting.count ≡ true
