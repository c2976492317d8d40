-- Document 01, 'What stops a call': 1 for a lent part that is too long, 15 for lent memory that is too short.
-- Assumes nothing.
use Rattle.std.proofs.Math.Option.{Option, none, some}
use Rattle.std.specs.Prelude.{List, [], ◌∷◌, ℕ, ◌+◌, length, Result, Ok, Err}
use Rattle.rules.specs.Answer.{Value, number}
use Rattle.model.specs.Step.{Space}
use Rattle.lengths.specs.declared.LengthError.{LengthError}
use Rattle.lengths.specs.declared.LengthError.TheVariants as refused

-- a universe takes two bytes
abbrev pub bytes : List ℕ → ℕ
bytes universes = length universes + length universes

-- what a step is lent: output, waiting values, page universes
abbrev pub space_of : List ℕ → List ℕ → List ℕ → Space
space_of out store universes = record { output = length out; waiting_values = length store; page_universes = bytes universes }

-- what a test of lengths answers: nothing, or what is wrong with them
abbrev pub Measured : Type 0
Measured = Result (Unit {0}) LengthError

-- 15 with the bytes needed
abbrev pub shortage : Option ℕ → Measured
shortage none = Ok tt
shortage (some n) = Err (refused.TooShort n)

-- 1 with the length
abbrev pub excess : Option ℕ → Measured
excess none = Ok tt
excess (some n) = Err (refused.TooLong n)

-- what the first of two tests finds, or else what the second does
abbrev pub first_found : Measured → Measured → Measured
first_found (Ok fits) second = second
first_found (Err e) second = Err e

abbrev pub measured_number : Measured → ℕ
measured_number (Ok fits) = 0
measured_number (Err (refused.TooLong n)) = 1
measured_number (Err (refused.TooShort n)) = 15

abbrev pub measured_values : Measured → List Value
measured_values (Ok fits) = []
measured_values (Err (refused.TooLong n)) = number n ∷ []
measured_values (Err (refused.TooShort n)) = number n ∷ []
