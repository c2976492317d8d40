-- What a sweep answers, with number and values by document 01's table.
-- Assumes nothing.
use Rattle.std.proofs.Math.Option.{Option, none, some}
use Rattle.std.specs.Prelude.{List, [], ◌∷◌, ℕ}
use Rattle.rules.specs.Answer.{Value, number, source}
use Rattle.pairs.specs.declared.SweepAnswer.{SweepAnswer}
use Rattle.pairs.specs.declared.SweepAnswer.TheVariants.{Quiet, TimedOut}
use Rattle.pairs.specs.Table.{Key}

-- what a sweep answers: the pair of number 4, or nothing
abbrev pub answer_of : Option Key → SweepAnswer
answer_of none = Quiet
answer_of (some k) = TimedOut k.cid k.universe

abbrev pub sweep_number_of : SweepAnswer → ℕ
sweep_number_of Quiet = 0
sweep_number_of (TimedOut c u) = 4

abbrev pub sweep_values_of : SweepAnswer → List Value
sweep_values_of Quiet = []
sweep_values_of (TimedOut c u) = source c ∷ number u ∷ []
