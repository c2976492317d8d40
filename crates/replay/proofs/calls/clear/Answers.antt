-- The call, then the line of its answer.
-- Assumes nothing.
use mathlib.Core.Path.{refl}
use Rattle.model.specs.Answer.{clear_values}
use Rattle.replay.specs.SessionLaws.{carries_call}
use Rattle.replay.proofs.calls.clear.Goals as goal

pub returns : goal.returns
returns c = λ m. carries_call clear_values (c.clear_waiting_data-a.ensures m) refl c.put_clear-at.ensures
