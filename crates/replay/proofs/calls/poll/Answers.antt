-- The call, then the line of its answer.
-- Assumes nothing.
use mathlib.Core.Path.{refl}
use Rattle.model.specs.Answer.{poll_values}
use Rattle.replay.specs.SessionLaws.{carries_call}
use Rattle.replay.proofs.calls.poll.Goals as goal

pub returns : goal.returns
returns c = λ m. carries_call poll_values (c.poll-a.ensures m) refl c.put_poll-at.ensures
