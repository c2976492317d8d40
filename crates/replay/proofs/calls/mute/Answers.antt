-- The call, then the line of its answer.
-- Assumes nothing.
use mathlib.Core.Path.{refl}
use Rattle.model.specs.Answer.{mute_values}
use Rattle.replay.specs.SessionLaws.{carries_call}
use Rattle.replay.proofs.calls.mute.Goals as goal

pub returns : goal.returns
returns c = λ m. carries_call mute_values (c.mute_universe-a.ensures m) refl c.put_mute-at.ensures
