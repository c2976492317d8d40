-- The call, then the line of its answer.
-- Assumes nothing.
use mathlib.Core.Path.{refl}
use Rattle.model.specs.Answer.{expiry_values}
use Rattle.replay.specs.SessionLaws.{carries_call}
use Rattle.replay.proofs.calls.sweep.Goals as goal

pub returns : goal.returns
returns c = λ m. carries_call expiry_values (c.remove_expired_sources-a.ensures m) refl c.put_expiry-at.ensures
