-- The receiver is as it was.
-- Assumes nothing.
use Rattle.std.proofs.Common.{rules, refl}
use Rattle.replay.specs.SessionLaws.{carries_same}
use Rattle.replay.proofs.calls.set_answered.Goals as goal

pub returns : goal.returns
returns c = λ m. carries_same refl (search rules) c.put_setting-at.ensures
