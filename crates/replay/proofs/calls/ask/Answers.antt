-- The receiver is as it was.
-- Assumes nothing.
use mathlib.Core.Path.{refl, ap}
use Rattle.printing.specs.Answers.{flag_line}
use Rattle.printing.specs.TextLaws.{tells_as}
use Rattle.replay.specs.SessionLaws.{carries_same}
use Rattle.replay.proofs.calls.ask.Goals as goal

pub returns : goal.returns
returns c = λ m. carries_same refl refl (tells_as (ap flag_line (c.is_listening-held.ensures m)) c.put_flag-at.ensures)
