-- The space, then the number.
-- Assumes nothing.
use Rattle.printing.specs.TextLaws.{tells_then}
use Rattle.replay.proofs.dump.put_spaced.Goals as goal

pub returns : goal.returns
returns c =
    tells_then c.put-a.ensures c.put_decimal.ensures
