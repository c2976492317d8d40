-- The mark, then the list.
-- Assumes nothing.
use mathlib.Core.Path.{ap}
use Rattle.printing.specs.Text.{list_text}
use Rattle.printing.specs.TextLaws.{tells_as, tells_then}
use Rattle.replay.proofs.dump.put_listened.Goals as goal

pub returns : goal.returns
returns c =
    tells_then c.put_text-a.ensures (tells_then (tells_as (ap list_text c.front.ensures) c.put_list-b.ensures) c.put.ensures)
