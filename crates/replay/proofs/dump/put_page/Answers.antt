-- The fields follow one another.
-- Assumes nothing.
use Rattle.printing.specs.TextLaws.{tells_then}
use Rattle.replay.proofs.dump.put_page.Goals as goal

pub returns : goal.returns
returns c =
    tells_then c.put-a.ensures (tells_then c.put-b.ensures (tells_then c.put_spaced-d.ensures (tells_then c.put-e.ensures (tells_then c.put_list-f.ensures c.put.ensures))))
