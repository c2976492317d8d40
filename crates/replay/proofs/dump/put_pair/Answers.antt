-- The fields follow one another.
-- Assumes nothing.
use Rattle.printing.specs.TextLaws.{tells_then}
use Rattle.replay.proofs.dump.put_pair.Goals as goal

pub returns : goal.returns
returns c =
    tells_then c.put-a.ensures (tells_then c.put-b.ensures (tells_then c.put_cid-d.ensures (tells_then c.put_spaced-e.ensures (tells_then c.put_spaced-f.ensures (tells_then c.put_spaced-g.ensures c.put.ensures)))))
