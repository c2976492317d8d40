-- The mark, the CIDs and the line end.
-- Assumes nothing.
use Rattle.printing.specs.TextLaws.{tells_then}
use Rattle.replay.proofs.dump.put_sources_line.Goals as goal

pub returns : goal.returns
returns c =
    tells_then c.put-a.ensures (tells_then c.put_text-b.ensures (tells_then c.put_cids-d.ensures c.put.ensures))
