-- The parts follow one another.
-- Assumes nothing.
use Rattle.printing.specs.TextLaws.{tells_then}
use Rattle.replay.proofs.dump.dump.Goals as goal

pub put_waiting-d-requires : goal.put_waiting-d-requires
put_waiting-d-requires c = (c.put_table-b.ensures.ready, c.requires.1.kept_waiting c.requires.2)

pub put_discovered-f-requires : goal.put_discovered-f-requires
put_discovered-f-requires c = (c.put_listened-e.ensures.ready, c.requires.1.kept_discovery c.requires.3)

pub returns : goal.returns
returns c =
    tells_then c.put_table-a.ensures (tells_then c.put_table-b.ensures (tells_then c.put_waiting-d.ensures (tells_then c.put_listened-e.ensures (tells_then c.put_discovered-f.ensures c.put_text.ensures))))
