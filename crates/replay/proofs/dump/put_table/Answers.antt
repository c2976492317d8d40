-- The pairs, then the sources.
-- Assumes nothing.
use Rattle.printing.specs.TextLaws.{tells_then}
use Rattle.replay.proofs.dump.put_table.Goals as goal

pub returns : goal.returns
returns c =
    tells_then c.put_pairs-a.ensures c.put_sources_line.ensures
