-- The CID is the two words of the row.
-- Assumes nothing.
use Rattle.std.proofs.Common.{rules}
use Rattle.pair_rows.specs.View.{cid_of}
use Rattle.pair_rows.proofs.rows.source_row.Goals as goal

pub returns : goal.returns
unfolding cid_of
returns c = search rules
