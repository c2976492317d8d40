-- The row read by its words; the third holds universe and sequence number.
-- Assumes nothing.
use Rattle.std.proofs.Common.{rules}
use Rattle.pair_rows.specs.View.{cid_of, pair_of}
use Rattle.pair_rows.proofs.rows.pair_of.Goals as goal

pub returns : goal.returns
unfolding pair_of cid_of
returns c = search rules
