-- The entry is its row's; where there is none, that of a row of zeros.
-- Assumes nothing.
use mathlib.Core.Path.{ap, ◌∙◌}
use mathlib.Core.List.{[]}
use Rattle.pair_rows.specs.View.{cid_of}
use Rattle.reads.specs.Reads.{zero_cid, told_at}
use Rattle.reads.proofs.cid_at.Goals as goal

pub returns : goal.returns
returns c = c.read_cid.ensures ∙ ap cid_of c.entry_at.ensures ∙ told_at cid_of _ [] zero_cid c.args.count c.args.at c.args.sources.now
