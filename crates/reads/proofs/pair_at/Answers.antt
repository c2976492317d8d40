-- The entry is its row's; where there is none, that of a row of zeros.
-- Assumes nothing.
use mathlib.Core.Path.{ap, ◌∙◌}
use mathlib.Core.List.{[]}
use Rattle.pair_rows.specs.View.{pair_of}
use Rattle.reads.specs.Reads.{zero_pair, told_at}
use Rattle.reads.proofs.pair_at.Goals as goal

pub returns : goal.returns
returns c = c.read_pair.ensures ∙ ap pair_of c.entry_at.ensures ∙ told_at pair_of _ [] zero_pair c.args.count c.args.at c.args.pairs.now
