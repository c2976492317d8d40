-- The readings, folded to the least.
-- Assumes nothing.
use Rattle.std.proofs.Common.{rules}
use lib.ListN.{take}
use Rattle.pair_rows.specs.View.{last_reading}
use Rattle.pair_rows.specs.Rows.{lower_folded}
use Rattle.pair_rows.proofs.search.least_reading.Goals as goal

pub returns : goal.returns
returns c =
    let v = c.args in
    rw (lower_folded last_reading (take v.n v.pairs.now)) (search rules)
