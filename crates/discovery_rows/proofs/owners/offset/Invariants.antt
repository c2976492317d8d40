-- The sum so far is that of the rows passed; each adds at most 512.
-- Assumes nothing.
use Rattle.std.proofs.Common.{◌≡◌, ◌≤◌, ◌*◌, take}
use Rattle.discovery_rows.specs.Rows.{total}
use Rattle.discovery.specs.Discovery.{most_universes}
use Rattle.discovery_rows.proofs.owners.offset.Given as goal

abbrev pub invariant-loop-row : goal.invariant-loop-row
invariant-loop-row l = (l.sum ≡ total (take l.row-index l.pages)) × (l.sum ≤ most_universes * l.row-index)
