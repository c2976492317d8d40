-- The rows passed are turned, the others as they were.
-- Assumes nothing.
use Rattle.std.proofs.Common.{◌≡◌, ◌++◌, map, take, drop}
use Rattle.discovery_rows.specs.Rows.{turned_row}
use Rattle.discovery_rows.proofs.rows.turn_pages.Given as goal

abbrev pub invariant-loop-row : goal.invariant-loop-row
invariant-loop-row l = l.row-items ≡ map (turned_row l.cid) (take l.row-index l.initial.row-items) ++ drop l.row-index l.initial.row-items
