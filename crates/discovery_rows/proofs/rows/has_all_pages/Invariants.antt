-- With too few rows some place is not held. Otherwise what is left to test of the rows not yet passed is what was to be tested of all.
-- Assumes nothing.
use Rattle.std.proofs.Common.{◌≡◌, suc, ◌-◌, ◌≤◌, take, drop}
use Rattle.discovery_rows.specs.Rows.{in_turn}
use Rattle.discovery_rows.proofs.rows.has_all_pages.Given as goal

abbrev pub invariant-loop-row : goal.invariant-loop-row
invariant-loop-row l = (l.next ≤ l.row-index) × (in_turn l.cid l.next (suc l.last_page - l.next) (drop l.row-index (take l.count l.pages)) ≡ in_turn l.cid 0 (suc l.last_page) (take l.count l.pages))
