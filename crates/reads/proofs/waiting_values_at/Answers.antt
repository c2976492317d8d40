-- The values lie in their block; past the last there are none.
-- Assumes nothing.
use mathlib.Core.Path.{ap, ◌∙◌}
use mathlib.Core.List.{List}
use native.Mathlib.Omega.{arith}
use lib.ListN.{get_or}
use Rattle.merge.specs.Merge.{Dmx}
use Rattle.waiting_store.specs.Entries.{nothing}
use Rattle.waiting_calls.specs.Calls.{values_past}
use Rattle.reads.specs.Reads.{values_lie, waiting_within}
use Rattle.reads.proofs.waiting_values_at.Goals as goal

pub returns-then-at-min : goal.returns-then-at-min
returns-then-at-min c =
    let v = c.args in
    let h = c.if-at-min.true in
    λ store. values_lie v.header.waiting v.at c.count_of.result v.rows.now store (omega (arith, h, c.min.ensures)) (omega (arith, h, c.min.ensures, c.told-rows)) c.count_of.ensures

pub returns-else-at-min : goal.returns-else-at-min
returns-else-at-min c =
    let v = c.args in
    λ store. values_past c.min.result v.at v.rows.now store c.if-at-min.false
    ∙ ap (λ (ds : List Dmx). (get_or ds v.at nothing).values) (waiting_within v.header.waiting c.min.result v.rows.now store c.told-rows c.min.ensures)
