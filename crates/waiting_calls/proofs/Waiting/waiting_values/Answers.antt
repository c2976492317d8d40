-- The entry's values are as many bytes of its block as its row counts; past the last there are none.
-- Assumes nothing.
use Rattle.waiting_calls.specs.Calls.{values_at, values_past}
use native.Mathlib.Omega.{arith}
use Rattle.waiting_calls.proofs.Waiting.waiting_values.Goals as goal

pub returns-then-i-self : goal.returns-then-i-self
returns-then-i-self c =
    let v = c.args in
    values_at v.self.count v.i c.count_of.result v.rows.now v.store.now c.requires c.if-i-self.true c.count_of.ensures

pub returns-else-i-self : goal.returns-else-i-self
returns-else-i-self c =
    let v = c.args in
    values_past v.self.count v.i v.rows.now v.store.now (omega arith)
