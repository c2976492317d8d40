-- The entry's header is its row's, and past the last that of a row of zeros.
-- Assumes nothing.
use Rattle.waiting_calls.specs.Calls.{data_at, data_past}
use native.Mathlib.Omega.{arith}
use Rattle.std.proofs.Common.{rules}
use Rattle.waiting_calls.proofs.Waiting.waiting_data.Goals as goal

pub returns-then-i-self : goal.returns-then-i-self
returns-then-i-self c =
    let v = c.args in
    λ store. data_at v.self.count v.i v.rows.now store c.head_of.result c.if-i-self.true c.requires (search rules) c.head_of.ensures

pub returns-else-i-self : goal.returns-else-i-self
returns-else-i-self c =
    let v = c.args in
    λ store. data_past v.self.count v.i v.rows.now store c.head_of-else-i-self.result (omega arith) c.head_of-else-i-self.ensures
