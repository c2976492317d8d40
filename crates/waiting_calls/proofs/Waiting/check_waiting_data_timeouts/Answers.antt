-- The look decides whether there is a pass at all; the closure computes the test of age.
-- Assumes nothing.
use mathlib.Core.Path.{sym, ◌∙◌}
use Rattle.std.proofs.Common.{rules, not, Bool}
use Rattle.merge.specs.declared.DmxData.{DmxData}
use Rattle.rules.specs.Age.{expired}
use Rattle.waiting_calls.specs.Calls.{sweeps_look, sweeps_look_none}
use Rattle.waiting_calls.proofs.Waiting.check_waiting_data_timeouts.Goals as goal

pub returns-then-any_dropped : goal.returns-then-any_dropped
returns-then-any_dropped c =
    let v = c.args in
    let m = c.compact in
    let test : DmxData → Bool = λ d. not (expired v.reading d.recv_timestamp) in
    sweeps_look v.self.count v.rows.now v.store.now c.requires v.reading m.new.rows m.new.store m.result
    (sym (c.any_dropped.ensures test (λ d b k. search rules)) ∙ c.if-any_dropped.true) m.ensures.0 (m.ensures.2 test (λ d b k. search rules))

pub returns-else-any_dropped : goal.returns-else-any_dropped
returns-else-any_dropped c =
    let v = c.args in
    let test : DmxData → Bool = λ d. not (expired v.reading d.recv_timestamp) in
    sweeps_look_none v.self.count v.rows.now v.store.now c.requires v.reading (sym (c.any_dropped.ensures test (λ d b k. search rules)) ∙ c.if-any_dropped.false)
