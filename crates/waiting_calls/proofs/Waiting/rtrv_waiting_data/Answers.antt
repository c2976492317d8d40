-- A short output leaves all. Else the records are written first; then the address's entries are passed over.
-- Assumes nothing.
use Rattle.std.proofs.Common.{rules, not, nat_eq}
use Rattle.waiting_calls.specs.Calls.{called_short, called_released, leaves}
use Rattle.waiting_calls.proofs.Waiting.rtrv_waiting_data.Goals as goal

pub returns-then-out-lt-RELEASE_LENGTH : goal.returns-then-out-lt-RELEASE_LENGTH
returns-then-out-lt-RELEASE_LENGTH c =
    let v = c.args in
    called_short v.self.count v.rows.now v.store.now v.reading v.address v.out.now c.requires c.if-out-lt-RELEASE_LENGTH.true

pub returns : goal.returns
returns c =
    let v = c.args in
    let m = c.compact-count in
    let w = c.write_release-w in
    let kept = m.ensures.2 (λ d. not (nat_eq d.sync_uni v.address)) (λ d b k. search rules) in
    called_released v.self.count v.rows.now v.store.now v.reading v.address v.out.now m.new.rows m.new.store w.new.out m.result c.if-out-lt-RELEASE_LENGTH.false
    w.result.records w.result.bytes
    (leaves v.self.count v.rows.now v.store.now c.requires v.address m.new.rows m.new.store m.result m.ensures.0 kept) w.ensures
