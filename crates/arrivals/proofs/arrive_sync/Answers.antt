-- The pair table decides: an accepted packet releases, a stopped one leaves all but the table.
-- Assumes nothing.
use mathlib.Core.Path.{sym, subst, ◌∙◌}
use Rattle.model.specs.declared.StepAnswer.{StepAnswer}
use Rattle.packets.specs.View.{sync_of}
use Rattle.arrivals.specs.View.{rows_of, Synchronises}
use Rattle.arrivals.specs.Laws.{synchronises_called, synchronises_stopped}
use Rattle.arrivals.proofs.arrive_sync.Goals as goal

pub returns-then-is_accepted : goal.returns-then-is_accepted
returns-then-is_accepted c =
    let v = c.args in
    let a = rows_of v.sync.table v.pairs.now v.sources.now in
    let b = rows_of c.check_seq_number-s.result.left.table c.check_seq_number-s.new.pairs c.check_seq_number-s.new.sources in
    subst (λ (w : StepAnswer). Synchronises v.settings v.reading (sync_of v.packet) a v.waiting.count v.rows.now v.store.now v.out.now b c.rtrv_waiting_data-r.result.left.count c.rtrv_waiting_data-r.new.rows c.rtrv_waiting_data-r.new.store c.rtrv_waiting_data-r.new.out w) (sym c.release_answer.ensures.answer)
    (synchronises_called v.settings v.reading (sync_of v.packet) a b c.check_seq_number-s.result.answer c.check_seq_number-s.ensures v.waiting.count v.rows.now v.store.now v.out.now
    c.rtrv_waiting_data-r.result.left.count c.rtrv_waiting_data-r.new.rows c.rtrv_waiting_data-r.new.store c.rtrv_waiting_data-r.new.out c.rtrv_waiting_data-r.result.answer
    (sym c.is_accepted.ensures ∙ c.if-is_accepted.true) c.requires.2 c.rtrv_waiting_data-r.ensures)

pub returns-else-is_accepted : goal.returns-else-is_accepted
returns-else-is_accepted c =
    let v = c.args in
    let a = rows_of v.sync.table v.pairs.now v.sources.now in
    let b = rows_of c.check_seq_number-s.result.left.table c.check_seq_number-s.new.pairs c.check_seq_number-s.new.sources in
    subst (λ (w : StepAnswer). Synchronises v.settings v.reading (sync_of v.packet) a v.waiting.count v.rows.now v.store.now v.out.now b v.waiting.count v.rows.now v.store.now v.out.now w) (sym c.stop_answer.ensures.answer)
    (synchronises_stopped v.settings v.reading (sync_of v.packet) a b c.check_seq_number-s.result.answer c.check_seq_number-s.ensures v.waiting.count v.rows.now v.store.now v.out.now
    (sym c.is_accepted.ensures ∙ c.if-is_accepted.false) c.requires.1)
