-- The pair table decides: an accepted packet goes on, a stopped one leaves all but the table.
-- Assumes nothing.
use mathlib.Core.Path.{sym, subst, ◌∙◌}
use Rattle.model.specs.declared.StepAnswer.{StepAnswer}
use Rattle.packets.specs.View.{packet_of}
use Rattle.acceptance.specs.View.{lent_of}
use Rattle.arrivals.specs.View.{rows_of, Arrives}
use Rattle.arrivals.specs.Laws.{arrives_accepted, arrives_stopped}
use Rattle.arrivals.proofs.arrive_data.Goals as goal

pub returns-then-is_accepted : goal.returns-then-is_accepted
returns-then-is_accepted c =
    let v = c.args in
    arrives_accepted v.settings v.reading (packet_of v.packet v.values.now) (rows_of v.«data».table v.pairs.now v.sources.now)
    (rows_of c.check_seq_number-a.result.left.table c.check_seq_number-a.new.pairs c.check_seq_number-a.new.sources) c.check_seq_number-a.result.answer c.check_seq_number-a.ensures
    (lent_of v.waiting.count v.listened v.rows.now v.store.now v.heard.now)
    (lent_of c.accept_data-r.result.waiting.count c.accept_data-r.result.listened c.accept_data-r.new.rows c.accept_data-r.new.store c.accept_data-r.new.heard)
    v.out.now c.accept_data-r.new.out c.accept_data-r.result.answer (sym c.is_accepted.ensures ∙ c.if-is_accepted.true) c.accept_data-r.ensures

pub returns-else-is_accepted : goal.returns-else-is_accepted
returns-else-is_accepted c =
    let v = c.args in
    let m = lent_of v.waiting.count v.listened v.rows.now v.store.now v.heard.now in
    let a = rows_of v.«data».table v.pairs.now v.sources.now in
    let b = rows_of c.check_seq_number-a.result.left.table c.check_seq_number-a.new.pairs c.check_seq_number-a.new.sources in
    let d = packet_of v.packet v.values.now in
    subst (λ (w : StepAnswer). Arrives v.settings v.reading d a m v.out.now b m v.out.now w) (sym c.stop_answer.ensures.answer)
    (arrives_stopped v.settings v.reading d a b c.check_seq_number-a.result.answer c.check_seq_number-a.ensures m v.out.now
    (sym c.is_accepted.ensures ∙ c.if-is_accepted.false) c.requires.1 c.requires.2)
