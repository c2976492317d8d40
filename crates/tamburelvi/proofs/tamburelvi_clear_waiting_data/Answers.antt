-- What the receiver's call ensures, told over the boundary.
-- Assumes nothing.
use lib.ListN.{length}
use Rattle.model.specs.Answer.{clear_number, clear_values}
use Rattle.model.specs.Calls.{clear_call}
use Rattle.receiver.specs.View.{with_waiting_rows}
use Rattle.boundary.specs.Boundary.{cleared_of}
use Rattle.tamburelvi.specs.Laws.{answers}
use Rattle.boundary.proofs.Laws.{tells_clear}
use Rattle.tamburelvi.proofs.tamburelvi_clear_waiting_data.Goals as goal

pub returns : goal.returns
returns c m =
    let v = c.args in
    let h = c.clear_waiting_data-h in
    answers (clear_call (length v.store.now) v.universe) clear_number clear_values cleared_of tells_clear v.header (with_waiting_rows v.rows.now v.store.now m) h.result.left (with_waiting_rows h.new.rows h.new.store m) h.result.answer _ _ _
    c.receiver_of.ensures (h.ensures m) c.header_of.ensures c.cleared.ensures
