-- What the receiver's call ensures, told over the boundary.
-- Assumes nothing.
use Rattle.model.specs.Answer.{listen_number, listen_values}
use Rattle.model.specs.Calls.{listen_call}
use Rattle.receiver.specs.View.{with_listened_rows}
use Rattle.boundary.specs.Boundary.{heard_of}
use Rattle.tamburelvi.specs.Laws.{answers}
use Rattle.boundary.proofs.Laws.{tells_listen}
use Rattle.tamburelvi.proofs.tamburelvi_listen_universes.Goals as goal

pub returns : goal.returns
returns c m =
    let v = c.args in
    let h = c.listen_universes-h in
    answers (listen_call v.list.now) listen_number listen_values heard_of tells_listen v.header (with_listened_rows v.heard.now m) h.result.left (with_listened_rows h.new.heard m) h.result.answer _ _ _
    c.receiver_of.ensures (h.ensures m) c.header_of.ensures c.heard_answer.ensures
