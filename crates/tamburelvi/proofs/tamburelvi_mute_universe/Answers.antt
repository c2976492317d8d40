-- What the receiver's call ensures, told over the boundary.
-- Assumes nothing.
use Rattle.model.specs.Answer.{mute_number, mute_values}
use Rattle.model.specs.Calls.{mute_call}
use Rattle.receiver.specs.View.{with_listened_rows}
use Rattle.boundary.specs.Boundary.{muted_of}
use Rattle.tamburelvi.specs.Laws.{answers}
use Rattle.boundary.proofs.Laws.{tells_mute}
use Rattle.tamburelvi.proofs.tamburelvi_mute_universe.Goals as goal

pub returns : goal.returns
returns c m =
    let v = c.args in
    let h = c.mute_universe-h in
    answers (mute_call v.universe) mute_number mute_values muted_of tells_mute v.header (with_listened_rows v.heard.now m) h.result.left (with_listened_rows h.new.heard m) h.result.answer _ _ _
    c.receiver_of.ensures (h.ensures m) c.header_of.ensures c.muted.ensures
