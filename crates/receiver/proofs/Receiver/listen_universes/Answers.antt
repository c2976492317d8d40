-- What the list's call ensures is the call's outcome.
-- Assumes nothing.
use Rattle.receiver.specs.View.{with_listened_rows}
use Rattle.receiver.specs.Further.{does_listen}
use Rattle.receiver.proofs.Receiver.listen_universes.Goals as goal

pub returns : goal.returns
returns c m =
    let v = c.args in
    does_listen v.self (with_listened_rows v.heard.now m) c.requires v.universes.now c.listen_universes-a.result c.listen_universes-a.new.rows c.listen_universes-a.ensures
