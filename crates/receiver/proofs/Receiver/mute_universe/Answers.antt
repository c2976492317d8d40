-- What the list's call ensures is the call's outcome.
-- Assumes nothing.
use Rattle.receiver.specs.View.{with_listened_rows}
use Rattle.receiver.specs.Further.{does_mute}
use Rattle.receiver.proofs.Receiver.mute_universe.Goals as goal

pub returns : goal.returns
returns c m =
    let v = c.args in
    does_mute v.self (with_listened_rows v.heard.now m) c.requires v.universe c.mute_universe-a.result c.mute_universe-a.new.rows c.mute_universe-a.ensures
