-- Every part is empty but the listened universes.
-- Assumes nothing.
use Rattle.receiver.specs.View.{with_listened_rows}
use Rattle.receiver.specs.Further.{begins}
use Rattle.receiver.proofs.Receiver.new.Goals as goal

pub returns : goal.returns
returns c m =
    begins c.new.result c.new-2.result c.new-3.result c.new-4.result (with_listened_rows c.new-3.new.rows m) c.new.ensures c.new-2.ensures c.new-3.ensures c.new-4.ensures
