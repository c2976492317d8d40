-- A fresh receiver may be called with any memory; the arrays are as long as their types say.
-- Assumes nothing.
use Rattle.std.proofs.Common.{rules}
use Rattle.trials.specs.View.{memory_in}
use Rattle.trials.proofs.rig.Rig.new.Goals as goal

pub invariant_of-result : goal.invariant_of-result
invariant_of-result c = (c.new-receiver.ensures (memory_in c.new-memory.result)).kept (search rules)
