-- Listening keeps what any call may follow.
-- Assumes nothing.
use Rattle.trials.specs.View.{memory_in}
use Rattle.trials.proofs.rig.Rig.listen.Goals as goal

pub invariant_of-self : goal.invariant_of-self
invariant_of-self c = (c.listen_universes-answer.ensures (memory_in c.self.inside.memory)).kept c.self.invariant
