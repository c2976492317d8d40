-- A reset keeps every memory.
-- Assumes nothing.
use Rattle.trials.proofs.rig.Rig.reset_pairs.Goals as goal

pub invariant_of-self : goal.invariant_of-self
invariant_of-self c = (c.reset_pairs-self-inside.ensures _).kept c.self.invariant
