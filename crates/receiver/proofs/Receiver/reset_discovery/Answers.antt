-- No source and no page counts.
-- Assumes nothing.
use Rattle.receiver.specs.Further.{resets_discovery}
use Rattle.receiver.proofs.Receiver.reset_discovery.Goals as goal

pub returns : goal.returns
returns c m = resets_discovery c.args.self c.clear.result m c.clear.ensures
