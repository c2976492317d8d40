-- No pair and no CID counts.
-- Assumes nothing.
use Rattle.receiver.specs.Further.{resets_pairs}
use Rattle.receiver.proofs.Receiver.reset_pairs.Goals as goal

pub returns : goal.returns
returns c m = resets_pairs c.args.self c.clear.result m c.clear.ensures
