-- The halves' promises in turn.
-- Assumes nothing.
use Rattle.receiver.specs.Further.{resets}
use Rattle.receiver.proofs.Receiver.reset_sources.Goals as goal

pub returns : goal.returns
returns c m = resets c.args.self c.reset_pairs.result c.reset_discovery.result m (c.reset_pairs.ensures m) (c.reset_discovery.ensures m)
