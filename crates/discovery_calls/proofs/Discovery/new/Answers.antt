-- No row is in use.
-- Assumes nothing.
use Rattle.discovery_calls.specs.Sweep.{fresh}
use Rattle.discovery_calls.proofs.Discovery.new.Goals as goal

pub returns : goal.returns
returns c = fresh
