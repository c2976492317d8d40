-- No entry counts.
-- Assumes nothing.
use Rattle.receiver.specs.Further.{clears_all}
use Rattle.receiver.proofs.Receiver.clear_all_waiting_data.Goals as goal

pub returns : goal.returns
returns c m = clears_all c.args.self c.clear_all_waiting_data.result m c.clear_all_waiting_data.ensures
