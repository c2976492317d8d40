-- A fresh receiver may be called with any lent parts; the arrays are as long as their types say.
-- Assumes nothing.
use Rattle.std.proofs.Common.{[], rules}
use Rattle.receiver.specs.View.{memory}
use Rattle.trials.proofs.bounds.data_lengths.Goals as goal

pub handle_data_packet-h-requires : goal.handle_data_packet-h-requires
handle_data_packet-h-requires c = (c.new-receiver.ensures (memory _ _ _ _ _ _ [] _ _ _ _)).kept (search rules)
