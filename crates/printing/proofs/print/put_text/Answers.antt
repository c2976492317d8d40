-- The bytes passed so far are told.
-- Assumes nothing.
use Rattle.std.proofs.Common.{arith}
use Rattle.printing.specs.TextLaws.{tells_byte}
use Rattle.printing.proofs.print.put_text.Goals as goal

pub loop-b-preserved : goal.loop-b-preserved
loop-b-preserved c = tells_byte c.args.text.now c.loop-b.b-index (omega arith) c.loop-b.invariant c.put-n.ensures
