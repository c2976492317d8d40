-- The numbers passed so far are told, each behind a comma.
-- Assumes nothing.
use Rattle.std.proofs.Common.{ap, arith}
use Rattle.printing.specs.Text.{decimal_of, tail_text}
use Rattle.printing.specs.TextLaws.{tells_none, tells_as, tells_number}
use Rattle.printing.proofs.print.put_numbers.Goals as goal

pub loop-u-init : goal.loop-u-init
unfolding tail_text
loop-u-init c = tells_none c.args.out.now c.args.at c.requires

pub loop-u-preserved : goal.loop-u-preserved
loop-u-preserved c = tells_number c.args.list.now c.loop-u.u-index (omega arith) c.loop-u.invariant c.put-n.ensures (tells_as (ap decimal_of c.from.ensures) c.put_decimal-n.ensures)
