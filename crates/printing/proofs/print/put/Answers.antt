-- The byte is stored in front after all others were handed over; a failed write sets the mark.
-- Assumes nothing.
use Rattle.std.proofs.Common.{arith}
use Rattle.printing.specs.TextLaws.{tells_flushed, tells_marked}
use Rattle.printing.proofs.print.put.Goals.{then-not-flush, else-not-flush}
use Rattle.printing.proofs.print.put.Goals as goal

pub returns : goal.returns
returns c =
    let v = c.args in
    elim c.if-not-flush.branch [
      | then-not-flush w ↦ rw w.out-is (tells_marked v.out.now v.at v.b c.requires.ready_some (omega arith))
      | else-not-flush w ↦ rw w.out-is (tells_flushed v.out.now v.at v.b c.requires.ready_some (omega arith))
    ]
