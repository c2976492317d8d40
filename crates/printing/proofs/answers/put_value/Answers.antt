-- The number, a space, and the rest of the line.
-- Assumes nothing.
use Rattle.printing.specs.TextLaws.{tells_then}
use Rattle.printing.proofs.answers.put_value.Goals as goal

pub returns : goal.returns
returns c =
    let c1 = c in
    let c2 = c1 in
    let c3 = c2 in
    tells_then c3.put_decimal-a.ensures (tells_then c2.put-b.ensures c1.put_number.ensures)
