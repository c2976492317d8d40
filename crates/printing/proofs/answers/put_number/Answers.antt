-- The number and the line end.
-- Assumes nothing.
use Rattle.printing.specs.TextLaws.{tells_then}
use Rattle.printing.proofs.answers.put_number.Goals as goal

pub returns : goal.returns
returns c =
    let c1 = c in
    let c2 = c1 in
    tells_then c2.put_decimal-a.ensures c1.put.ensures
