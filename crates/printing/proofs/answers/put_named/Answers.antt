-- The byte string follows the number.
-- Assumes nothing.
use Rattle.printing.specs.TextLaws.{tells_then}
use Rattle.printing.proofs.answers.put_named.Goals as goal

pub returns : goal.returns
returns c =
    let c1 = c in
    let c2 = c1 in
    let c3 = c2 in
    let c4 = c3 in
    tells_then c4.put_decimal-a.ensures (tells_then c3.put-b.ensures (tells_then c2.put_byte_string-d.ensures c1.put.ensures))
