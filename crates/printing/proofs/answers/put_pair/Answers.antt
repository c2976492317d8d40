-- The values follow one another.
-- Assumes nothing.
use Rattle.printing.specs.TextLaws.{tells_then}
use Rattle.printing.proofs.answers.put_pair.Goals as goal

pub returns : goal.returns
returns c =
    let c1 = c in
    let c2 = c1 in
    let c3 = c2 in
    let c4 = c3 in
    let c5 = c4 in
    tells_then c5.put_decimal-a.ensures (tells_then c4.put-b.ensures (tells_then c3.put_cid-d.ensures (tells_then c2.put-e.ensures c1.put_number.ensures)))
