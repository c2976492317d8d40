-- The space, then the flag.
-- Assumes nothing.
use Rattle.printing.specs.TextLaws.{tells_then}
use Rattle.printing.proofs.answers.put_spaced_bit.Goals as goal

pub returns : goal.returns
returns c =
    let c1 = c in
    let c2 = c1 in
    tells_then c2.put-a.ensures c1.put_bit.ensures
