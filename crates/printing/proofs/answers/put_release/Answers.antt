-- The values follow one another.
-- Assumes nothing.
use mathlib.Core.Path.{ap}
use Rattle.printing.specs.Text.{hex_text}
use Rattle.printing.specs.TextLaws.{tells_as, tells_then}
use Rattle.printing.proofs.answers.put_release.Goals as goal

pub returns : goal.returns
returns c =
    let c1 = c in
    let c2 = c1 in
    let c3 = c2 in
    let c4 = c3 in
    let c5 = c4 in
    let c6 = c5 in
    let c7 = c6 in
    let c8 = c7 in
    tells_then c8.put_text-a.ensures (tells_then c7.put_decimal-b.ensures (tells_then c6.put-d.ensures (tells_then c5.put_decimal-e.ensures (tells_then c4.put-f.ensures (tells_then (tells_as (ap hex_text c3.front.ensures) c2.put_hex-g.ensures) c1.put.ensures)))))
