-- The values follow one another.
-- Assumes nothing.
use mathlib.Core.Path.{ap}
use mir.Facts.{to_z-of_z}
use Rattle.printing.specs.Text.{signed_of}
use Rattle.printing.specs.TextLaws.{tells_as, tells_then}
use Rattle.printing.proofs.answers.put_sequence.Goals as goal

pub returns : goal.returns
returns c =
    let c1 = c in
    let c2 = c1 in
    let c3 = c2 in
    let c4 = c3 in
    let c5 = c4 in
    let c6 = c5 in
    let c7 = c6 in
    let c8 = c7 in
    let s = c8 in
    tells_then c8.put_decimal-a.ensures (tells_then c7.put-b.ensures (tells_then c6.put_decimal-d.ensures (tells_then c5.put-e.ensures (tells_then c4.put_decimal-f.ensures (tells_then c3.put-g.ensures (tells_then (tells_as (ap signed_of (to_z-of_z s.ranges.difference)) c2.put_signed-h.ensures) c1.put.ensures))))))
