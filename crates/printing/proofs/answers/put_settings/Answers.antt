-- The settings follow one another.
-- Assumes nothing.
use Rattle.printing.specs.TextLaws.{tells_then}
use Rattle.printing.proofs.answers.put_settings.Goals as goal

pub returns : goal.returns
returns c =
    let c1 = c in
    let c2 = c1 in
    let c3 = c2 in
    let c4 = c3 in
    let c5 = c4 in
    let c6 = c5 in
    let c7 = c6 in
    let c8 = c7 in
    let c9 = c8 in
    let c10 = c9 in
    let c11 = c10 in
    tells_then c11.put-a.ensures (tells_then c10.put_spaced_bit-b.ensures (tells_then c9.put_spaced_bit-d.ensures (tells_then c8.put_spaced_bit-e.ensures (tells_then c7.put_spaced_bit-f.ensures (tells_then c6.put-g.ensures (tells_then c5.put_merge-h.ensures (tells_then c4.put-i.ensures (tells_then c3.put_limit-j.ensures (tells_then c2.put-k.ensures c1.put_number.ensures)))))))))
