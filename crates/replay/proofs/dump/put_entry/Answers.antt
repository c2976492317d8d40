-- The fields follow one another.
-- Assumes nothing.
use Rattle.printing.specs.TextLaws.{tells_then}
use Rattle.replay.proofs.dump.put_entry.Goals as goal

pub returns : goal.returns
returns c =
    tells_then c.put-a.ensures (tells_then c.put_spaced-b.ensures (tells_then c.put_spaced-e.ensures (tells_then c.put_spaced-f.ensures (tells_then c.put-g.ensures (tells_then c.put_bit-h.ensures (tells_then c.put-i.ensures (tells_then c.put_owner-j.ensures (tells_then c.put_spaced-k.ensures (tells_then c.put-l.ensures (tells_then c.put_byte_string-m.ensures c.put.ensures))))))))))
