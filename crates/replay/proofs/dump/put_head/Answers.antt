-- The fields follow one another.
-- Assumes nothing.
use mathlib.Core.Path.{ap}
use Rattle.printing.specs.Text.{byte_text}
use Rattle.printing.specs.TextLaws.{tells_as, tells_then}
use Rattle.replay.proofs.dump.put_head.Goals as goal

pub returns : goal.returns
returns c =
    tells_then c.put-a.ensures (tells_then c.put-b.ensures (tells_then c.put_cid-d.ensures (tells_then c.put-e.ensures (tells_then (tells_as (ap byte_text c.front-name.ensures) c.put_byte_string-f.ensures) (tells_then c.put_spaced-g.ensures (tells_then c.put_spaced-h.ensures (tells_then c.put_spaced-i.ensures c.put.ensures)))))))
