-- What the waiting data's own read-out ensures, told over the boundary.
-- Assumes nothing.
use mathlib.Core.Path.{ap, ◌∙◌}
use mathlib.Core.List.{List}
use lib.ListN.{get_or}
use Rattle.merge.specs.Merge.{Dmx}
use Rattle.waiting_store.specs.Entries.{nothing}
use Rattle.reads.specs.Reads.{waiting_within}
use Rattle.reads.proofs.waiting_at.Goals as goal

pub returns : goal.returns
returns c store =
    let v = c.args in
    c.read_dmx.ensures ∙ c.waiting_data.ensures store
    ∙ ap (λ (ds : List Dmx). (get_or ds v.at nothing).head) (waiting_within v.header.waiting c.min.result v.rows.now store c.told-rows c.min.ensures)
