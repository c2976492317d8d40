-- One law for each turn of the pass: the page goes, or it is moved down.
-- Assumes nothing.
use mathlib.Core.Bool.{not}
use lib.ListN.{take}
use Rattle.laws.specs.Table.{keep}
use Rattle.discovery_rows.specs.Store.{held_by}
use Rattle.discovery_rows.specs.Rows.{leaves}
use Rattle.discovery_pages.specs.Passes.{Pass}
use Rattle.discovery_pages.proofs.pages.drop_pages.Given as goal

abbrev pub invariant-loop-i : goal.invariant-loop-i
invariant-loop-i l = Pass l.count l.initial.pages l.initial.universes (keep (λ e. not (held_by l.mark l.cid e)) (leaves (take l.i l.initial.pages) l.initial.universes)) l.pages l.universes l.kept l.to l.from l.i
