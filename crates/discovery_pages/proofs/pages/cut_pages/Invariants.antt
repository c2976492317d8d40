-- One law for each turn of the pass: the page is cut, or it is moved down as it is.
-- Assumes nothing.
use mathlib.Core.List.{map}
use lib.ListN.{take}
use Rattle.discovery_pages.specs.Leaves.{cut_leaf}
use Rattle.discovery_rows.specs.Rows.{leaves}
use Rattle.discovery_pages.specs.Passes.{Pass}
use Rattle.discovery_pages.proofs.pages.cut_pages.Given as goal

abbrev pub invariant-loop-i : goal.invariant-loop-i
invariant-loop-i l = Pass l.count l.initial.pages l.initial.universes (map (cut_leaf l.cid l.universe) (leaves (take l.i l.initial.pages) l.initial.universes)) l.pages l.universes l.i l.to l.from l.i
