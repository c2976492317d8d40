-- What the rest makes of the rows as they are stays what all make of the rows at entry. Once one finds no room, the set is too long, for it never shrinks.
-- Assumes nothing.
use mathlib.Core.Path.{◌≡◌}
use lib.ListN.{take, drop}
use Rattle.model.specs.Step.{joined_by}
use Rattle.listening.specs.View.{Kept, listened}
use Rattle.listening.proofs.join_all.Given as goal

abbrev pub invariant-loop-universe : goal.invariant-loop-universe
invariant-loop-universe l = Kept (listened l.count) l.rows × (joined_by (drop l.universe-index l.universes) (take l.count l.rows) ≡ joined_by l.universes (take l.n l.initial.rows))
