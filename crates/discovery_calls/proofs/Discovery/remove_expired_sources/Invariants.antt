-- While an expired source is found it goes: the sweep of what is left is the sweep of all.
-- Assumes nothing.
use mathlib.Core.Path.{◌≡◌}
use mathlib.Core.Bool.{not}
use lib.ListN.{take}
use Rattle.laws.specs.Place.{prefix}
use Rattle.discovery.specs.Discovery.{swept}
use Rattle.discovery_calls.specs.View.{Kept, discovered_of}
use Rattle.discovery_pages.specs.Lent.{Lent}
use Rattle.discovery_rows.specs.Rows.{old_row}
use Rattle.discovery_calls.proofs.Discovery.remove_expired_sources.Given as goal

abbrev pub invariant-loop-at : goal.invariant-loop-at
invariant-loop-at l = Kept l.d l.sources l.names l.pages l.universes
    × (swept l.time l.reading (discovered_of l.d l.sources l.names l.pages l.universes) ≡ swept l.time l.reading (discovered_of l.initial.d l.initial.sources l.initial.names l.initial.pages l.initial.universes))
    × (l.at ≡ prefix (λ row. not (old_row l.time l.reading row)) (take l.d.source_count l.sources)) × Lent l.initial.universes l.universes

abbrev pub decreases-loop-at : goal.decreases-loop-at
decreases-loop-at l = l.d.source_count
