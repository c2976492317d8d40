-- Document 02, F-2: "Operators who restart a desk want its numbering forgotten without losing the list of sources." What the two halves of
-- `reset_sources` clear and leave, for every state.
-- Assumes nothing.
use Rattle.std.specs.Prelude.{◌≡◌}
use Rattle.pairs.specs.Table as pairs
use Rattle.discovery.specs.Discovery as discovery
use Rattle.model.specs.State.{State}

-- `reset_sources` as it was: "both pair tables and both discovery lists, not waiting data" (document 01)
abbrev pub was_reset : State → State
was_reset s = record {
  data_pairs = pairs.empty;
  sync_pairs = pairs.empty;
  waiting = s.waiting;
  listened = s.listened;
  discovered = discovery.nothing_known;
}

-- what neither half touches
abbrev pub Untouched : State → State → Type 0
Untouched s r = (r.waiting ≡ s.waiting) × (r.listened ≡ s.listened)
