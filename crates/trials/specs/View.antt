-- What the trials lend a receiver.
-- Assumes nothing.
use Rattle.std.specs.Prelude.{ℕ, ◌≤◌}
use Rattle.receiver.specs.View as receiver
use Rattle.trials.specs.declared.memory.Memory.{Memory}

-- the trials' memory as the receiver's contracts have it
abbrev pub memory_in : Memory → receiver.Memory
memory_in m = receiver.memory m.data_pairs m.data_sources m.sync_pairs m.sync_sources m.rows m.store m.heard m.sources m.names m.pages m.universes

-- no more of the output, of the waiting values and of the pages' universes than there is, and no more values
abbrev pub Lendable : ℕ → ℕ → ℕ → ℕ → Type 0
Lendable out store pool values = (out ≤ 35072) × (store ≤ 32832) × (pool ≤ 32768) × (values ≤ 514)
