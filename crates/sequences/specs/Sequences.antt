-- The two pair tables together, as the crate's `SequenceNumbering` holds them: one for data, one for synchronisation.
-- Assumes nothing.
use Rattle.std.specs.Prelude.{Bool, cond, ℕ}
use Rattle.std.proofs.Math.Option.{Option, none, some}
use Rattle.pairs.specs.Table.{Table, Key, pair_at, sweep, without, unknown}

pub record Numbers : Type 0 where
  pub data_table : Table
  pub sync_table : Table

abbrev pub numbers : Table → Table → Numbers
numbers d y = record { data_table = d; sync_table = y }

-- `check_timeouts`: "sweep the data table, then the sync table"; a 4 ends it
unfoldable pub timeouts_sync : Table → Table × Option Key → Numbers × Option Key
timeouts_sync d r = (numbers d r.0, r.1)

unfoldable pub timeouts_data : Bool → ℕ → Table → Table × Option Key → Numbers × Option Key
timeouts_data announce now y (d, some k) = (numbers d y, some k)
timeouts_data announce now y (d, none) = timeouts_sync d (sweep announce now y)

unfoldable pub timeouts : Bool → ℕ → Numbers → Numbers × Option Key
timeouts announce now n = timeouts_data announce now n.sync_table (sweep announce now n.data_table)

-- `remove_seq_numbers`: "drop the pair from data; only if it was there, from sync too"
unfoldable pub removed : Key → Numbers → Numbers
removed k n =
    numbers (without k n.data_table)
    (cond (unknown (pair_at k n.data_table.pairs)) n.sync_table (without k n.sync_table))
