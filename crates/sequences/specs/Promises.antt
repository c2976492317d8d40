-- The four lent parts of both tables in a contract: the rows that a call finds, and those that it leaves.
-- Assumes nothing.
use Rattle.std.specs.Borrow.{MutBor}
use denote.Triple.Both.{Both}
use Rattle.laws.specs.Lent.{Part}
use Rattle.pair_rows.specs.View.{Rows}
use Rattle.sequences.specs.View.{Lent, lent}

-- when a call begins
abbrev pub sequence_rows_in : MutBor Rows → MutBor Rows → MutBor Rows → MutBor Rows → Lent
sequence_rows_in dp ds sp ss = lent dp.now ds.now sp.now ss.now

-- at entry and at exit
abbrev pub sequence_rows : Part Rows → Part Rows → Part Rows → Part Rows → Both Lent Lent
sequence_rows dp ds sp ss = record {
  entry = sequence_rows_in dp.entry ds.entry sp.entry ss.entry;
  exit = sequence_rows_in dp.exit ds.exit sp.exit ss.exit;
}
