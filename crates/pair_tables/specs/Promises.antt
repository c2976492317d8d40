-- The two lent parts of a table in a contract, its pair rows and its source rows: the table that a call finds, and what it leaves.
-- Assumes nothing.
use Rattle.laws.specs.Lent.{Part}
use Rattle.pairs.specs.Table.{Table}
use Rattle.pair_rows.specs.View.{Rows}
use Rattle.pair_tables.specs.declared.PairTable.{PairTable}
use Rattle.pair_tables.specs.View.{table_of, Follows}

-- the table as the call finds it
abbrev pub table_before : PairTable → Part Rows → Part Rows → Table
table_before t pairs sources = table_of t pairs.entry.now sources.entry.now

-- the table as the call leaves it, and the answer, are what the definition says
abbrev pub Leaves : {A : Type 0} → PairTable → Part Rows → Part Rows → A → Table × A → Type 0
Leaves t pairs sources answer said = Follows t pairs.exit.now sources.exit.now answer said
