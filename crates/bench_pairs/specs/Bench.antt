-- What the benchmark's header and number stand for.
-- Assumes nothing.
use Rattle.std.specs.Prelude.{ℕ}
use Rattle.pair_tables.specs.declared.PairTable.{PairTable}
use Rattle.pairs.specs.declared.Checked.{Checked}
use Rattle.pairs.specs.Table.{Table, number_of}
use Rattle.bench_pairs.specs.declared.Header.{Header}

abbrev pub table_from : Header → PairTable
table_from h = record { count = h.count; source_count = h.source_count; oldest = h.oldest; tidy = h.tidy }

abbrev pub numbered : Table × Checked → Table × ℕ
numbered r = (r.0, number_of r.1)
