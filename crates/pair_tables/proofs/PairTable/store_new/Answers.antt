-- The pair goes in at its place; the rows after it move up.
-- Assumes nothing.
use mathlib.Core.Path.{◌∙◌}
use Prim.Native.Nat.{◌+◌}
use native.Mathlib.Omega.{arith}
use Rattle.pairs.specs.Table.{key_of, key_before}
use Rattle.pairs.proofs.TableLaws.{key_order}
use Rattle.pair_rows.specs.View.{pair_of}
use Rattle.pair_rows.specs.Stores.{rows_inserted}
use Rattle.pair_tables.proofs.CallsLaws.{stored_as}
use Rattle.pair_tables.proofs.PairTable.store_new.Goals as goal

pub returns : goal.returns
returns c =
    let v = c.args in
    stored_as v.self v.pairs.now v.pair (v.self.count + 1) c.min.result c.insert_at.new.elements c.requires.kept
    (c.insert_at.ensures.kept ∙ c.requires.kept.pairs_room) (omega (arith, c.requires.room))
    (rows_inserted key_before key_of key_order pair_of v.self.count v.pairs.now c.pair_row.result v.pair c.place_of-at.result c.insert_at.new.elements c.pair_row.ensures c.requires.missing c.place_of-at.ensures.1 c.insert_at.ensures.put_in)
    c.min.ensures
