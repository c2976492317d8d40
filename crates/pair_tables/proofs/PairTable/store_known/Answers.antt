-- The row of the key takes the new pair.
-- Assumes nothing.
use mathlib.Core.Path.{◌≡◌, refl, sym, subst}
use mathlib.Core.Option.{some}
use Prim.Native.Nat.{◌<◌, min}
use native.Mathlib.Omega.{arith}
use lib.ListN.{set, length-set}
use Rattle.laws.specs.Place.{place}
use Rattle.pairs.specs.declared.Pair.{Pair}
use Rattle.pairs.specs.Table.{key_of, key_before, pair_at}
use Rattle.pairs.proofs.TableLaws.{key_order}
use Rattle.pair_rows.specs.View.{pair_of, pairs_of}
use Rattle.pair_rows.specs.Stores.{placed_at, found_inside, rows_replaced}
use Rattle.pair_tables.specs.declared.PairTable.{PairTable}
use Rattle.pair_tables.specs.View.{Stored}
use Rattle.pair_tables.proofs.CallsLaws.{stored_as}
use Rattle.pair_tables.proofs.PairTable.store_known.Goals as goal

pub offset_bounds-pairs-at : goal.offset_bounds-pairs-at
offset_bounds-pairs-at c =
    let hit : (p : Pair) × (pair_at (key_of c.args.pair) (pairs_of c.args.self.count c.args.pairs.now) ≡ some p) × (place key_before key_of (key_of c.args.pair) (pairs_of c.args.self.count c.args.pairs.now) ≡ c.args.at) = placed_at (place key_before key_of (key_of c.args.pair) (pairs_of c.args.self.count c.args.pairs.now)) c.args.at (pair_at (key_of c.args.pair) (pairs_of c.args.self.count c.args.pairs.now)) (sym c.requires.stands) in
    let inside : c.args.at < c.args.self.count = found_inside key_before key_of key_order pair_of c.args.self.count c.args.pairs.now (key_of c.args.pair) hit.0 c.args.at hit.1 hit.2 in
    let h = inside in let k = c.requires.kept.count_fits in omega arith

pub bounds-pairs-at : goal.bounds-pairs-at
bounds-pairs-at c =
    let hit : (p : Pair) × (pair_at (key_of c.args.pair) (pairs_of c.args.self.count c.args.pairs.now) ≡ some p) × (place key_before key_of (key_of c.args.pair) (pairs_of c.args.self.count c.args.pairs.now) ≡ c.args.at) = placed_at (place key_before key_of (key_of c.args.pair) (pairs_of c.args.self.count c.args.pairs.now)) c.args.at (pair_at (key_of c.args.pair) (pairs_of c.args.self.count c.args.pairs.now)) (sym c.requires.stands) in
    let inside : c.args.at < c.args.self.count = found_inside key_before key_of key_order pair_of c.args.self.count c.args.pairs.now (key_of c.args.pair) hit.0 c.args.at hit.1 hit.2 in
    let h = inside in let k = c.requires.kept.count_fits in omega arith

pub returns-clause-rows : goal.returns-clause-rows
returns-clause-rows c =
    let hit : (p : Pair) × (pair_at (key_of c.args.pair) (pairs_of c.args.self.count c.args.pairs.now) ≡ some p) × (place key_before key_of (key_of c.args.pair) (pairs_of c.args.self.count c.args.pairs.now) ≡ c.args.at) = placed_at (place key_before key_of (key_of c.args.pair) (pairs_of c.args.self.count c.args.pairs.now)) c.args.at (pair_at (key_of c.args.pair) (pairs_of c.args.self.count c.args.pairs.now)) (sym c.requires.stands) in
    let v = c.args in
    let h = hit in
    let after = set v.pairs.now v.at c.pair_row.result in
    subst (λ (u : PairTable). Stored v.self v.pairs.now u after v.pair) (sym c.note_reading.ensures)
    (stored_as v.self v.pairs.now v.pair v.self.count (min v.self.oldest v.pair.reading) after c.requires.kept
    (simp length-set c.requires.kept.pairs_room) c.requires.kept.count_fits
    (rows_replaced key_before key_of key_order pair_of v.self.count v.pairs.now c.pair_row.result v.pair h.0 v.at c.pair_row.ensures h.1 h.2) refl)
