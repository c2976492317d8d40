-- What the sequence rule answers of the arriving number and the one that is held.
-- Assumes nothing.
use mathlib.Core.Path.{◌≡◌, sym, ap, ◌∙◌}
use mathlib.Core.Option.{some}
use Prim.Native.Nat.{◌<◌}
use native.Mathlib.Omega.{arith}
use Rattle.laws.specs.Place.{place}
use Rattle.pairs.specs.declared.Pair.{Pair}
use Rattle.pairs.specs.Table.{key_of, key_before, pair_at, stopping}
use Rattle.pairs.proofs.TableLaws.{key_order}
use Rattle.pair_rows.specs.View.{pair_of, pairs_of}
use Rattle.pair_rows.specs.Stores.{placed_at, found_inside, found_read}
use Rattle.pair_tables.specs.View.{pair_stop}
use Rattle.pair_tables.proofs.AdmitLaws.{pair_known}
use Rattle.pair_tables.proofs.PairTable.check_known.Goals as goal

pub offset_bounds-pairs-at : goal.offset_bounds-pairs-at
offset_bounds-pairs-at c =
    let hit : (p : Pair) × (pair_at (key_of c.args.pair) (pairs_of c.args.self.count c.args.pairs.now) ≡ some p) × (place key_before key_of (key_of c.args.pair) (pairs_of c.args.self.count c.args.pairs.now) ≡ c.args.at) = placed_at (place key_before key_of (key_of c.args.pair) (pairs_of c.args.self.count c.args.pairs.now)) c.args.at (pair_at (key_of c.args.pair) (pairs_of c.args.self.count c.args.pairs.now)) (sym c.requires.stands) in
    let inside : c.args.at < c.args.self.count = found_inside key_before key_of key_order pair_of c.args.self.count c.args.pairs.now (key_of c.args.pair) hit.0 c.args.at hit.1 hit.2 in
    let h = inside in let k = c.requires.kept.count_fits in omega arith

pub bounds-pairs-at : goal.bounds-pairs-at
bounds-pairs-at c =
    let hit : (p : Pair) × (pair_at (key_of c.args.pair) (pairs_of c.args.self.count c.args.pairs.now) ≡ some p) × (place key_before key_of (key_of c.args.pair) (pairs_of c.args.self.count c.args.pairs.now) ≡ c.args.at) = placed_at (place key_before key_of (key_of c.args.pair) (pairs_of c.args.self.count c.args.pairs.now)) c.args.at (pair_at (key_of c.args.pair) (pairs_of c.args.self.count c.args.pairs.now)) (sym c.requires.stands) in
    let inside : c.args.at < c.args.self.count = found_inside key_before key_of key_order pair_of c.args.self.count c.args.pairs.now (key_of c.args.pair) hit.0 c.args.at hit.1 hit.2 in
    let h = inside in let k = c.requires.kept.count_fits in omega arith

pub returns : goal.returns
returns c =
    let hit : (p : Pair) × (pair_at (key_of c.args.pair) (pairs_of c.args.self.count c.args.pairs.now) ≡ some p) × (place key_before key_of (key_of c.args.pair) (pairs_of c.args.self.count c.args.pairs.now) ≡ c.args.at) = placed_at (place key_before key_of (key_of c.args.pair) (pairs_of c.args.self.count c.args.pairs.now)) c.args.at (pair_at (key_of c.args.pair) (pairs_of c.args.self.count c.args.pairs.now)) (sym c.requires.stands) in
    let held : pair_at (key_of c.args.pair) (pairs_of c.args.self.count c.args.pairs.now) ≡ some c.pair_of-held.result = let v = c.args in
    let h = hit in
    h.1 ∙ ap some (sym (found_read key_before key_of key_order pair_of v.self.count v.pairs.now (key_of v.pair) h.0 v.at h.1 h.2) ∙ sym c.pair_of-held.ensures) in
    let stop_is : (let v = c.args in pair_stop v.pair (pairs_of v.self.count v.pairs.now) ≡ stopping c.check_sequence.result) = let v = c.args in
    pair_known v.pair (pairs_of v.self.count v.pairs.now) c.pair_of-held.result held ∙ ap stopping (sym c.check_sequence.ensures.value) in
    record { passes = λ e. stop_is ∙ rw e; stops = λ e. stop_is ∙ rw e }
