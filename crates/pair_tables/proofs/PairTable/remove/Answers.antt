-- The pair is unknown, or it stands at the place that is found; its CID stays if it has another pair, and goes if not.
-- Assumes nothing.
use mathlib.Core.Path.{◌≡◌, sym, ap, ◌∙◌}
use mathlib.Core.Bool.{Bool, cond}
use mathlib.Core.Option.{some}
use mathlib.Core.List.{List}
use Prim.Native.Nat.{◌<◌, ◌≤◌, ◌-◌}
use native.Mathlib.Omega.{arith}
use Rattle.laws.specs.Table.{remove}
use Rattle.laws.specs.Place.{place}
use Rattle.rules.specs.Cid.{before}
use Rattle.pairs.specs.declared.Pair.{Pair}
use Rattle.pairs.specs.Table.{Key, key, key_of, key_before, itself, pair_at, has, capacity}
use Rattle.pairs.proofs.TableLaws.{key_order}
use Rattle.pair_rows.specs.View.{pair_of, pairs_of, listed_sources_of}
use Rattle.pair_rows.specs.Stores.{placed_at, placed_nothing, found_inside, rows_removed}
use Rattle.pair_tables.proofs.CallsLaws.{removal_none, removal_some}
use Rattle.pair_tables.proofs.PairTable.remove.Goals as goal

pub returns-in_default : goal.returns-in_default
returns-in_default c =
    let v = c.args in
    let k = key v.cid v.universe in
    removal_none v.self v.pairs.now v.sources.now c.requires k
    (placed_nothing (place key_before key_of k (pairs_of v.self.count v.pairs.now)) (pair_at k (pairs_of v.self.count v.pairs.now)) (sym c.find.ensures ∙ c.in_default.is))

pub remove_at-requires : goal.remove_at-requires
remove_at-requires c =
    let wanted : Key = key c.args.cid c.args.universe in
    let hit : (p : Pair) × (pair_at wanted (pairs_of c.args.self.count c.args.pairs.now) ≡ some p) × (place key_before key_of wanted (pairs_of c.args.self.count c.args.pairs.now) ≡ c.in-Some.at) = placed_at (place key_before key_of wanted (pairs_of c.args.self.count c.args.pairs.now)) c.in-Some.at (pair_at wanted (pairs_of c.args.self.count c.args.pairs.now)) (sym c.find.ensures ∙ c.in-Some.is) in
    let inside : c.in-Some.at < c.args.self.count = found_inside key_before key_of key_order pair_of c.args.self.count c.args.pairs.now wanted hit.0 c.in-Some.at hit.1 hit.2 in
    let h = inside in
    (omega (arith, c.requires.count_fits, c.requires.pairs_room), h)

pub overflow_sub-count : goal.overflow_sub-count
overflow_sub-count c =
    let wanted : Key = key c.args.cid c.args.universe in
    let hit : (p : Pair) × (pair_at wanted (pairs_of c.args.self.count c.args.pairs.now) ≡ some p) × (place key_before key_of wanted (pairs_of c.args.self.count c.args.pairs.now) ≡ c.in-Some.at) = placed_at (place key_before key_of wanted (pairs_of c.args.self.count c.args.pairs.now)) c.in-Some.at (pair_at wanted (pairs_of c.args.self.count c.args.pairs.now)) (sym c.find.ensures ∙ c.in-Some.is) in
    let inside : c.in-Some.at < c.args.self.count = found_inside key_before key_of key_order pair_of c.args.self.count c.args.pairs.now wanted hit.0 c.in-Some.at hit.1 hit.2 in
    let h = inside in omega arith

pub returns-then-has_pair : goal.returns-then-has_pair
returns-then-has_pair c =
    let wanted : Key = key c.args.cid c.args.universe in
    let hit : (p : Pair) × (pair_at wanted (pairs_of c.args.self.count c.args.pairs.now) ≡ some p) × (place key_before key_of wanted (pairs_of c.args.self.count c.args.pairs.now) ≡ c.in-Some.at) = placed_at (place key_before key_of wanted (pairs_of c.args.self.count c.args.pairs.now)) c.in-Some.at (pair_at wanted (pairs_of c.args.self.count c.args.pairs.now)) (sym c.find.ensures ∙ c.in-Some.is) in
    let few : c.args.self.count - 1 ≤ capacity = omega (arith, c.requires.count_fits) in
    let rest : pairs_of (c.args.self.count - 1) c.remove_at.new.elements ≡ remove key_before key_of wanted (pairs_of c.args.self.count c.args.pairs.now) = let v = c.args in
    let h = hit in
    rows_removed key_before key_of key_order pair_of v.self.count v.pairs.now wanted h.0 c.in-Some.at c.remove_at.new.elements h.1 h.2 c.remove_at.ensures.taken_out in
    let has_more : has (remove key_before key_of wanted (pairs_of c.args.self.count c.args.pairs.now)) c.args.cid ≡ c.has_pair.result = ap (λ (ps : List Pair). has ps c.args.cid) (sym rest) ∙ sym c.has_pair.ensures in
    let v = c.args in
    let h = hit in
    removal_some v.self v.pairs.now v.sources.now c.requires wanted h.0 h.1 (v.self.count - 1) v.self.source_count c.remove_at.new.elements v.sources.now
    (c.remove_at.ensures.kept ∙ c.requires.pairs_room) c.requires.sources_room few c.requires.source_count_fits rest
    (ap (λ (b : Bool). cond b (listed_sources_of v.self.source_count v.sources.now) (remove before itself v.cid (listed_sources_of v.self.source_count v.sources.now))) (sym (has_more ∙ c.if-has_pair.true)))

pub returns-else-has_pair : goal.returns-else-has_pair
returns-else-has_pair c =
    let wanted : Key = key c.args.cid c.args.universe in
    let hit : (p : Pair) × (pair_at wanted (pairs_of c.args.self.count c.args.pairs.now) ≡ some p) × (place key_before key_of wanted (pairs_of c.args.self.count c.args.pairs.now) ≡ c.in-Some.at) = placed_at (place key_before key_of wanted (pairs_of c.args.self.count c.args.pairs.now)) c.in-Some.at (pair_at wanted (pairs_of c.args.self.count c.args.pairs.now)) (sym c.find.ensures ∙ c.in-Some.is) in
    let few : c.args.self.count - 1 ≤ capacity = omega (arith, c.requires.count_fits) in
    let rest : pairs_of (c.args.self.count - 1) c.remove_at.new.elements ≡ remove key_before key_of wanted (pairs_of c.args.self.count c.args.pairs.now) = let v = c.args in
    let h = hit in
    rows_removed key_before key_of key_order pair_of v.self.count v.pairs.now wanted h.0 c.in-Some.at c.remove_at.new.elements h.1 h.2 c.remove_at.ensures.taken_out in
    let has_more : has (remove key_before key_of wanted (pairs_of c.args.self.count c.args.pairs.now)) c.args.cid ≡ c.has_pair.result = ap (λ (ps : List Pair). has ps c.args.cid) (sym rest) ∙ sym c.has_pair.ensures in
    let v = c.args in
    let h = hit in
    let m : c.drop_source-source_count.result ≤ capacity = omega (arith, c.drop_source-source_count.ensures.0, c.requires.source_count_fits) in
    removal_some v.self v.pairs.now v.sources.now c.requires wanted h.0 h.1 (v.self.count - 1) c.drop_source-source_count.result c.remove_at.new.elements c.drop_source-source_count.new.sources
    (c.remove_at.ensures.kept ∙ c.requires.pairs_room) c.drop_source-source_count.array_long2 few m rest
    (c.drop_source-source_count.ensures.1 ∙ ap (λ (b : Bool). cond b (listed_sources_of v.self.source_count v.sources.now) (remove before itself v.cid (listed_sources_of v.self.source_count v.sources.now))) (sym (has_more ∙ c.if-has_pair.false)))
