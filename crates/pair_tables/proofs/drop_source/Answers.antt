-- The CID is listed at the place that is found, or not at all.
-- Assumes nothing.
use mathlib.Core.Path.{◌≡◌, sym, ◌∙◌}
use mathlib.Core.Option.{some}
use Prim.Native.Nat.{◌<◌}
use native.Mathlib.Omega.{arith}
use Rattle.laws.specs.Table.{find, remove_absent}
use Rattle.laws.specs.Place.{place}
use Rattle.rules.specs.declared.Cid.{Cid}
use Rattle.rules.specs.Cid.{before}
use Rattle.rules.proofs.CidLaws.{cid_order}
use Rattle.pairs.specs.Table.{itself}
use Rattle.pair_rows.specs.View.{cid_of, listed_sources_of}
use Rattle.pair_rows.specs.Stores.{placed_at, placed_nothing, found_inside, rows_removed}
use borrow.Author.Rules.{rules}
use Rattle.pair_tables.proofs.drop_source.Goals as goal

pub returns-in_default : goal.returns-in_default
returns-in_default c =
    let v = c.args in
    let e = placed_nothing (place before itself v.cid (listed_sources_of v.n v.sources.now)) (find before itself v.cid (listed_sources_of v.n v.sources.now)) (sym c.find_source.ensures ∙ c.in_default.is) in
    (search rules, sym (remove_absent before itself cid_order v.cid (listed_sources_of v.n v.sources.now) e))

pub remove_at-requires : goal.remove_at-requires
remove_at-requires c =
    let hit : (d : Cid) × (find before itself c.args.cid (listed_sources_of c.args.n c.args.sources.now) ≡ some d) × (place before itself c.args.cid (listed_sources_of c.args.n c.args.sources.now) ≡ c.in-Some.at) = placed_at (place before itself c.args.cid (listed_sources_of c.args.n c.args.sources.now)) c.in-Some.at (find before itself c.args.cid (listed_sources_of c.args.n c.args.sources.now)) (sym c.find_source.ensures ∙ c.in-Some.is) in
    let inside : c.in-Some.at < c.args.n = found_inside before itself cid_order cid_of c.args.n c.args.sources.now c.args.cid hit.0 c.in-Some.at hit.1 hit.2 in
    let h = inside in
    (omega arith, h)

pub overflow_sub-result : goal.overflow_sub-result
overflow_sub-result c =
    let hit : (d : Cid) × (find before itself c.args.cid (listed_sources_of c.args.n c.args.sources.now) ≡ some d) × (place before itself c.args.cid (listed_sources_of c.args.n c.args.sources.now) ≡ c.in-Some.at) = placed_at (place before itself c.args.cid (listed_sources_of c.args.n c.args.sources.now)) c.in-Some.at (find before itself c.args.cid (listed_sources_of c.args.n c.args.sources.now)) (sym c.find_source.ensures ∙ c.in-Some.is) in
    let inside : c.in-Some.at < c.args.n = found_inside before itself cid_order cid_of c.args.n c.args.sources.now c.args.cid hit.0 c.in-Some.at hit.1 hit.2 in
    let h = inside in omega arith

pub returns : goal.returns
returns c =
    let hit : (d : Cid) × (find before itself c.args.cid (listed_sources_of c.args.n c.args.sources.now) ≡ some d) × (place before itself c.args.cid (listed_sources_of c.args.n c.args.sources.now) ≡ c.in-Some.at) = placed_at (place before itself c.args.cid (listed_sources_of c.args.n c.args.sources.now)) c.in-Some.at (find before itself c.args.cid (listed_sources_of c.args.n c.args.sources.now)) (sym c.find_source.ensures ∙ c.in-Some.is) in
    let v = c.args in
    let h = hit in
    (search rules, rows_removed before itself cid_order cid_of v.n v.sources.now v.cid h.0 c.in-Some.at c.remove_at.new.elements h.1 h.2 c.remove_at.ensures.taken_out)
