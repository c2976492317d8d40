-- The CIDs before this one, counted.
-- Assumes nothing.
use Rattle.std.proofs.Common.{rules, tests, ◌≡◌, sym, ◌∙◌, arith, ℕ, List}
use lib.ListN.{take, length-take}
use Rattle.std.specs.List.{prefix_len}
use Rattle.std.proofs.lemmas.List.Folds.{length-prefix_len}
use Rattle.std.proofs.lemmas.List.Sums.{prefix_len-le-length}
use Rattle.std.proofs.lemmas.Iterator.{YieldsList-from_slice}
use Rattle.std.proofs.lemmas.Iterator.Consumers.{count_from_yields_List}
use Rattle.std.proofs.lemmas.Iterator.Search.{YieldsList-from_take_while}
use Rattle.rules.specs.Cid.{before}
use Rattle.pair_rows.specs.View.{cid_of}
use Rattle.pair_rows.specs.Rows.{source_walked}
use Rattle.pair_rows.proofs.search.source_place.Goals as goal

pub returns : goal.returns
returns c =
    let v = c.args in
    let rows : List (List ℕ) = take v.n v.sources.now in
    let counted : c.count.result ≡ prefix_len (λ (row : List ℕ). before (cid_of row) v.cid) rows = count_from_yields_List c.take_while.result _ c.count.ensures.ran
    (YieldsList-from_take_while _ (λ (row : List ℕ). before (cid_of row) v.cid) (YieldsList-from_slice rows (cc)) c.take_while.ensures.closure c.take_while.ensures.done (λ x b q k. search (rules, tests)))
    ∙ length-prefix_len (λ (row : List ℕ). before (cid_of row) v.cid) rows in
    (omega (arith, counted, prefix_len-le-length (λ (row : List ℕ). before (cid_of row) v.cid) rows, length-take v.n v.sources.now), counted ∙ sym (source_walked v.cid rows))
