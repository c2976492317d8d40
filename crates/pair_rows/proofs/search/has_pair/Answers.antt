-- A search for a pair of the CID.
-- Assumes nothing.
use Rattle.std.proofs.Common.{rules, tests, sym, ◌∙◌, ℕ, List}
use lib.ListN.{take}
use Rattle.std.proofs.lemmas.Iterator.{YieldsList-from_slice}
use Rattle.std.proofs.lemmas.Iterator.Search.{any_from_yields_List}
use Rattle.rules.specs.Cid.{same}
use Rattle.pair_rows.specs.View.{pair_of}
use Rattle.pair_rows.specs.Rows.{has_searched}
use Rattle.pair_rows.proofs.search.has_pair.Goals as goal

pub returns : goal.returns
returns c =
    let v = c.args in
    let rows : List (List ℕ) = take v.n v.pairs.now in
    any_from_yields_List (λ (row : List ℕ). same (pair_of row).cid v.cid) _ _ _ c.any.ensures.ran (YieldsList-from_slice rows (cc)) (λ x b q k. search (rules, tests))
    ∙ sym (has_searched v.cid rows)
