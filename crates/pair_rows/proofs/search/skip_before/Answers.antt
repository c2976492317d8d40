-- The pairs before the CID, counted from place j on.
-- Assumes nothing.
use Rattle.std.proofs.Common.{rules, tests, ◌≡◌, sym, ap, ◌∙◌, arith, ℕ, ◌+◌, ◌-◌, List}
use lib.ListN.{drop, length-take, length-drop}
use Rattle.std.specs.List.{prefix_len, slice_range}
use Rattle.std.proofs.lemmas.List.Folds.{length-prefix_len}
use Rattle.std.proofs.lemmas.List.Sums.{prefix_len-le-length}
use Rattle.std.proofs.lemmas.Iterator.{YieldsList-from_slice}
use Rattle.std.proofs.lemmas.Iterator.Consumers.{count_from_yields_List}
use Rattle.std.proofs.lemmas.Iterator.Search.{YieldsList-from_take_while}
use Rattle.laws.specs.Place.{prefix}
use Rattle.laws.specs.Library.{prefix_is}
use Rattle.pair_rows.specs.View.{row_before}
use Rattle.pair_rows.specs.Rows.{behind}
use Rattle.pair_rows.proofs.search.skip_before.Goals as goal

pub returns : goal.returns
returns c =
    let v = c.args in
    let rows : List (List ℕ) = slice_range v.pairs.now v.j v.n in
    let counted : c.count.result ≡ prefix_len (row_before v.cid) rows = count_from_yields_List c.take_while.result _ c.count.ensures.ran
    (YieldsList-from_take_while _ (row_before v.cid) (YieldsList-from_slice rows (cc)) c.take_while.ensures.closure c.take_while.ensures.done (λ x b q k. search (rules, tests)))
    ∙ length-prefix_len (row_before v.cid) rows in (
      omega (arith, counted, prefix_len-le-length (row_before v.cid) rows, length-take (v.n - v.j) (drop v.j v.pairs.now), length-drop v.j v.pairs.now),
      ap (λ (k : ℕ). v.j + k) (counted ∙ sym (prefix_is (row_before v.cid) rows) ∙ ap (prefix (row_before v.cid)) (sym (behind v.j v.n v.pairs.now (omega arith)))),
    )
