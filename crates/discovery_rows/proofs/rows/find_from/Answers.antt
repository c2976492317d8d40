-- No row before the first one looked at passes the test: the place is what is left out and what the walk passes.
-- Assumes nothing.
use Rattle.std.proofs.Common.{◌≡◌, ◌+◌, ◌-◌, Bool, not, List, ℕ, take, drop, ap, sym, ◌∙◌, arith, rules, tests}
use Rattle.std.specs.List.{slice_range}
use Rattle.std.proofs.lemmas.List.{drop-take}
use Rattle.std.proofs.lemmas.Iterator.{YieldsList-from_slice}
use Rattle.std.proofs.lemmas.Iterator.Consumers.{count_from_yields_List}
use Rattle.std.proofs.lemmas.Iterator.Search.{YieldsList-from_take_while}
use Rattle.std.proofs.lemmas.List.Folds.{length-prefix_len}
use Rattle.laws.specs.Library.{prefix_is}
use Rattle.laws.specs.Place.{prefix, prefix_past}
use Rattle.discovery_rows.specs.Rows.{owned}
use Rattle.discovery_rows.specs.Walks.{place_within}
use Rattle.discovery_rows.proofs.rows.find_from.Goals as goal

pub returns : goal.returns
returns c =
    let v = c.args in
    let p : List ℕ → Bool = λ row. not (owned v.mark v.cid row) in
    let all = take v.count v.sources.now in
    let rows : List (List ℕ) = slice_range v.sources.now v.from v.count in
    let e : v.from + (v.count - v.from) ≡ v.count = omega (arith, place_within p v.count v.sources.now) in
    let left : drop v.from all ≡ rows = ap (λ (n : ℕ). drop v.from (take n v.sources.now)) (sym e) ∙ drop-take v.from (v.count - v.from) v.sources.now in
    ap (λ (k : ℕ). v.from + k) (
    count_from_yields_List c.take_while.result _ c.count.ensures.ran
    (YieldsList-from_take_while _ p (YieldsList-from_slice rows (cc)) c.take_while.ensures.closure c.take_while.ensures.done (λ x b q k. search (rules, tests)))
    ∙ length-prefix_len p rows
    ∙ sym (prefix_is p rows)
    ∙ ap (prefix p) (sym left))
    ∙ prefix_past p v.from all c.requires.1
