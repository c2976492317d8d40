-- The place is how many rows the walk passes.
-- Assumes nothing.
use Rattle.std.proofs.Common.{Bool, not, List, ℕ, take, sym, ◌∙◌, rules, tests}
use Rattle.std.proofs.lemmas.Iterator.{YieldsList-from_slice}
use Rattle.std.proofs.lemmas.Iterator.Consumers.{count_from_yields_List}
use Rattle.std.proofs.lemmas.Iterator.Search.{YieldsList-from_take_while}
use Rattle.std.proofs.lemmas.List.Folds.{length-prefix_len}
use Rattle.laws.specs.Library.{prefix_is}
use Rattle.discovery_rows.specs.Rows.{old_row}
use Rattle.discovery_rows.proofs.rows.find_expired.Goals as goal

pub returns : goal.returns
returns c =
    let p : List ℕ → Bool = λ row. not (old_row c.args.time c.args.reading row) in
    let rows = take c.args.count c.args.sources.now in
    count_from_yields_List c.take_while.result _ c.count.ensures.ran
    (YieldsList-from_take_while _ p (YieldsList-from_slice rows (cc)) c.take_while.ensures.closure c.take_while.ensures.done (λ x b q k. search (rules, tests)))
    ∙ length-prefix_len p rows
    ∙ sym (prefix_is p rows)
