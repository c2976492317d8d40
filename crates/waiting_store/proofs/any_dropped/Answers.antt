-- The search runs over the first rows, and each call answers the test turned over.
-- Assumes nothing.
use Rattle.std.proofs.Common.{rules, tests, not, take}
use Rattle.std.proofs.lemmas.Iterator.{YieldsList-from_slice}
use Rattle.std.proofs.lemmas.Iterator.Search.{any_from_yields_List}
use Rattle.waiting_store.specs.Entries.{head_of}
use Rattle.waiting_store.proofs.any_dropped.Goals as goal

pub returns : goal.returns
returns g c = λ t computes.
    any_from_yields_List (λ row. not (t (head_of row))) _ _ _ c.any.ensures.ran
    (YieldsList-from_slice (take c.args.n c.args.rows.now) cc) (λ x b q k. (search (rules, tests), search (rules, tests)))
