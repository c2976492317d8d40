-- As many as the chain yields: this crate's word for the list of them and the library's say the same.
-- Assumes nothing.
use Rattle.std.proofs.Common.{length, take, sym, ap, ◌∙◌, rules, tests}
use Rattle.std.proofs.lemmas.Iterator.{YieldsList-from_slice}
use Rattle.std.proofs.lemmas.Iterator.Consumers.{count_from_yields_List, YieldsList-from_filter}
use Rattle.laws.specs.Library.{keep_is}
use Rattle.discovery_rows.specs.Rows.{owned}
use Rattle.discovery_reads.proofs.count_pages.Goals as goal

pub returns : goal.returns
returns c =
    let rows = take c.args.count c.args.pages.now in
    count_from_yields_List c.filter.result _ c.count.ensures.ran
    (YieldsList-from_filter _ (owned c.args.mark c.args.cid) (YieldsList-from_slice rows (cc)) c.filter.ensures.closure (λ x b q k. search (rules, tests)))
    ∙ ap length (sym (keep_is (owned c.args.mark c.args.cid) rows))
