-- The data pair's removal says whether it was there; only then does the synchronisation pair go.
-- Assumes nothing.
use Rattle.pairs.specs.Table.{key}
use Rattle.sequences.specs.View.{lent}
use Rattle.sequences.proofs.Laws.{removes_both, removes_none}
use Rattle.sequences.proofs.SequenceNumbering.remove_seq_numbers.Goals as goal

pub returns-then-data-clause-view : goal.returns-then-data-clause-view
returns-then-data-clause-view c =
    let v = c.args in
    let r =
    removes_both v.self (lent v.data_pairs.now v.data_sources.now v.sync_pairs.now v.sync_sources.now) c.requires (key v.cid v.universe)
    c.remove-data.result.left c.remove-data.new.pairs c.remove-data.new.sources c.remove-data.result.answer c.remove-data.ensures
    c.remove-sync.result.left c.remove-sync.new.pairs c.remove-sync.new.sources c.remove-sync.result.answer
    c.if-data.true c.remove-sync.ensures in
    r.0

pub returns-else-data-clause-view : goal.returns-else-data-clause-view
returns-else-data-clause-view c =
    let v = c.args in
    let r =
    removes_none v.self (lent v.data_pairs.now v.data_sources.now v.sync_pairs.now v.sync_sources.now) c.requires (key v.cid v.universe)
    c.remove-data.result.left c.remove-data.new.pairs c.remove-data.new.sources c.remove-data.result.answer c.remove-data.ensures
    c.if-data.false in
    r.0
