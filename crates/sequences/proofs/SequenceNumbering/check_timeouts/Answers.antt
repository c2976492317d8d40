-- The data table's sweep decides: its number 4 ends the call, otherwise the synchronisation table is swept too.
-- Assumes nothing.
use Rattle.sequences.specs.View.{lent}
use Rattle.sequences.proofs.Laws.{checks_data, checks_both}
use Rattle.sequences.proofs.SequenceNumbering.check_timeouts.Goals as goal

pub returns-in-Quiet-clause-view : goal.returns-in-Quiet-clause-view
returns-in-Quiet-clause-view c =
    let v = c.args in
    let m = lent v.data_pairs.now v.data_sources.now v.sync_pairs.now v.sync_sources.now in
    checks_both v.self m c.requires v.announce v.reading
    c.sweep-data.result.left c.sweep-data.new.pairs c.sweep-data.new.sources
    c.sweep-data.result.answer c.sweep-sync.result.answer c.sweep-sync.result.left c.sweep-sync.new.pairs c.sweep-sync.new.sources
    c.sweep-data.ensures.view c.in-Quiet.is c.sweep-sync.ensures.view

pub returns-in-TimedOut-clause-view : goal.returns-in-TimedOut-clause-view
returns-in-TimedOut-clause-view c =
    let v = c.args in
    let m = lent v.data_pairs.now v.data_sources.now v.sync_pairs.now v.sync_sources.now in
    checks_data v.self m c.requires v.announce v.reading
    c.sweep-data.result.left c.sweep-data.new.pairs c.sweep-data.new.sources
    _ _ c.sweep-data.result.answer c.sweep-data.ensures.view c.in-TimedOut.is
