-- The tables are quiet, or their timeouts decide; without number 4 the waiting data is swept too.
-- Assumes nothing.
use mathlib.Core.Path.{refl, sym, ◌∙◌}
use Rattle.pairs.specs.declared.SweepAnswer.TheVariants.{Quiet}
use Rattle.sequences.specs.View.{lent}
use Rattle.sequences.proofs.Laws.{checks_nothing}
use Rattle.timeouts.specs.Laws.{polls_quiet, polls_told}
use Rattle.timeouts.proofs.poll.Goals as goal

pub returns-then-is_quiet : goal.returns-then-is_quiet
returns-then-is_quiet c =
    let v = c.args in
    let m = lent v.data_pairs.now v.data_sources.now v.sync_pairs.now v.sync_sources.now in
    polls_quiet v.settings v.reading v.sequences m v.waiting.count v.rows.now v.store.now v.sequences m Quiet
    (checks_nothing v.sequences m c.requires.0 v.settings.announce_timeout v.reading (sym c.is_quiet.ensures ∙ c.if-is_quiet.true))
    c.check_waiting_data_timeouts-left.result.count c.check_waiting_data_timeouts-left.new.rows c.check_waiting_data_timeouts-left.new.store refl c.check_waiting_data_timeouts-left.ensures

pub returns-in_default : goal.returns-in_default
returns-in_default c =
    let v = c.args in
    polls_quiet v.settings v.reading v.sequences (lent v.data_pairs.now v.data_sources.now v.sync_pairs.now v.sync_sources.now) v.waiting.count v.rows.now v.store.now
    c.check_timeouts-checked.result.left (lent c.check_timeouts-checked.new.data_pairs c.check_timeouts-checked.new.data_sources c.check_timeouts-checked.new.sync_pairs c.check_timeouts-checked.new.sync_sources) c.check_timeouts-checked.result.answer c.check_timeouts-checked.ensures.view
    c.check_waiting_data_timeouts.result.count c.check_waiting_data_timeouts.new.rows c.check_waiting_data_timeouts.new.store c.in_default.is c.check_waiting_data_timeouts.ensures

pub returns : goal.returns
returns c =
    let v = c.args in
    polls_told v.settings v.reading v.sequences (lent v.data_pairs.now v.data_sources.now v.sync_pairs.now v.sync_sources.now) v.waiting.count v.rows.now v.store.now
    c.check_timeouts-checked.result.left (lent c.check_timeouts-checked.new.data_pairs c.check_timeouts-checked.new.data_sources c.check_timeouts-checked.new.sync_pairs c.check_timeouts-checked.new.sync_sources) c.check_timeouts-checked.result.answer c.check_timeouts-checked.ensures.view
    _ _ c.in-TimedOut.is c.requires.1
