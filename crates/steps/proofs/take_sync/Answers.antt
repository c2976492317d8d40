-- Not listened to: nothing. Otherwise what the arrival ensures is the step's outcome.
-- Assumes nothing.
use mathlib.Core.Path.{sym, ◌∙◌}
use Rattle.packets.specs.View.{sync_of}
use Rattle.receiver.specs.View.{with_sync_rows, with_waiting_rows, with_listened_rows}
use Rattle.steps.specs.Laws.{takes_sync, takes_sync_unheard}
use Rattle.steps.proofs.take_sync.Goals as goal

pub returns : goal.returns
returns c m =
    let v = c.args in
    takes_sync v.settings v.reading (sync_of v.packet) v.receiver (with_sync_rows v.sync_pairs.now v.sync_sources.now (with_waiting_rows v.rows.now v.store.now (with_listened_rows v.heard.now m))) v.out.now
    c.arrive_sync-a.result.sync c.arrive_sync-a.new.pairs c.arrive_sync-a.new.sources c.arrive_sync-a.result.waiting c.arrive_sync-a.new.rows c.arrive_sync-a.new.store c.arrive_sync-a.new.out c.arrive_sync-a.result.answer
    (sym c.is_listening.ensures ∙ c.if-not-is_listening.false) c.arrive_sync-a.ensures

pub returns-then-not-is_listening : goal.returns-then-not-is_listening
returns-then-not-is_listening c m =
    let v = c.args in
    takes_sync_unheard v.settings v.reading (sync_of v.packet) v.receiver (with_sync_rows v.sync_pairs.now v.sync_sources.now (with_waiting_rows v.rows.now v.store.now (with_listened_rows v.heard.now m))) v.out.now (sym c.is_listening.ensures ∙ c.if-not-is_listening.true)
