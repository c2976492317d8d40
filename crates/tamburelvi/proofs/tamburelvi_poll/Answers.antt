-- What the receiver's call ensures, told over the boundary.
-- Assumes nothing.
use mathlib.Core.Path.{subst}
use lib.ListN.{length}
use Rattle.settings.specs.declared.Settings.{Settings}
use Rattle.sequences.specs.View.{lent}
use Rattle.model.specs.Answer.{poll_number, poll_values}
use Rattle.model.specs.Calls.{poll_call}
use Rattle.receiver.specs.View.{with_sequence_rows, with_waiting_rows, Does}
use Rattle.boundary.specs.Boundary.{settings_of, polled_of}
use Rattle.tamburelvi.specs.Laws.{answers}
use Rattle.boundary.proofs.Laws.{tells_poll}
use Rattle.tamburelvi.proofs.tamburelvi_poll.Goals as goal

pub returns : goal.returns
returns c m =
    let v = c.args in
    let h = c.poll-h in
    answers (poll_call (length v.store.now) (settings_of v.choices) v.reading) poll_number poll_values polled_of tells_poll v.header (with_sequence_rows (lent v.data_pairs.now v.data_sources.now v.sync_pairs.now v.sync_sources.now) (with_waiting_rows v.rows.now v.store.now m)) h.result.left (with_sequence_rows (lent h.new.data_pairs h.new.data_sources h.new.sync_pairs h.new.sync_sources) (with_waiting_rows h.new.rows h.new.store m)) h.result.answer _ _ _
    c.receiver_of.ensures (subst (λ (w : Settings). Does (poll_call (length v.store.now) w v.reading) poll_number c.receiver_of.result (with_sequence_rows (lent v.data_pairs.now v.data_sources.now v.sync_pairs.now v.sync_sources.now) (with_waiting_rows v.rows.now v.store.now m)) h.result.left (with_sequence_rows (lent h.new.data_pairs h.new.data_sources h.new.sync_pairs h.new.sync_sources) (with_waiting_rows h.new.rows h.new.store m)) h.result.answer) c.settings_of.ensures (h.ensures m)) c.header_of.ensures c.polled.ensures
