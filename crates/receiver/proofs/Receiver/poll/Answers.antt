-- The store is tested; then nothing is to be done, or what the poll ensures is the call's outcome.
-- Assumes nothing.
use mathlib.Core.Path.{◌≡◌, refl, sym, ap, ◌∙◌}
use native.Mathlib.Omega.{arith}
use Rattle.std.specs.Prelude.{Err}
use Rattle.std.proofs.Math.Option.{none}
use Rattle.std.proofs.lemmas.Grind.{common_steps}
use Rattle.std.specs.Prelude.{length}
use Rattle.model.specs.Step.{short, waiting_bytes}
use Rattle.receiver.proofs.Found.{none_short}
use Rattle.pairs.specs.declared.SweepAnswer.TheVariants.{Quiet}
use Rattle.sequences.specs.View.{lent}
use Rattle.timeouts.specs.Laws.{polls_idle}
use Rattle.receiver.specs.View.{with_sequence_rows, with_waiting_rows}
use Rattle.lengths.specs.Finds.{short_of, room_for}
use Rattle.receiver.specs.Further.{does_poll_short, does_poll, does_poll_told}
use Rattle.receiver.proofs.Receiver.poll.Goals as goal

pub returns-in-Err-TooShort : goal.returns-in-Err-TooShort
returns-in-Err-TooShort c =
    let v = c.args in
    λ m. does_poll_short v.settings v.reading v.self (with_sequence_rows (lent v.data_pairs.now v.data_sources.now v.sync_pairs.now v.sync_sources.now) (with_waiting_rows v.rows.now v.store.now m)) c.in-Err-TooShort.needed (short_of _ _ _ c.test_waiting_store.ensures (c.in-Err-TooShort.is ∙ ap Err c.in-Err-TooShort.field-0-is))

pub returns-then-is_idle : goal.returns-then-is_idle
returns-then-is_idle c =
    let v = c.args in
    let n = lent v.data_pairs.now v.data_sources.now v.sync_pairs.now v.sync_sources.now in
    let z : short waiting_bytes (length v.store.now) ≡ none = grind (arith, common_steps, none_short c.test_waiting_store.result (short waiting_bytes (length v.store.now)) c.test_waiting_store.ensures) in
    λ m. does_poll v.settings v.reading v.self (with_sequence_rows n (with_waiting_rows v.rows.now v.store.now m))
    v.self.sequences n v.self.waiting v.rows.now v.store.now Quiet z
    (polls_idle v.settings v.reading v.self.sequences n v.self.waiting.count v.rows.now v.store.now (sym c.is_idle.ensures ∙ c.if-is_idle.true) c.requires.sequences (c.requires.waiting (room_for _ _ z))) refl

pub returns-in-Quiet : goal.returns-in-Quiet
returns-in-Quiet c =
    let v = c.args in
    let z : short waiting_bytes (length v.store.now) ≡ none = grind (arith, common_steps, none_short c.test_waiting_store.result (short waiting_bytes (length v.store.now)) c.test_waiting_store.ensures) in
    λ m. does_poll v.settings v.reading v.self (with_sequence_rows (lent v.data_pairs.now v.data_sources.now v.sync_pairs.now v.sync_sources.now) (with_waiting_rows v.rows.now v.store.now m))
    _ _ _ _ _ _ z c.poll-p.ensures c.in-Quiet.is

pub returns-in-TimedOut : goal.returns-in-TimedOut
returns-in-TimedOut c =
    let v = c.args in
    let z : short waiting_bytes (length v.store.now) ≡ none = grind (arith, common_steps, none_short c.test_waiting_store.result (short waiting_bytes (length v.store.now)) c.test_waiting_store.ensures) in
    λ m. does_poll_told v.settings v.reading v.self (with_sequence_rows (lent v.data_pairs.now v.data_sources.now v.sync_pairs.now v.sync_sources.now) (with_waiting_rows v.rows.now v.store.now m))
    _ _ _ _ _ _ z c.poll-p.ensures _ _ c.in-TimedOut.is
