-- The store is tested; then what the clearing ensures is the call's outcome.
-- Assumes nothing.
use Rattle.receiver.proofs.Found.{none_short}
use Rattle.receiver.specs.View.{with_waiting_rows}
use Rattle.lengths.specs.Finds.{short_of}
use Rattle.receiver.specs.Further.{does_clear_short, does_clear}
use native.Mathlib.Omega.{arith}
use Rattle.std.proofs.lemmas.Grind.{common_steps}
use Rattle.receiver.proofs.Receiver.clear_waiting_data.Goals as goal
use Rattle.std.specs.Prelude.{◌≡◌, length, Err}
use Rattle.std.proofs.Math.Option.{none}
use Rattle.model.specs.Step.{short, waiting_bytes}
use mathlib.Core.Path.{ap, ◌∙◌}

pub returns-in-Err-TooShort : goal.returns-in-Err-TooShort
returns-in-Err-TooShort c =
    let v = c.args in
    λ m. does_clear_short v.universe v.self (with_waiting_rows v.rows.now v.store.now m) c.in-Err-TooShort.needed (short_of _ _ _ c.test_waiting_store.ensures (c.in-Err-TooShort.is ∙ ap Err c.in-Err-TooShort.field-0-is))

pub returns : goal.returns
returns c =
    let v = c.args in
    let z : short waiting_bytes (length v.store.now) ≡ none = grind (arith, common_steps, none_short c.test_waiting_store.result (short waiting_bytes (length v.store.now)) c.test_waiting_store.ensures) in
    λ m. does_clear v.universe v.self (with_waiting_rows v.rows.now v.store.now m)
    c.clear_waiting_data-c.result.left c.clear_waiting_data-c.new.rows c.clear_waiting_data-c.new.store c.clear_waiting_data-c.result.answer z c.clear_waiting_data-c.ensures.view c.clear_waiting_data-c.ensures.answer
