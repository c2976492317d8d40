-- Lengths stop the step first; the poll has nothing to do, ends it or lets it go on. Each return has its law.
-- Assumes nothing.
use mathlib.Core.Path.{◌≡◌, sym, ap, ◌∙◌}
use native.Mathlib.Omega.{arith}
use Rattle.std.specs.Prelude.{Err}
use Rattle.std.proofs.Math.Option.{none}
use Rattle.std.proofs.lemmas.Grind.{common_steps}
use Rattle.lengths.specs.Space.{space_of}
use Rattle.lengths.specs.declared.LengthError.TheVariants.{TooLong}
use Rattle.model.specs.Step.{too_short}
use Rattle.receiver.proofs.Found.{none_short, none_long}
use Rattle.sequences.specs.View.{lent}
use Rattle.lengths.specs.Finds.{long_of}
use Rattle.receiver.specs.View.{with_sequence_rows, with_waiting_rows, with_discovery_rows}
use Rattle.lengths.specs.Finds.{short_of}
use Rattle.opening.specs.Laws.{long_enough}
use Rattle.opening.proofs.Laws.{opens_short, opens_long, opens_told, opens_quiet, opens_idle}
use Rattle.opening.proofs.open.Goals as goal

pub returns-in-Err-TooShort : goal.returns-in-Err-TooShort
returns-in-Err-TooShort c m sources names pages =
    let v = c.args in
    opens_short v.settings v.reading (long_of v.part) v.receiver
    (with_sequence_rows (lent v.data_pairs.now v.data_sources.now v.sync_pairs.now v.sync_sources.now) (with_waiting_rows v.rows.now v.store.now (with_discovery_rows sources names pages v.universes.now m))) v.out.now
    c.in-Err-TooShort.needed (short_of _ _ _ c.test_space.ensures (c.in-Err-TooShort.is ∙ ap Err c.in-Err-TooShort.field-0-is))

pub returns-in-Err-TooLong : goal.returns-in-Err-TooLong
returns-in-Err-TooLong c m sources names pages =
    let v = c.args in
    let z : too_short (space_of v.out.now v.store.now v.universes.now) ≡ none = grind (arith, common_steps, none_short c.test_space.result (too_short (space_of v.out.now v.store.now v.universes.now)) c.test_space.ensures) in
    let k : v.part ≡ Err (TooLong c.in-Err-TooLong.length) = grind (arith, common_steps) in
    opens_long v.settings v.reading (long_of v.part) v.receiver
    (with_sequence_rows (lent v.data_pairs.now v.data_sources.now v.sync_pairs.now v.sync_sources.now) (with_waiting_rows v.rows.now v.store.now (with_discovery_rows sources names pages v.universes.now m))) v.out.now
    c.in-Err-TooLong.length z (ap long_of k)

pub returns-then-is_idle : goal.returns-then-is_idle
returns-then-is_idle c m sources names pages =
    let v = c.args in
    let z : too_short (space_of v.out.now v.store.now v.universes.now) ≡ none = grind (arith, common_steps, none_short c.test_space.result (too_short (space_of v.out.now v.store.now v.universes.now)) c.test_space.ensures) in
    let l : long_of v.part ≡ none = grind (arith, common_steps, none_long v.part) in
    opens_idle v.settings v.reading (long_of v.part) v.receiver
    (with_sequence_rows (lent v.data_pairs.now v.data_sources.now v.sync_pairs.now v.sync_sources.now) (with_waiting_rows v.rows.now v.store.now (with_discovery_rows sources names pages v.universes.now m))) v.out.now
    (sym c.is_idle.ensures ∙ c.if-is_idle.true) z l c.requires.sequences c.requires.waiting

pub poll-p-requires : goal.poll-p-requires
poll-p-requires c =
    let v = c.args in
    let z : too_short (space_of v.out.now v.store.now v.universes.now) ≡ none = grind (arith, common_steps, none_short c.test_space.result (too_short (space_of v.out.now v.store.now v.universes.now)) c.test_space.ensures) in
    (c.requires.sequences, c.requires.waiting (long_enough v.out.now v.store.now v.universes.now z).held)

pub returns-in_default-answer : goal.returns-in_default-answer
returns-in_default-answer c m sources names pages =
    let v = c.args in
    let z : too_short (space_of v.out.now v.store.now v.universes.now) ≡ none = grind (arith, common_steps, none_short c.test_space.result (too_short (space_of v.out.now v.store.now v.universes.now)) c.test_space.ensures) in
    let l : long_of v.part ≡ none = grind (arith, common_steps, none_long v.part) in
    opens_quiet v.settings v.reading (long_of v.part) v.receiver
    (with_sequence_rows (lent v.data_pairs.now v.data_sources.now v.sync_pairs.now v.sync_sources.now) (with_waiting_rows v.rows.now v.store.now (with_discovery_rows sources names pages v.universes.now m))) v.out.now
    z l c.poll-p.ensures c.in_default-answer.is

pub returns : goal.returns
returns c m sources names pages =
    let v = c.args in
    let z : too_short (space_of v.out.now v.store.now v.universes.now) ≡ none = grind (arith, common_steps, none_short c.test_space.result (too_short (space_of v.out.now v.store.now v.universes.now)) c.test_space.ensures) in
    let l : long_of v.part ≡ none = grind (arith, common_steps, none_long v.part) in
    opens_told v.settings v.reading (long_of v.part) v.receiver
    (with_sequence_rows (lent v.data_pairs.now v.data_sources.now v.sync_pairs.now v.sync_sources.now) (with_waiting_rows v.rows.now v.store.now (with_discovery_rows sources names pages v.universes.now m))) v.out.now
    z l c.poll-p.ensures _ _ c.in-TimedOut.is
