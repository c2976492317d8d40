-- The packet is synchronised or the opening has something to do, and all is left; or what the short way ensures is the step's outcome.
-- Assumes nothing.
use mathlib.Core.Path.{◌∙◌}
use Rattle.packets.specs.View.{packet_of}
use Rattle.receiver.specs.View.{with_data_rows, with_listened_rows, with_waiting_rows, with_discovery_rows}
use Rattle.lengths.specs.Finds.{long_of, long_data, values_fit}
use Rattle.opening.specs.Laws.{long_enough}
use Rattle.handlers.specs.Laws.{steps_short, steps_short_nothing}
use Rattle.handlers.proofs.step_short.Goals as goal

pub returns-then-packet-ne0 : goal.returns-then-packet-ne0
returns-then-packet-ne0 c m rows sources names pages =
    let v = c.args in
    steps_short_nothing v.settings v.reading (packet_of v.packet v.values.now) v.receiver (with_data_rows v.data_pairs.now v.data_sources.now (with_listened_rows v.heard.now (with_waiting_rows rows v.store.now (with_discovery_rows sources names pages v.universes.now m)))) v.out.now

pub take_short-requires : goal.take_short-requires
take_short-requires c =
    let v = c.args in
    let y = c.is_ready.ensures c.if-not-is_ready.false in
    (c.requires.0, c.requires.1, (long_enough v.out.now v.store.now v.universes.now y.room).output, values_fit (packet_of v.packet v.values.now) (long_data (packet_of v.packet v.values.now) _ c.test_values.ensures ∙ y.fits))

pub returns : goal.returns
returns c m rows sources names pages =
    let v = c.args in
    steps_short v.settings v.reading (packet_of v.packet v.values.now) v.receiver (with_data_rows v.data_pairs.now v.data_sources.now (with_listened_rows v.heard.now (with_waiting_rows rows v.store.now (with_discovery_rows sources names pages v.universes.now m)))) v.out.now (long_of c.test_values.result)
    (with_data_rows c.take_short.new.data_pairs v.data_sources.now (with_listened_rows v.heard.now (with_waiting_rows rows v.store.now (with_discovery_rows sources names pages v.universes.now m)))) c.take_short.new.out c.take_short.result
    (long_data (packet_of v.packet v.values.now) _ c.test_values.ensures) (c.is_ready.ensures c.if-not-is_ready.false)
    (c.take_short.ensures (with_waiting_rows rows v.store.now (with_discovery_rows sources names pages v.universes.now m)))
