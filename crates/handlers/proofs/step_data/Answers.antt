-- The opening ends the step, or lets the packet be taken.
-- Assumes nothing.
use mathlib.Core.Path.{refl, ◌∙◌}
use Rattle.model.specs.Packet.{data_packet}
use Rattle.packets.specs.View.{packet_of}
use Rattle.receiver.specs.View.{memory}
use Rattle.lengths.specs.Finds.{long_data, values_fit}
use Rattle.opening.specs.Laws.{ready_output, ready_held, ready_found}
use Rattle.handlers.specs.Laws.{steps_stopped, steps_taken}
use Rattle.handlers.proofs.step_data.Goals as goal

pub returns-in-Some : goal.returns-in-Some
returns-in-Some c =
    let v = c.args in
    let p = data_packet (packet_of v.packet v.values.now) in
    let l = long_data (packet_of v.packet v.values.now) _ c.test_values.ensures in
    let x = rw c.in-Some.is at (c.open-opened.ensures (memory v.data_pairs.now v.data_sources.now v.sync_pairs.now v.sync_sources.now v.rows.now v.store.now v.heard.now v.sources.now v.names.now v.pages.now v.universes.now) v.sources.now v.names.now v.pages.now) in
    steps_stopped v.settings v.reading p v.receiver (memory v.data_pairs.now v.data_sources.now v.sync_pairs.now v.sync_sources.now v.rows.now v.store.now v.heard.now v.sources.now v.names.now v.pages.now v.universes.now) v.out.now c.requires _ l
    c.open-opened.result.left (memory c.open-opened.new.data_pairs c.open-opened.new.data_sources c.open-opened.new.sync_pairs c.open-opened.new.sync_sources c.open-opened.new.rows c.open-opened.new.store v.heard.now v.sources.now v.names.now v.pages.now v.universes.now) _ _ x refl

pub take_data-requires : goal.take_data-requires
take_data-requires c =
    let v = c.args in
    let p = data_packet (packet_of v.packet v.values.now) in
    let l = long_data (packet_of v.packet v.values.now) _ c.test_values.ensures in
    let x = rw c.in-None.is at (c.open-opened.ensures (memory v.data_pairs.now v.data_sources.now v.sync_pairs.now v.sync_sources.now v.rows.now v.store.now v.heard.now v.sources.now v.names.now v.pages.now v.universes.now) v.sources.now v.names.now v.pages.now) in
    let e = refl in
    ((x.kept c.requires).kept_sequences, ready_held _ _ _ _ _ _ _ _ _ _ c.requires x e, (x.kept c.requires).kept_listened, ready_found _ _ _ _ _ _ _ _ _ _ c.requires x e refl, ready_output _ _ _ _ _ _ _ _ _ _ c.requires x e, values_fit _ (l ∙ (x.fits e).1))

pub returns-in-None : goal.returns-in-None
returns-in-None c =
    let v = c.args in
    let p = data_packet (packet_of v.packet v.values.now) in
    let l = long_data (packet_of v.packet v.values.now) _ c.test_values.ensures in
    let x = rw c.in-None.is at (c.open-opened.ensures (memory v.data_pairs.now v.data_sources.now v.sync_pairs.now v.sync_sources.now v.rows.now v.store.now v.heard.now v.sources.now v.names.now v.pages.now v.universes.now) v.sources.now v.names.now v.pages.now) in
    steps_taken v.settings v.reading p v.receiver (memory v.data_pairs.now v.data_sources.now v.sync_pairs.now v.sync_sources.now v.rows.now v.store.now v.heard.now v.sources.now v.names.now v.pages.now v.universes.now) v.out.now c.requires _ l
    c.open-opened.result.left (memory c.open-opened.new.data_pairs c.open-opened.new.data_sources c.open-opened.new.sync_pairs c.open-opened.new.sync_sources c.open-opened.new.rows c.open-opened.new.store v.heard.now v.sources.now v.names.now v.pages.now v.universes.now) _ _ x
    c.take_data.result.left (memory c.take_data.new.data_pairs c.take_data.new.data_sources c.take_data.new.sync_pairs c.take_data.new.sync_sources c.take_data.new.rows c.take_data.new.store c.take_data.new.heard v.sources.now v.names.now c.take_data.new.pages c.take_data.new.universes) c.take_data.new.out c.take_data.result.answer
    refl c.take_data.ensures
