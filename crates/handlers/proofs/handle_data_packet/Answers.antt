-- The short way took the packet; or it left all, and the step in full follows.
-- Assumes nothing.
use mathlib.Core.Path.{sym, subst}
use Rattle.model.specs.Packet.{data_packet}
use Rattle.model.specs.declared.StepAnswer.TheVariants.{Released}
use Rattle.packets.specs.View.{packet_of}
use Rattle.receiver.specs.declared.Receiver.{Receiver}
use Rattle.receiver.specs.View.{Memory, memory, Kept}
use Rattle.handlers.specs.View.{Steps}
use Rattle.handlers.specs.Laws.{steps_full}
use Rattle.handlers.proofs.handle_data_packet.Goals as goal

pub step_data-requires : goal.step_data-requires
step_data-requires c =
    let v = c.args in
    let x = c.step_short.ensures (memory v.data_pairs.now v.data_sources.now v.sync_pairs.now v.sync_sources.now v.rows.now v.store.now v.heard.now v.sources.now v.names.now v.pages.now v.universes.now) v.rows.now v.sources.now v.names.now v.pages.now in
    subst (λ (m : Memory). Kept v.receiver m) (sym (x.left c.in-None.is).0) c.requires

pub returns-in-None : goal.returns-in-None
returns-in-None c =
    let v = c.args in
    let x = c.step_short.ensures (memory v.data_pairs.now v.data_sources.now v.sync_pairs.now v.sync_sources.now v.rows.now v.store.now v.heard.now v.sources.now v.names.now v.pages.now v.universes.now) v.rows.now v.sources.now v.names.now v.pages.now in
    steps_full v.settings v.reading (packet_of v.packet v.values.now) v.receiver (memory v.data_pairs.now v.data_sources.now v.sync_pairs.now v.sync_sources.now v.rows.now v.store.now v.heard.now v.sources.now v.names.now v.pages.now v.universes.now) v.out.now (memory c.step_short.new.data_pairs v.data_sources.now v.sync_pairs.now v.sync_sources.now v.rows.now v.store.now v.heard.now v.sources.now v.names.now v.pages.now v.universes.now) c.step_short.new.out c.step_short.result
    c.step_data.result.left (memory c.step_data.new.data_pairs c.step_data.new.data_sources c.step_data.new.sync_pairs c.step_data.new.sync_sources c.step_data.new.rows c.step_data.new.store c.step_data.new.heard v.sources.now v.names.now c.step_data.new.pages c.step_data.new.universes) c.step_data.new.out c.step_data.result.answer x c.in-None.is c.step_data.ensures

pub returns-in-Some : goal.returns-in-Some
returns-in-Some c =
    let v = c.args in
    let x = c.step_short.ensures (memory v.data_pairs.now v.data_sources.now v.sync_pairs.now v.sync_sources.now v.rows.now v.store.now v.heard.now v.sources.now v.names.now v.pages.now v.universes.now) v.rows.now v.sources.now v.names.now v.pages.now in
    subst (λ (r : Receiver). Steps v.settings v.reading (data_packet (packet_of v.packet v.values.now)) v.receiver (memory v.data_pairs.now v.data_sources.now v.sync_pairs.now v.sync_sources.now v.rows.now v.store.now v.heard.now v.sources.now v.names.now v.pages.now v.universes.now) v.out.now r (memory c.step_short.new.data_pairs v.data_sources.now v.sync_pairs.now v.sync_sources.now v.rows.now v.store.now v.heard.now v.sources.now v.names.now v.pages.now v.universes.now) c.step_short.new.out (Released 1 c.in-Some.bytes))
    (sym c.note_reading.ensures) (x.steps c.in-Some.bytes c.in-Some.is c.requires)
