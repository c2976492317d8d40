-- The opening ends the step, or lets the packet be taken.
-- Assumes nothing.
use mathlib.Core.Path.{refl}
use Rattle.model.specs.Packet.{sync_packet}
use Rattle.packets.specs.View.{sync_of}
use Rattle.receiver.specs.View.{memory}
use Rattle.lengths.specs.Finds.{long_sync}
use Rattle.opening.specs.Laws.{ready_output, ready_held}
use Rattle.handlers.specs.Laws.{steps_stopped, steps_taken}
use Rattle.handlers.proofs.handle_sync_packet.Goals as goal

pub returns-in-Some : goal.returns-in-Some
returns-in-Some c =
    let v = c.args in
    let p = sync_packet (sync_of v.packet) in
    let l = long_sync (sync_of v.packet) in
    let x = rw c.in-Some.is at (c.open-opened.ensures (memory v.data_pairs.now v.data_sources.now v.sync_pairs.now v.sync_sources.now v.rows.now v.store.now v.heard.now v.sources.now v.names.now v.pages.now v.universes.now) v.sources.now v.names.now v.pages.now) in
    steps_stopped v.settings v.reading p v.receiver (memory v.data_pairs.now v.data_sources.now v.sync_pairs.now v.sync_sources.now v.rows.now v.store.now v.heard.now v.sources.now v.names.now v.pages.now v.universes.now) v.out.now c.requires _ l
    c.open-opened.result.left (memory c.open-opened.new.data_pairs c.open-opened.new.data_sources c.open-opened.new.sync_pairs c.open-opened.new.sync_sources c.open-opened.new.rows c.open-opened.new.store v.heard.now v.sources.now v.names.now v.pages.now v.universes.now) _ _ x refl

pub take_sync-requires : goal.take_sync-requires
take_sync-requires c =
    let v = c.args in
    let p = sync_packet (sync_of v.packet) in
    let l = long_sync (sync_of v.packet) in
    let x = rw c.in-None.is at (c.open-opened.ensures (memory v.data_pairs.now v.data_sources.now v.sync_pairs.now v.sync_sources.now v.rows.now v.store.now v.heard.now v.sources.now v.names.now v.pages.now v.universes.now) v.sources.now v.names.now v.pages.now) in
    let e = refl in
    record {
      sync = (x.kept c.requires).kept_sequences.kept_sync;
      waiting = ready_held _ _ _ _ _ _ _ _ _ _ c.requires x e;
      listened = (x.kept c.requires).kept_listened;
      room = ready_output _ _ _ _ _ _ _ _ _ _ c.requires x e;
    }

pub returns-in-None : goal.returns-in-None
returns-in-None c =
    let v = c.args in
    let p = sync_packet (sync_of v.packet) in
    let l = long_sync (sync_of v.packet) in
    let x = rw c.in-None.is at (c.open-opened.ensures (memory v.data_pairs.now v.data_sources.now v.sync_pairs.now v.sync_sources.now v.rows.now v.store.now v.heard.now v.sources.now v.names.now v.pages.now v.universes.now) v.sources.now v.names.now v.pages.now) in
    steps_taken v.settings v.reading p v.receiver (memory v.data_pairs.now v.data_sources.now v.sync_pairs.now v.sync_sources.now v.rows.now v.store.now v.heard.now v.sources.now v.names.now v.pages.now v.universes.now) v.out.now c.requires _ l
    c.open-opened.result.left (memory c.open-opened.new.data_pairs c.open-opened.new.data_sources c.open-opened.new.sync_pairs c.open-opened.new.sync_sources c.open-opened.new.rows c.open-opened.new.store v.heard.now v.sources.now v.names.now v.pages.now v.universes.now) _ _ x
    c.take_sync.result.left (memory c.open-opened.new.data_pairs c.open-opened.new.data_sources c.take_sync.new.sync_pairs c.take_sync.new.sync_sources c.take_sync.new.rows c.take_sync.new.store v.heard.now v.sources.now v.names.now v.pages.now v.universes.now) c.take_sync.new.out c.take_sync.result.answer
    refl (c.take_sync.ensures (memory c.open-opened.new.data_pairs c.open-opened.new.data_sources c.open-opened.new.sync_pairs c.open-opened.new.sync_sources c.open-opened.new.rows c.open-opened.new.store v.heard.now v.sources.now v.names.now v.pages.now v.universes.now))
