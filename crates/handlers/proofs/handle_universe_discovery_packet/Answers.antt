-- The opening ends the step, or lets the packet be taken.
-- Assumes nothing.
use mathlib.Core.Path.{refl, ◌∙◌}
use Rattle.model.specs.Packet.{discovery_packet}
use Rattle.receiver.specs.View.{memory}
use Rattle.packets.specs.View.{announcement_of}
use Rattle.lengths.specs.Finds.{long_announcement, name_fits, list_fits}
use Rattle.opening.specs.Laws.{ready_found}
use Rattle.handlers.specs.Laws.{steps_stopped, steps_taken}
use Rattle.handlers.proofs.handle_universe_discovery_packet.Goals as goal

pub returns-in-Some : goal.returns-in-Some
returns-in-Some c =
    let v = c.args in
    let p = discovery_packet (announcement_of v.packet v.name.now v.list.now) in
    let l = long_announcement (announcement_of v.packet v.name.now v.list.now) _ c.test_announcement.ensures in
    let x = rw c.in-Some.is at (c.open-opened.ensures (memory v.data_pairs.now v.data_sources.now v.sync_pairs.now v.sync_sources.now v.rows.now v.store.now v.heard.now v.sources.now v.names.now v.pages.now v.universes.now) v.sources.now v.names.now v.pages.now) in
    steps_stopped v.settings v.reading p v.receiver (memory v.data_pairs.now v.data_sources.now v.sync_pairs.now v.sync_sources.now v.rows.now v.store.now v.heard.now v.sources.now v.names.now v.pages.now v.universes.now) v.out.now c.requires _ l
    c.open-opened.result.left (memory c.open-opened.new.data_pairs c.open-opened.new.data_sources c.open-opened.new.sync_pairs c.open-opened.new.sync_sources c.open-opened.new.rows c.open-opened.new.store v.heard.now v.sources.now v.names.now v.pages.now v.universes.now) _ _ x refl

pub take_discovery-requires : goal.take_discovery-requires
take_discovery-requires c =
    let v = c.args in
    let p = discovery_packet (announcement_of v.packet v.name.now v.list.now) in
    let l = long_announcement (announcement_of v.packet v.name.now v.list.now) _ c.test_announcement.ensures in
    let x = rw c.in-None.is at (c.open-opened.ensures (memory v.data_pairs.now v.data_sources.now v.sync_pairs.now v.sync_sources.now v.rows.now v.store.now v.heard.now v.sources.now v.names.now v.pages.now v.universes.now) v.sources.now v.names.now v.pages.now) in
    let e = refl in
    record {
      discovery = ready_found _ _ _ _ _ _ _ _ _ _ c.requires x e refl;
      name = name_fits _ (l ∙ (x.fits e).1);
      list = list_fits _ (l ∙ (x.fits e).1);
    }

pub returns-in-None : goal.returns-in-None
returns-in-None c =
    let v = c.args in
    let p = discovery_packet (announcement_of v.packet v.name.now v.list.now) in
    let l = long_announcement (announcement_of v.packet v.name.now v.list.now) _ c.test_announcement.ensures in
    let x = rw c.in-None.is at (c.open-opened.ensures (memory v.data_pairs.now v.data_sources.now v.sync_pairs.now v.sync_sources.now v.rows.now v.store.now v.heard.now v.sources.now v.names.now v.pages.now v.universes.now) v.sources.now v.names.now v.pages.now) in
    steps_taken v.settings v.reading p v.receiver (memory v.data_pairs.now v.data_sources.now v.sync_pairs.now v.sync_sources.now v.rows.now v.store.now v.heard.now v.sources.now v.names.now v.pages.now v.universes.now) v.out.now c.requires _ l
    c.open-opened.result.left (memory c.open-opened.new.data_pairs c.open-opened.new.data_sources c.open-opened.new.sync_pairs c.open-opened.new.sync_sources c.open-opened.new.rows c.open-opened.new.store v.heard.now v.sources.now v.names.now v.pages.now v.universes.now) _ _ x
    c.take_discovery.result.left (memory c.open-opened.new.data_pairs c.open-opened.new.data_sources c.open-opened.new.sync_pairs c.open-opened.new.sync_sources c.open-opened.new.rows c.open-opened.new.store v.heard.now c.take_discovery.new.sources c.take_discovery.new.names c.take_discovery.new.pages c.take_discovery.new.universes) v.out.now c.take_discovery.result.answer
    refl (c.take_discovery.ensures (memory c.open-opened.new.data_pairs c.open-opened.new.data_sources c.open-opened.new.sync_pairs c.open-opened.new.sync_sources c.open-opened.new.rows c.open-opened.new.store v.heard.now v.sources.now v.names.now v.pages.now v.universes.now) v.out.now)
