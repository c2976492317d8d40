-- What the receiver's step ensures, told over the boundary.
-- Assumes nothing.
use mathlib.Core.Path.{ap}
use Rattle.model.specs.Packet.{discovery_packet}
use Rattle.receiver.specs.View.{memory}
use Rattle.boundary.specs.Boundary.{settings_of, announced_in}
use Rattle.tamburelvi.specs.Laws.{replies}
use Rattle.tamburelvi.proofs.tamburelvi_handle_universe_discovery_packet.Goals as goal

pub returns : goal.returns
returns c =
    let v = c.args in
    let h = c.handle_universe_discovery_packet in
    replies (settings_of v.choices) v.reading (discovery_packet (announced_in v.page v.name.now v.list.now)) v.header (memory v.data_pairs.now v.data_sources.now v.sync_pairs.now v.sync_sources.now v.rows.now v.store.now v.heard.now v.sources.now v.names.now v.pages.now v.universes.now) v.out.now
    h.result (memory h.new.data_pairs h.new.data_sources h.new.sync_pairs h.new.sync_sources h.new.rows h.new.store v.heard.now h.new.sources h.new.names h.new.pages h.new.universes) v.out.now
    _ _ _ _ c.settings_of.ensures (ap discovery_packet (c.discovery_of.ensures v.name.now v.list.now)) c.receiver_of.ensures h.ensures c.step_reply.ensures
