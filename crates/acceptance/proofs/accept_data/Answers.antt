-- Address 0 is released at once, any other held.
-- Assumes nothing.
use Rattle.packets.specs.View.{packet_of}
use Rattle.acceptance.specs.View.{lent_of}
use Rattle.acceptance.specs.Laws.{accepts_released, accepts_held}
use Rattle.acceptance.proofs.accept_data.Goals as goal

pub returns-then-packet-eq0 : goal.returns-then-packet-eq0
returns-then-packet-eq0 c =
    let v = c.args in
    accepts_released v.settings v.reading (packet_of v.packet v.values.now) (lent_of v.waiting.count v.listened v.rows.now v.store.now v.heard.now) v.out.now
    c.release_packet-p.result.left.count c.release_packet-p.new.rows c.release_packet-p.new.store c.release_packet-p.new.out c.release_packet-p.result.answer
    c.if-packet-eq0.true c.requires.1 c.release_packet-p.ensures

pub returns-else-packet-eq0 : goal.returns-else-packet-eq0
returns-else-packet-eq0 c =
    let v = c.args in
    accepts_held v.settings v.reading (packet_of v.packet v.values.now) (lent_of v.waiting.count v.listened v.rows.now v.store.now v.heard.now) v.out.now
    (lent_of c.hold_packet.result.waiting.count c.hold_packet.result.listened c.hold_packet.new.rows c.hold_packet.new.store c.hold_packet.new.heard)
    c.hold_packet.result.answer c.if-packet-eq0.false c.hold_packet.ensures
