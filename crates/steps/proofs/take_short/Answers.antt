-- Another packet is left; the commonest is released as its arrival says.
-- Assumes nothing.
use mathlib.Core.Path.{sym, ◌∙◌}
use Rattle.packets.specs.View.{packet_of}
use Rattle.receiver.specs.View.{with_data_rows, with_listened_rows}
use Rattle.steps.specs.Laws.{takes_short, takes_short_nothing}
use Rattle.steps.proofs.take_short.Goals as goal

pub returns-then-packet : goal.returns-then-packet
returns-then-packet c m =
    let v = c.args in
    takes_short_nothing v.settings v.reading (packet_of v.packet v.values.now) v.receiver (with_data_rows v.data_pairs.now v.data_sources.now (with_listened_rows v.heard.now m)) v.out.now

pub returns : goal.returns
returns c m =
    let v = c.args in
    takes_short v.settings v.reading (packet_of v.packet v.values.now) v.receiver (with_data_rows v.data_pairs.now v.data_sources.now (with_listened_rows v.heard.now m)) v.out.now
    c.release_known.new.pairs c.release_known.new.out c.release_known.result c.if-packet.false c.if-packet-2.false (sym c.is_listening.ensures ∙ c.if-not-is_listening.false) c.requires.1 c.release_known.ensures
