-- Another packet is left; the commonest is renewed, and its record laid over the output.
-- Assumes nothing.
use mathlib.Core.Path.{subst}
use Rattle.merge.specs.declared.DmxData.{DmxData}
use Rattle.waiting_store.specs.Written.{Laid}
use Rattle.arrivals.specs.Laws.{shortens}
use Rattle.arrivals.proofs.release_known.Goals as goal

pub returns-then-renew : goal.returns-then-renew
returns-then-renew c =
    let v = c.args in
    shortens v.settings v.reading v.packet v.values.now v.«data».table v.waiting.count v.pairs.now v.sources.now v.out.now
    c.renew.new.pairs c.write_record.new.out c.write_record.result c.if-packet-ne0.false c.if-waiting-ne0.false (c.renew.ensures.accepted c.if-renew.true)
    (subst (λ (x : DmxData). Laid x v.values.now v.out.now c.write_record.new.out 0 c.write_record.result) c.dmx_data.ensures c.write_record.ensures)
