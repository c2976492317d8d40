-- The universe's waiting data is cleared, and the packet's record laid over the output.
-- Assumes nothing.
use mathlib.Core.Path.{subst}
use Rattle.merge.specs.declared.DmxData.{DmxData}
use Rattle.waiting_store.specs.Written.{Laid}
use Rattle.acceptance.specs.Laws.{releases}
use Rattle.acceptance.proofs.release_packet.Goals as goal

pub returns : goal.returns
returns c =
    let v = c.args in
    releases v.reading v.packet v.values.now v.waiting.count c.clear_waiting_data-c.result.left.count v.rows.now c.clear_waiting_data-c.new.rows v.store.now c.clear_waiting_data-c.new.store
    v.out.now c.write_record.new.out c.write_record.result
    c.clear_waiting_data-c.ensures.view
    (subst (λ (x : DmxData). Laid x v.values.now v.out.now c.write_record.new.out 0 c.write_record.result) c.dmx_data.ensures c.write_record.ensures)
