-- The address is listened to, or refused; an accepted packet is stored, and the store's answer is the step's.
-- Assumes nothing.
use mathlib.Core.Path.{sym, subst}
use Rattle.merge.specs.declared.DmxData.{DmxData}
use Rattle.merge.specs.Views.{dmx}
use Rattle.waiting_calls.specs.Calls.{StoreCalled}
use Rattle.model.specs.declared.StepAnswer.{StepAnswer}
use Rattle.model.specs.Step as model
use Rattle.packets.specs.View.{packet_of}
use Rattle.acceptance.specs.View.{lent_of, Holds}
use Rattle.acceptance.specs.Laws.{holds_illegal, holds_full, holds_called}
use Rattle.acceptance.proofs.hold_packet.Goals as goal

pub returns-in-IllegalUniverse : goal.returns-in-IllegalUniverse
returns-in-IllegalUniverse c =
    let v = c.args in
    holds_illegal v.settings v.reading (packet_of v.packet v.values.now) (lent_of v.waiting.count v.listened v.rows.now v.store.now v.heard.now) c.requires.0
    c.listen_universe-l.result c.listen_universe-l.new.rows c.listen_universe-l.ensures _ c.in-IllegalUniverse.is

pub returns-in-ListenedFull : goal.returns-in-ListenedFull
returns-in-ListenedFull c =
    let v = c.args in
    holds_full v.settings v.reading (packet_of v.packet v.values.now) (lent_of v.waiting.count v.listened v.rows.now v.store.now v.heard.now) c.requires.0
    c.listen_universe-l.result c.listen_universe-l.new.rows c.listen_universe-l.ensures c.in-ListenedFull.is

pub returns-in-Listening : goal.returns-in-Listening
returns-in-Listening c =
    let v = c.args in
    let m = lent_of v.waiting.count v.listened v.rows.now v.store.now v.heard.now in
    let p = packet_of v.packet v.values.now in
    let k : StoreCalled m.count m.rows m.store v.settings.merge (model.dmx v.reading p) c.store_waiting_data-s.new.rows c.store_waiting_data-s.new.store c.store_waiting_data-s.result.left.count c.store_waiting_data-s.result.answer =
    subst (λ (x : DmxData). StoreCalled m.count m.rows m.store v.settings.merge (dmx x v.values.now) c.store_waiting_data-s.new.rows c.store_waiting_data-s.new.store c.store_waiting_data-s.result.left.count c.store_waiting_data-s.result.answer) c.dmx_data.ensures c.store_waiting_data-s.ensures in
    let g = holds_called v.settings v.reading p m c.requires.0 c.listen_universe-l.result c.listen_universe-l.new.rows c.listen_universe-l.ensures
    c.store_waiting_data-s.result.left.count c.store_waiting_data-s.new.rows c.store_waiting_data-s.new.store c.store_waiting_data-s.result.answer c.in-Listening.is c.requires.2 k in
    subst (λ (a : StepAnswer). Holds v.settings v.reading p m (lent_of c.store_waiting_data-s.result.left.count c.listen_universe-l.result.left c.store_waiting_data-s.new.rows c.store_waiting_data-s.new.store c.listen_universe-l.new.rows) a) (sym c.stored_answer.ensures.answer) g
