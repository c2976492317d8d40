-- Preview, then the course decide; then what the end of the stream or the arrival ensures is the step's outcome.
-- Assumes nothing.
use mathlib.Core.Path.{sym, ◌∙◌}
use Rattle.sequences.specs.View.{lent}
use Rattle.packets.specs.View.{packet_of}
use Rattle.receiver.specs.View.{memory}
use Rattle.packets.specs.Laws.{course_end, course_arrive, course_pass}
use Rattle.steps.specs.Laws.{takes_unwanted, takes_ended, takes_unheard, takes_data}
use Rattle.steps.proofs.take_data.Goals as goal

pub returns-then-is_unwanted : goal.returns-then-is_unwanted
returns-then-is_unwanted c =
    let v = c.args in
    takes_unwanted v.settings v.reading (packet_of v.packet v.values.now) v.receiver (memory v.data_pairs.now v.data_sources.now v.sync_pairs.now v.sync_sources.now v.rows.now v.store.now v.heard.now v.sources.now v.names.now v.pages.now v.universes.now) v.out.now (sym c.is_unwanted.ensures ∙ c.if-is_unwanted.true)

pub returns-then-settings : goal.returns-then-settings
returns-then-settings c =
    let k = c.is_listening-listening in
    let v = c.args in
    takes_ended v.settings v.reading (packet_of v.packet v.values.now) v.receiver (memory v.data_pairs.now v.data_sources.now v.sync_pairs.now v.sync_sources.now v.rows.now v.store.now v.heard.now v.sources.now v.names.now v.pages.now v.universes.now) v.out.now
    c.end_stream-next.result (lent c.end_stream-next.new.data_pairs c.end_stream-next.new.data_sources c.end_stream-next.new.sync_pairs c.end_stream-next.new.sync_sources) c.end_stream-next.new.pages c.end_stream-next.new.universes _
    (sym c.is_unwanted.ensures ∙ c.if-is_unwanted.false) (course_end v.packet.terminated k.result c.course_of.result c.course_of.ensures c.in-End.is) (c.end_stream-next.ensures (memory v.data_pairs.now v.data_sources.now v.sync_pairs.now v.sync_sources.now v.rows.now v.store.now v.heard.now v.sources.now v.names.now v.pages.now v.universes.now)) (rw c.if-settings.true)

pub returns-else-settings : goal.returns-else-settings
returns-else-settings c =
    let k = c.is_listening-listening in
    let v = c.args in
    takes_ended v.settings v.reading (packet_of v.packet v.values.now) v.receiver (memory v.data_pairs.now v.data_sources.now v.sync_pairs.now v.sync_sources.now v.rows.now v.store.now v.heard.now v.sources.now v.names.now v.pages.now v.universes.now) v.out.now
    c.end_stream-next.result (lent c.end_stream-next.new.data_pairs c.end_stream-next.new.data_sources c.end_stream-next.new.sync_pairs c.end_stream-next.new.sync_sources) c.end_stream-next.new.pages c.end_stream-next.new.universes _
    (sym c.is_unwanted.ensures ∙ c.if-is_unwanted.false) (course_end v.packet.terminated k.result c.course_of.result c.course_of.ensures c.in-End.is) (c.end_stream-next.ensures (memory v.data_pairs.now v.data_sources.now v.sync_pairs.now v.sync_sources.now v.rows.now v.store.now v.heard.now v.sources.now v.names.now v.pages.now v.universes.now)) (rw c.if-settings.false)

pub returns-in-Arrive : goal.returns-in-Arrive
returns-in-Arrive c =
    let k = c.is_listening-listening in
    let v = c.args in
    let h = course_arrive v.packet.terminated k.result c.course_of.result c.course_of.ensures c.in-Arrive.is in
    takes_data v.settings v.reading (packet_of v.packet v.values.now) v.receiver (memory v.data_pairs.now v.data_sources.now v.sync_pairs.now v.sync_sources.now v.rows.now v.store.now v.heard.now v.sources.now v.names.now v.pages.now v.universes.now) v.out.now
    c.arrive_data-a.result.«data» c.arrive_data-a.new.pairs c.arrive_data-a.new.sources c.arrive_data-a.result.waiting c.arrive_data-a.result.listened c.arrive_data-a.new.rows c.arrive_data-a.new.store c.arrive_data-a.new.heard c.arrive_data-a.new.out c.arrive_data-a.result.answer
    (sym c.is_unwanted.ensures ∙ c.if-is_unwanted.false) h.0 (sym k.ensures ∙ h.1) c.arrive_data-a.ensures

pub returns-in-Pass : goal.returns-in-Pass
returns-in-Pass c =
    let k = c.is_listening-listening in
    let v = c.args in
    let h = course_pass v.packet.terminated k.result c.course_of.result c.course_of.ensures c.in-Pass.is in
    takes_unheard v.settings v.reading (packet_of v.packet v.values.now) v.receiver (memory v.data_pairs.now v.data_sources.now v.sync_pairs.now v.sync_sources.now v.rows.now v.store.now v.heard.now v.sources.now v.names.now v.pages.now v.universes.now) v.out.now
    (sym c.is_unwanted.ensures ∙ c.if-is_unwanted.false) h.0 (sym k.ensures ∙ h.1)
