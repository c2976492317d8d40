-- Field after field; the values lie at the front.
-- Assumes nothing.
use Rattle.std.proofs.Common.{length, Some, refl, sym, ap, ◌∙◌}
use Rattle.script.specs.Fields.{byte_string_of}
use Rattle.script.specs.Script.{rest_of, past_five, numbers_of, data_of}
use Rattle.script.specs.ScriptLaws.{whole, data_same, decoded_found, decoded_none}
use Rattle.script.proofs.parse.parse_data.Goals as goal

pub returns-in_err-stamp : goal.returns-in_err-stamp
unfolding data_of
returns-in_err-stamp c = λ us. rw (c.from_residual.ensures, sym c.parse_stamp.ensures ∙ c.in_err-stamp.was) refl

pub returns-in_err-numbers : goal.returns-in_err-numbers
unfolding data_of
returns-in_err-numbers c =
    let t = sym c.parse_stamp.ensures ∙ c.in_ok-stamp.was in
    let t3 = c.rest-third.ensures ∙ ap rest_of c.rest.ensures in
    λ us. rw (c.from_residual-in_err-numbers.ensures, t, whole numbers_of t3 c.parse_data_numbers.ensures c.in_err-numbers.was) refl

pub returns-in_err-count : goal.returns-in_err-count
unfolding data_of
returns-in_err-count c =
    let room = length c.args.bytes.now in
    let t = sym c.parse_stamp.ensures ∙ c.in_ok-stamp.was in
    let t3 = c.rest-third.ensures ∙ ap rest_of c.rest.ensures in
    let n = whole numbers_of t3 c.parse_data_numbers.ensures c.in_ok-numbers.was in
    let k = decoded_none (byte_string_of room c.past_five.result.now) c.parse_byte_string.new.out c.in_err-count.ensures in
    λ us. rw (c.from_residual-in_err-count.ensures, t, n, ap (byte_string_of room) (sym (c.past_five.ensures ∙ ap past_five t3)) ∙ k) refl

pub returns : goal.returns
unfolding data_of
returns c =
    let room = length c.args.bytes.now in
    let t = sym c.parse_stamp.ensures ∙ c.in_ok-stamp.was in
    let t3 = c.rest-third.ensures ∙ ap rest_of c.rest.ensures in
    let n = whole numbers_of t3 c.parse_data_numbers.ensures c.in_ok-numbers.was in
    let k = decoded_found (byte_string_of room c.past_five.result.now) c.in_ok-count.count c.parse_byte_string.new.out c.in_ok-count.ensures in
    λ us. rw (t, n, ap (byte_string_of room) (sym (c.past_five.ensures ∙ ap past_five t3)) ∙ k.is_found)
    (ap Some (data_same c.data_packet.ensures k.counts), record { bytes_are = k.lies; numbers_are = refl })
