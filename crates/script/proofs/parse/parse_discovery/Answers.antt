-- Field after field; the name and the universes lie at the front.
-- Assumes nothing.
use Rattle.std.proofs.Common.{length, Some, refl, sym, ap, ◌∙◌}
use Rattle.script.specs.Fields.{octet_of, byte_string_of, list_of}
use Rattle.script.specs.Script.{first_of, rest_of, discovery_of}
use Rattle.script.specs.ScriptLaws.{field, page_same, decoded_found, decoded_none}
use Rattle.script.proofs.parse.parse_discovery.Goals as goal

pub returns-in_err-stamp : goal.returns-in_err-stamp
unfolding discovery_of
returns-in_err-stamp c = rw (c.from_residual.ensures, sym c.parse_stamp.ensures ∙ c.in_err-stamp.was) refl

pub returns-in_err-page : goal.returns-in_err-page
unfolding discovery_of
returns-in_err-page c =
    let t = sym c.parse_stamp.ensures ∙ c.in_ok-stamp.was in
    let t3 = c.rest-third.ensures ∙ ap rest_of c.rest.ensures in
    rw (c.from_residual-in_err-page.ensures, t, field octet_of c.first.ensures t3 c.parse_octet.ensures c.in_err-page.was) refl

pub returns-in_err-last_page : goal.returns-in_err-last_page
unfolding discovery_of
returns-in_err-last_page c =
    let t = sym c.parse_stamp.ensures ∙ c.in_ok-stamp.was in
    let t3 = c.rest-third.ensures ∙ ap rest_of c.rest.ensures in
    let t4 = c.rest-fourth.ensures ∙ ap rest_of t3 in
    let p = field octet_of c.first.ensures t3 c.parse_octet.ensures c.in_ok-page.was in
    rw (c.from_residual-in_err-last_page.ensures, t, p, field octet_of c.first-2.ensures t4 c.parse_octet-2.ensures c.in_err-last_page.was) refl

pub returns-in_err-name : goal.returns-in_err-name
unfolding discovery_of
returns-in_err-name c =
    let room = length c.args.bytes.now in
    let t = sym c.parse_stamp.ensures ∙ c.in_ok-stamp.was in
    let t3 = c.rest-third.ensures ∙ ap rest_of c.rest.ensures in
    let t4 = c.rest-fourth.ensures ∙ ap rest_of t3 in
    let t5 = c.rest-fifth.ensures ∙ ap rest_of t4 in
    let p = field octet_of c.first.ensures t3 c.parse_octet.ensures c.in_ok-page.was in
    let e = field octet_of c.first-2.ensures t4 c.parse_octet-2.ensures c.in_ok-last_page.was in
    let k = decoded_none (byte_string_of room c.first-3.result.now) c.parse_byte_string.new.out c.in_err-name.ensures in
    rw (c.from_residual-in_err-name.ensures, t, p, e, ap (byte_string_of room) (sym (c.first-3.ensures ∙ ap first_of t5)) ∙ k) refl

pub returns-in_err-count : goal.returns-in_err-count
unfolding discovery_of
returns-in_err-count c =
    let room = length c.args.bytes.now in
    let places = length c.args.list.now in
    let t = sym c.parse_stamp.ensures ∙ c.in_ok-stamp.was in
    let t3 = c.rest-third.ensures ∙ ap rest_of c.rest.ensures in
    let t4 = c.rest-fourth.ensures ∙ ap rest_of t3 in
    let t5 = c.rest-fifth.ensures ∙ ap rest_of t4 in
    let p = field octet_of c.first.ensures t3 c.parse_octet.ensures c.in_ok-page.was in
    let e = field octet_of c.first-2.ensures t4 c.parse_octet-2.ensures c.in_ok-last_page.was in
    let k = decoded_found (byte_string_of room c.first-3.result.now) c.in_ok-name.name c.parse_byte_string.new.out c.in_ok-name.ensures in
    let l = decoded_none (list_of places c.rest-2.result.now) c.parse_list.new.out c.in_err-count.ensures in
    rw (c.from_residual-in_err-count.ensures, t, p, e, ap (byte_string_of room) (sym (c.first-3.ensures ∙ ap first_of t5)) ∙ k.is_found, ap (list_of places) (sym (c.rest-2.ensures ∙ ap rest_of t5)) ∙ l) refl

pub returns : goal.returns
unfolding discovery_of
returns c =
    let room = length c.args.bytes.now in
    let places = length c.args.list.now in
    let t = sym c.parse_stamp.ensures ∙ c.in_ok-stamp.was in
    let t3 = c.rest-third.ensures ∙ ap rest_of c.rest.ensures in
    let t4 = c.rest-fourth.ensures ∙ ap rest_of t3 in
    let t5 = c.rest-fifth.ensures ∙ ap rest_of t4 in
    let p = field octet_of c.first.ensures t3 c.parse_octet.ensures c.in_ok-page.was in
    let e = field octet_of c.first-2.ensures t4 c.parse_octet-2.ensures c.in_ok-last_page.was in
    let k = decoded_found (byte_string_of room c.first-3.result.now) c.in_ok-name.name c.parse_byte_string.new.out c.in_ok-name.ensures in
    let l = decoded_found (list_of places c.rest-2.result.now) c.in_ok-count.count c.parse_list.new.out c.in_ok-count.ensures in
    rw (t, p, e, ap (byte_string_of room) (sym (c.first-3.ensures ∙ ap first_of t5)) ∙ k.is_found, ap (list_of places) (sym (c.rest-2.ensures ∙ ap rest_of t5)) ∙ l.is_found)
    (ap Some (page_same k.counts l.counts), record { bytes_are = k.lies; numbers_are = l.lies })
