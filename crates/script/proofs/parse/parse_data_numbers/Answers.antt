-- Field after field.
-- Assumes nothing.
use Rattle.std.proofs.Common.{ℕ, List, ap, ◌∙◌}
use Rattle.script.specs.Fields.{small_of, octet_of, options_of}
use Rattle.script.specs.Script.{rest_of, numbers_of}
use Rattle.script.specs.ScriptLaws.{field, front}
use Rattle.script.proofs.parse.parse_data_numbers.Goals as goal

pub returns-in_err-universe : goal.returns-in_err-universe
unfolding numbers_of
returns-in_err-universe c =
    rw (c.from_residual.ensures, front c.args.fields.now small_of c.first.ensures c.parse_small.ensures c.in_err-universe.was)

pub returns-in_err-address : goal.returns-in_err-address
unfolding numbers_of
returns-in_err-address c =
    let u = front c.args.fields.now small_of c.first.ensures c.parse_small.ensures c.in_ok-universe.was in
    rw (c.from_residual-in_err-address.ensures, u, field small_of c.first-2.ensures c.rest-second.ensures c.parse_small-2.ensures c.in_err-address.was)

pub returns-in_err-priority : goal.returns-in_err-priority
unfolding numbers_of
returns-in_err-priority c =
    let u = front c.args.fields.now small_of c.first.ensures c.parse_small.ensures c.in_ok-universe.was in
    let a = field small_of c.first-2.ensures c.rest-second.ensures c.parse_small-2.ensures c.in_ok-address.was in
    let t3 = c.rest-third.ensures ∙ ap rest_of c.rest-second.ensures in
    rw (c.from_residual-in_err-priority.ensures, u, a, field octet_of c.first-3.ensures t3 c.parse_octet.ensures c.in_err-priority.was)

pub returns-in_err-sequence : goal.returns-in_err-sequence
unfolding numbers_of
returns-in_err-sequence c =
    let u = front c.args.fields.now small_of c.first.ensures c.parse_small.ensures c.in_ok-universe.was in
    let a = field small_of c.first-2.ensures c.rest-second.ensures c.parse_small-2.ensures c.in_ok-address.was in
    let t3 = c.rest-third.ensures ∙ ap rest_of c.rest-second.ensures in
    let p = field octet_of c.first-3.ensures t3 c.parse_octet.ensures c.in_ok-priority.was in
    let t4 = c.rest-fourth.ensures ∙ ap rest_of t3 in
    rw (c.from_residual-in_err-sequence.ensures, u, a, p, field octet_of c.first-4.ensures t4 c.parse_octet-2.ensures c.in_err-sequence.was)

pub returns-in_err-options : goal.returns-in_err-options
unfolding numbers_of
returns-in_err-options c =
    let u = front c.args.fields.now small_of c.first.ensures c.parse_small.ensures c.in_ok-universe.was in
    let a = field small_of c.first-2.ensures c.rest-second.ensures c.parse_small-2.ensures c.in_ok-address.was in
    let t3 = c.rest-third.ensures ∙ ap rest_of c.rest-second.ensures in
    let p = field octet_of c.first-3.ensures t3 c.parse_octet.ensures c.in_ok-priority.was in
    let t4 = c.rest-fourth.ensures ∙ ap rest_of t3 in
    let q = field octet_of c.first-4.ensures t4 c.parse_octet-2.ensures c.in_ok-sequence.was in
    let t5 = c.rest.ensures ∙ ap rest_of t4 in
    rw (c.from_residual-in_err-options.ensures, u, a, p, q, field (λ (x : List ℕ). options_of (octet_of x)) c.first-5.ensures t5 c.parse_options.ensures c.in_err-options.was)

pub returns : goal.returns
unfolding numbers_of
returns c =
    let u = front c.args.fields.now small_of c.first.ensures c.parse_small.ensures c.in_ok-universe.was in
    let a = field small_of c.first-2.ensures c.rest-second.ensures c.parse_small-2.ensures c.in_ok-address.was in
    let t3 = c.rest-third.ensures ∙ ap rest_of c.rest-second.ensures in
    let p = field octet_of c.first-3.ensures t3 c.parse_octet.ensures c.in_ok-priority.was in
    let t4 = c.rest-fourth.ensures ∙ ap rest_of t3 in
    let q = field octet_of c.first-4.ensures t4 c.parse_octet-2.ensures c.in_ok-sequence.was in
    let t5 = c.rest.ensures ∙ ap rest_of t4 in
    let o = field (λ (x : List ℕ). options_of (octet_of x)) c.first-5.ensures t5 c.parse_options.ensures c.in_ok-options.was in
    rw (u, a, p, q, o)
