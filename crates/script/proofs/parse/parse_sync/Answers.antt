-- Field after field.
-- Assumes nothing.
use Rattle.std.proofs.Common.{sym, ap, ◌∙◌}
use Rattle.script.specs.Fields.{small_of, octet_of}
use Rattle.script.specs.Script.{rest_of, sync_of}
use Rattle.script.specs.ScriptLaws.{field, whole}
use Rattle.script.proofs.parse.parse_sync.Goals as goal

pub returns-in_err-stamp : goal.returns-in_err-stamp
unfolding sync_of
returns-in_err-stamp c =
    rw (c.from_residual.ensures, sym c.parse_stamp.ensures ∙ c.in_err-stamp.was)

pub returns-in_err-address : goal.returns-in_err-address
unfolding sync_of
returns-in_err-address c =
    let t = sym c.parse_stamp.ensures ∙ c.in_ok-stamp.was in
    let t3 = c.rest-third.ensures ∙ ap rest_of c.rest.ensures in
    rw (c.from_residual-in_err-address.ensures, t, field small_of c.first.ensures t3 c.parse_small.ensures c.in_err-address.was)

pub returns-in_err-sequence : goal.returns-in_err-sequence
unfolding sync_of
returns-in_err-sequence c =
    let t = sym c.parse_stamp.ensures ∙ c.in_ok-stamp.was in
    let t3 = c.rest-third.ensures ∙ ap rest_of c.rest.ensures in
    let a = field small_of c.first.ensures t3 c.parse_small.ensures c.in_ok-address.was in
    rw (c.from_residual-in_err-sequence.ensures, t, a, whole octet_of (c.rest-2.ensures ∙ ap rest_of t3) c.parse_octet.ensures c.in_err-sequence.was)

pub returns : goal.returns
unfolding sync_of
returns c =
    let t = sym c.parse_stamp.ensures ∙ c.in_ok-stamp.was in
    let t3 = c.rest-third.ensures ∙ ap rest_of c.rest.ensures in
    let a = field small_of c.first.ensures t3 c.parse_small.ensures c.in_ok-address.was in
    let q = whole octet_of (c.rest-2.ensures ∙ ap rest_of t3) c.parse_octet.ensures c.in_ok-sequence.was in
    rw (t, a, q)
