-- Field after field.
-- Assumes nothing.
use Rattle.script.specs.Fields.{number_of, source_of}
use Rattle.script.specs.Script.{most, stamp_of}
use Rattle.script.specs.ScriptLaws.{field, front}
use Rattle.script.proofs.parse.parse_stamp.Goals as goal

pub returns-in_err-now : goal.returns-in_err-now
unfolding stamp_of
returns-in_err-now c = rw (c.from_residual.ensures, front c.args.fields.now (number_of most) c.first.ensures c.parse_number.ensures c.in_err-now.was)

pub returns-in_err-cid : goal.returns-in_err-cid
unfolding stamp_of
returns-in_err-cid c =
    let n = front c.args.fields.now (number_of most) c.first.ensures c.parse_number.ensures c.in_ok-now.was in
    rw (c.from_residual-in_err-cid.ensures, n, field source_of c.first-2.ensures c.rest.ensures c.parse_source.ensures c.in_err-cid.was)

pub returns : goal.returns
unfolding stamp_of
returns c =
    let n = front c.args.fields.now (number_of most) c.first.ensures c.parse_number.ensures c.in_ok-now.was in
    rw (n, field source_of c.first-2.ensures c.rest.ensures c.parse_source.ensures c.in_ok-cid.was)
