-- The word and what stands behind it; or the word alone.
-- Assumes nothing.
use Rattle.std.proofs.Common.{length}
use Rattle.script.specs.Script.{word_of}
use Rattle.script.specs.ScriptLaws.{front, line_lone, line_unknown, line_known}
use Rattle.script.proofs.parse.parse_line.Goals as goal

pub returns-then-line-field_end : goal.returns-then-line-field_end
returns-then-line-field_end c =
    let v = c.args in
    line_lone (length v.bytes.now) (length v.list.now) v.line.now c.field_end.result c.parse_lone.result v.bytes.now v.list.now c.field_end.ensures.at c.if-line-field_end.true c.parse_lone.ensures

pub returns-in_err-word : goal.returns-in_err-word
returns-in_err-word c =
    let v = c.args in
    line_unknown (length v.bytes.now) (length v.list.now) v.line.now c.field_end.result c.from_residual.result v.bytes.now v.list.now c.field_end.ensures.at c.if-line-field_end.false
    (front v.line.now word_of c.first.ensures c.parse_word.ensures c.in_err-word.was) c.from_residual.ensures

pub returns : goal.returns
returns c =
    let v = c.args in
    line_known (length v.bytes.now) (length v.list.now) v.line.now c.field_end.result c.parse_fields.result c.parse_fields.new.bytes c.parse_fields.new.list c.field_end.ensures.at c.in_ok-word.word c.if-line-field_end.false
    (front v.line.now word_of c.first.ensures c.parse_word.ensures c.in_ok-word.was) (rw (← c.rest.ensures) c.parse_fields.ensures)
