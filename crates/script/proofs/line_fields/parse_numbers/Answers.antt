-- One number more.
-- Assumes nothing.
use Rattle.std.proofs.Common.{sym, ◌∙◌, arith, ◌+◌, ◌-◌, length, drop, set, length-set, length-take}
use Rattle.script.specs.Fields.{fitting, split}
use Rattle.script.specs.FieldLaws.{turn_bad, turn_last, turn_more, turn_full, decoded_bad, decoded_front}
use Rattle.script.proofs.line_fields.parse_numbers.Goals as goal

pub returns-in_err-out : goal.returns-in_err-out
returns-in_err-out c =
    let v = c.args in
    let l = c.loop-n in
    rw c.from_residual.ensures
    (decoded_bad (fitting (length v.out.now) (split 44 v.field.now)) l.out
    (turn_bad v.field.now l.rest.now l.out l.n l.invariant.2 c.field_end-e.result c.field_end-e.ensures.at (length v.out.now) (sym c.parse_small.ensures ∙ c.in_err-out.was)))

pub returns-then-rest-e : goal.returns-then-rest-e
returns-then-rest-e c =
    let v = c.args in
    let l = c.loop-n in
    let u = c.in_ok-out.field-0 in
    decoded_front (fitting (length v.out.now) (split 44 v.field.now)) (l.n + 1) (set l.out l.n u) (simp length-set (omega arith))
    (rw (← l.invariant.0) (turn_last v.field.now l.rest.now l.out l.n l.invariant.2 c.field_end-e.result c.field_end-e.ensures.at u (omega arith) c.if-rest-e.true (sym c.parse_small.ensures ∙ c.in_ok-out.was)))

pub loop-n-preserved : goal.loop-n-preserved
loop-n-preserved c =
    let v = c.args in
    let l = c.loop-n in
    (simp length-set l.invariant.0, omega (arith, length-take (length l.rest.now - (c.field_end-e.result + 1)) (drop (c.field_end-e.result + 1) l.rest.now)), turn_more v.field.now l.rest.now l.out l.n l.invariant.2 c.field_end-e.result c.field_end-e.ensures.at c.in_ok-out.field-0 (omega arith) c.if-rest-e.false (sym c.parse_small.ensures ∙ c.in_ok-out.was))

pub returns : goal.returns
returns c =
    let v = c.args in
    let l = c.loop-n in
    decoded_bad (fitting (length v.out.now) (split 44 v.field.now)) l.out
    (rw (← l.invariant.0) (turn_full v.field.now l.rest.now l.out l.n l.invariant.2 (omega arith)))
