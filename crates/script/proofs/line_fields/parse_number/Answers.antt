-- One digit more.
-- Assumes nothing.
use Rattle.std.proofs.Common.{sym, ap, ◌∙◌, arith, ◌+◌, ℕ, Option, Some, drop}
use Rattle.script.specs.Fields.{spelt}
use Rattle.script.specs.FieldLaws.{spelt_bad, spelt_next, spelt_ends}
use Rattle.script.proofs.line_fields.parse_number.Goals as goal

pub returns-in_err-value : goal.returns-in_err-value
returns-in_err-value c =
    let v = c.args in
    let l = c.loop-digit in
    let e = spelt_next v.most v.field.now l.digit-index l.value (omega arith) in
    rw c.from_residual.ensures
    (sym (spelt_bad v.most (drop (l.digit-index + 1) v.field.now)) ∙ ap (λ (n : Option ℕ). spelt v.most n (drop (l.digit-index + 1) v.field.now)) (sym c.in_err-value.was ∙ c.with_digit.ensures) ∙ sym e ∙ l.invariant)

pub loop-digit-preserved : goal.loop-digit-preserved
loop-digit-preserved c =
    let v = c.args in
    let l = c.loop-digit in
    let e = spelt_next v.most v.field.now l.digit-index l.value (omega arith) in
    ap (λ (n : Option ℕ). spelt v.most n (drop (l.digit-index + 1) v.field.now)) (sym c.in_ok-value.was ∙ c.with_digit.ensures) ∙ sym e ∙ l.invariant

pub returns : goal.returns
returns c =
    let v = c.args in
    let l = c.loop-digit in
    sym (spelt_ends v.most v.field.now l.digit-index (Some l.value) (omega arith)) ∙ l.invariant
