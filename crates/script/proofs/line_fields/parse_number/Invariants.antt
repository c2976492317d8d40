-- What the digits that are left make of the value is what all make of 0.
-- Assumes nothing.
use Rattle.std.proofs.Common.{◌≡◌, drop, Some}
use Rattle.script.specs.Fields.{spelt, number_of}
use Rattle.script.proofs.line_fields.parse_number.Given as goal

abbrev pub invariant-loop-digit : goal.invariant-loop-digit
invariant-loop-digit l = spelt l.most (Some l.value) (drop l.digit-index l.field) ≡ number_of l.most l.field
