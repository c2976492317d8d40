-- A number within the limit fits.
-- Assumes nothing.
use Rattle.std.proofs.Common.{arith}
use Rattle.script.specs.FieldLaws.{narrowed}
use Rattle.script.proofs.line_fields.parse_octet.Goals as goal

pub returns : goal.returns
returns c = narrowed c.try_from.result 255 256 c.in_ok-parse_number.field-0 c.args.field.now c.parse_number.ensures c.in_ok-parse_number.was (omega arith) c.try_from.ensures c.ok.ensures.value
