-- A number up to 64 fits a byte.
-- Assumes nothing.
use Rattle.std.proofs.Common.{sym, ◌∙◌, arith}
use Rattle.script.specs.FieldLaws.{narrowed}
use Rattle.script.proofs.parse.parse_store.Goals as goal

pub returns-in_err-n : goal.returns-in_err-n
returns-in_err-n c =
    let e = narrowed c.try_from.result 64 256 c.in_ok-parse_number.field-0 c.args.field.now c.parse_number.ensures c.in_ok-parse_number.was (omega arith) c.try_from.ensures c.ok.ensures.value in
    rw (c.from_residual-in_err-n.ensures, sym e ∙ c.in_err-n.was)
