-- The digits are the fewest.
-- Assumes nothing.
use mathlib.Core.Path.{◌∙◌}
use native.Mathlib.Omega.{arith}
use Rattle.printing.specs.TextLaws.{tells_as, decimal_of_lem}
use Rattle.printing.proofs.print.put_decimal.Goals as goal

pub returns : goal.returns
returns c =
    let n = c.args.n in
    let d = c.decimal-k in
    tells_as (d.ensures.digits ∙ decimal_of_lem n d.result (omega (arith, c.ranges.n)) d.ensures.len) c.put_text.ensures
