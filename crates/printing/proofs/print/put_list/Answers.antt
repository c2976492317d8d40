-- The first number, then the others behind commas.
-- Assumes nothing.
use Rattle.std.proofs.Common.{sym, ap, arith}
use Rattle.printing.specs.Text.{decimal_of}
use Rattle.printing.specs.TextLaws.{tells_then, tells_as, list_some}
use Rattle.printing.proofs.print.put_list.Goals as goal

pub returns-in-len1-up : goal.returns-in-len1-up
returns-in-len1-up c =
    tells_as (sym (list_some c.args.list.now (λ e. omega (arith, c.in-len1-up.len_at_least)))) (tells_then (tells_as (ap decimal_of c.from.ensures) c.put_decimal-a.ensures) c.put_numbers.ensures)
