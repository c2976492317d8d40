-- A minus before the magnitude of a number below 0.
-- Assumes nothing.
use Rattle.std.proofs.Common.{ℕ, nat_abs, ◌∷◌, sym, ap, ◌∙◌}
use mir.Facts.{to_z-of_z}
use Rattle.printing.specs.Text.{decimal_of}
use Rattle.printing.specs.TextLaws.{tells_then, tells_as, signed_minus}
use Rattle.printing.proofs.print.put_signed.Goals as goal

pub returns-then-n-lt0 : goal.returns-then-n-lt0
returns-then-n-lt0 c =
    let e = signed_minus c.args.n (rw (to_z-of_z c.ranges.n) at c.if-n-lt0.true) in
    tells_as (ap (λ (m : ℕ). 45 ∷ decimal_of m) (c.from-magnitude.ensures ∙ c.unsigned_abs.ensures.value ∙ ap nat_abs (to_z-of_z c.ranges.n)) ∙ sym e) (tells_then c.put-a.ensures c.put_decimal.ensures)
