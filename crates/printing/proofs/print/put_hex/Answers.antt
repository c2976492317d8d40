-- The digits of the bytes passed so far are told.
-- Assumes nothing.
use Rattle.std.proofs.Common.{ℕ, [], ◌∷◌, ap, arith}
use Rattle.printing.specs.Text.{hex_text}
use Rattle.printing.specs.TextLaws.{tells_none, tells_as, tells_hex}
use Rattle.printing.proofs.print.put_hex.Goals as goal

pub loop-b-init : goal.loop-b-init
unfolding hex_text
loop-b-init c = tells_none c.args.out.now c.args.at c.requires

pub loop-b-preserved : goal.loop-b-preserved
loop-b-preserved c =
    let y = tells_as (ap (λ (g : ℕ). g ∷ []) c.glyph.ensures) c.put-n.ensures in
    let z = tells_as (ap (λ (g : ℕ). g ∷ []) c.glyph-in-loop-b.ensures) c.put-n-in-loop-b.ensures in
    tells_hex c.args.bytes.now c.loop-b.b-index (omega arith) c.loop-b.invariant y z
