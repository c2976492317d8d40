-- One law for each return.
-- Assumes nothing.
use mathlib.Core.Path.{sym, ◌∙◌}
use native.Mathlib.Omega.{arith}
use Rattle.settings_store.proofs.ReturnsLaws.{first_short, first_read}
use Rattle.settings_calls.proofs.read_first.Goals as goal

pub returns-then-fields-lt7 : goal.returns-then-fields-lt7
returns-then-fields-lt7 c = sym (first_short c.args.fields.now (omega (arith, c.if-fields-lt7.true)))

pub returns : goal.returns
returns c = c.read_with.ensures ∙ sym (first_read c.args.fields.now (omega (arith, c.if-fields-lt7.false)))
