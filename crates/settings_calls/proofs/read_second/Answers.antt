-- One law for each return.
-- Assumes nothing.
use mathlib.Core.Path.{sym, ◌∙◌}
use native.Mathlib.Omega.{arith}
use Rattle.settings_store.proofs.ReturnsLaws.{second_short, second_read, second_out}
use Rattle.settings_calls.proofs.read_second.Goals as goal

pub returns-then-fields-lt11 : goal.returns-then-fields-lt11
returns-then-fields-lt11 c = sym (second_short c.args.fields.now (omega (arith, c.if-fields-lt11.true)))

pub returns-then-not-is_expiry_in_range : goal.returns-then-not-is_expiry_in_range
returns-then-not-is_expiry_in_range c =
    sym (second_out c.args.fields.now (omega arith) c.four_bytes-expiry.result c.four_bytes-expiry.ensures (sym c.is_expiry_in_range.ensures ∙ c.if-not-is_expiry_in_range.true))

pub returns : goal.returns
returns c =
    c.read_with.ensures ∙ sym (second_read c.args.fields.now (omega arith) c.four_bytes-expiry.result c.four_bytes-expiry.ensures (sym c.is_expiry_in_range.ensures ∙ c.if-not-is_expiry_in_range.false))
