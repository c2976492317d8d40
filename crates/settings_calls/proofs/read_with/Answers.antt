-- One law for each return.
-- Assumes nothing.
use mathlib.Core.Path.{sym, ◌∙◌}
use Rattle.settings_store.proofs.ReturnsLaws.{with_taken, with_refused}
use Rattle.settings_calls.proofs.read_with.Goals as goal

pub returns-then-not-are_flags : goal.returns-then-not-are_flags
returns-then-not-are_flags c =
    with_refused c.args.fields.now c.requires c.args.expiry (sym c.are_flags.ensures ∙ c.if-not-are_flags.true)

pub returns : goal.returns
returns c =
    with_taken c.args.fields.now c.requires c.args.expiry c.two_bytes-limit.result c.settings_from.result (sym c.are_flags.ensures ∙ c.if-not-are_flags.false) c.two_bytes-limit.ensures c.settings_from.ensures
