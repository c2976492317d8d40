-- The answer is the definition's, and the receiver as it was.
-- Assumes nothing.
use mathlib.Core.Path.{refl, ap, ◌∙◌}
use Rattle.std.proofs.Common.{Result}
use Rattle.settings.specs.declared.Settings.{Settings}
use Rattle.settings_store.specs.declared.LoadSettingsError.{LoadSettingsError}
use Rattle.settings_store.specs.Record.{load_number, load_values}
use Rattle.printing.specs.Answers.{answer_line}
use Rattle.printing.specs.TextLaws.{tells_as}
use Rattle.replay.specs.Session.{settings_read}
use Rattle.replay.specs.SessionLaws.{carries_same}
use Rattle.replay.proofs.calls.load.Goals as goal

pub returns : goal.returns
returns c =
    λ m.
    let e = c.load_settings-answer.ensures.answer_is in
    carries_same refl (c.unwrap_or-settings.ensures ∙ ap (λ (a : Result Settings LoadSettingsError). settings_read a c.args.session.settings) e)
    (tells_as (ap (λ (a : Result Settings LoadSettingsError). answer_line (load_number a) (load_values a)) e) c.put_load-at.ensures)
