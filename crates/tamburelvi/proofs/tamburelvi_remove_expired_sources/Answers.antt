-- What the receiver's call ensures, told over the boundary.
-- Assumes nothing.
use mathlib.Core.Path.{subst}
use Rattle.settings.specs.declared.Settings.{Settings}
use Rattle.lengths.specs.Space.{bytes}
use Rattle.model.specs.Answer.{expiry_number, expiry_values}
use Rattle.model.specs.Calls.{expiry_call}
use Rattle.receiver.specs.View.{with_discovery_rows, Does}
use Rattle.boundary.specs.Boundary.{settings_of, swept_of}
use Rattle.tamburelvi.specs.Laws.{answers}
use Rattle.boundary.proofs.Laws.{tells_expiry}
use Rattle.tamburelvi.proofs.tamburelvi_remove_expired_sources.Goals as goal

pub returns : goal.returns
returns c m =
    let v = c.args in
    let h = c.remove_expired_sources-h in
    let r = c.receiver_of in
    let before = with_discovery_rows v.sources.now v.names.now v.pages.now v.universes.now m in
    let after = with_discovery_rows h.new.sources h.new.names h.new.pages h.new.universes m in
    answers (expiry_call (bytes v.universes.now) (settings_of v.choices) v.reading) expiry_number expiry_values swept_of tells_expiry v.header before h.result.left after h.result.answer _ _ _
    r.ensures
    (subst (λ (w : Settings). Does (expiry_call (bytes v.universes.now) w v.reading) expiry_number r.result before h.result.left after h.result.answer) c.settings_of.ensures (h.ensures m))
    c.header_of.ensures c.swept.ensures
