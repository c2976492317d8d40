-- The pool is tested; then what the sweep ensures is the call's outcome.
-- Assumes nothing.
use Rattle.receiver.proofs.Found.{none_short}
use Rattle.receiver.specs.View.{with_discovery_rows}
use Rattle.lengths.specs.Finds.{short_of}
use Rattle.receiver.specs.Further.{does_expiry_short, does_expiry}
use mathlib.Core.Path.{◌≡◌, ap, ◌∙◌}
use native.Mathlib.Omega.{arith}
use Rattle.std.specs.Prelude.{Err}
use Rattle.std.proofs.Math.Option.{none}
use Rattle.std.proofs.lemmas.Grind.{common_steps}
use Rattle.lengths.specs.Space.{bytes}
use Rattle.model.specs.Step.{short, page_bytes}
use Rattle.receiver.proofs.Receiver.remove_expired_sources.Goals as goal

pub returns-in-Err-TooShort : goal.returns-in-Err-TooShort
returns-in-Err-TooShort c m =
    let v = c.args in
    does_expiry_short v.settings v.reading v.self (with_discovery_rows v.sources.now v.names.now v.pages.now v.universes.now m) c.in-Err-TooShort.needed (short_of _ _ _ c.test_page_store.ensures (c.in-Err-TooShort.is ∙ ap Err c.in-Err-TooShort.field-0-is))

pub returns : goal.returns
returns c m =
    let v = c.args in
    let z : short page_bytes (bytes v.universes.now) ≡ none = grind (arith, common_steps, none_short c.test_page_store.result (short page_bytes (bytes v.universes.now)) c.test_page_store.ensures) in
    does_expiry v.settings v.reading v.self (with_discovery_rows v.sources.now v.names.now v.pages.now v.universes.now m)
    c.remove_expired_sources-discovery.result c.remove_expired_sources-discovery.new.sources c.remove_expired_sources-discovery.new.names c.remove_expired_sources-discovery.new.pages c.remove_expired_sources-discovery.new.universes z (rw c.from.ensures at c.remove_expired_sources-discovery.ensures)
