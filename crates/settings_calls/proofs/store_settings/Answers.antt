-- The law of the last return.
-- Assumes nothing.
use mathlib.Core.Path.{sym, ap, ◌∙◌}
use mathlib.Core.List.{List, ◌++◌}
use Prim.Native.Nat.{ℕ}
use native.Mathlib.Omega.{arith}
use lib.ListN.{drop}
use Rattle.settings_store.proofs.ReturnsLaws.{stores_record}
use Rattle.settings_calls.proofs.store_settings.Goals as goal

pub returns : goal.returns
returns c =
    let v = c.args in
    stores_record v.settings v.bytes.now c.record_of.result _ (omega (arith, c.if-bytes-lt-RECORD_LENGTH.false)) (sym c.is_zero.ensures ∙ c.if-is_zero.false)
    (sym c.is_expiry_in_range.ensures ∙ c.if-not-is_expiry_in_range.false) c.record_of.ensures (ap (λ (l : List ℕ). l ++ drop 14 v.bytes.now) c.copy_from_slice.ensures.after)
