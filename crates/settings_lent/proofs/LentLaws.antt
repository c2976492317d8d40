-- Document 01, 'Settings': "The setters change a small settings record lent to them." What such a setter answers (`told`) has the number and the values of the setter by value, so that its laws hold of it.
-- Assumes nothing.
use Rattle.std.specs.Prelude.{◌≡◌, refl, Result, Ok, Err, [], ℕ}
use Rattle.std.proofs.Common.{ap, ◌∙◌}
use Rattle.settings.specs.declared.Settings.{Settings}
use Rattle.settings.specs.declared.SettingError.{SettingError}
use Rattle.settings.specs.declared.SettingError.TheVariants.{LimitZero, ExpiryOutOfRange}
use Rattle.settings.specs.Settings.{ProperExpiry, expiring, limited, number_of, told, values_of}
use Rattle.settings.proofs.SettingsLaws.{limit_zero, limit_set, expiry_set, expiry_refused}

-- ── any answer ──
pub told_number : (r : Result Settings SettingError) → number_of (told r) ≡ number_of r
told_number (Ok t) = refl
told_number (Err LimitZero) = refl
told_number (Err ExpiryOutOfRange) = refl

pub told_values : (r : Result Settings SettingError) → values_of (told r) ≡ values_of r
told_values (Ok t) = refl
told_values (Err LimitZero) = refl
told_values (Err ExpiryOutOfRange) = refl

-- ── the limit ──
-- 0: number 14, nothing returned
pub told_limit_zero : (s : Settings) → (number_of (told (limited 0 s)) ≡ 14) × (values_of (told (limited 0 s)) ≡ [])
told_limit_zero s = let z = limit_zero s in (told_number (limited 0 s) ∙ z.0, told_values (limited 0 s) ∙ z.1)

-- any other is taken
pub told_limit_set : (n : ℕ) (s : Settings) → (n ≡ 0 → ⊥) → number_of (told (limited n s)) ≡ 0
told_limit_set n s h = told_number (limited n s) ∙ (limit_set n s h).0

-- ── the discovery expiry ──
-- in range: number 0
pub told_expiry_set : (n : ℕ) (s : Settings) → ProperExpiry n → number_of (told (expiring n s)) ≡ 0
told_expiry_set n s h = told_number (expiring n s) ∙ ap (λ (r : Result Settings SettingError). number_of r) (expiry_set n s h)

-- out of range: number 20, nothing returned
pub told_expiry_refused : (n : ℕ) (s : Settings) → (ProperExpiry n → ⊥) → (number_of (told (expiring n s)) ≡ 20) × (values_of (told (expiring n s)) ≡ [])
told_expiry_refused n s h = let z = expiry_refused n s h in (told_number (expiring n s) ∙ z.0, told_values (expiring n s) ∙ z.1)
