-- Document 01, 'Settings': "Preview, three announcements, merge choice and a source limit that is either none or 1 to 65,535." Document 02, F-3: "Discovery gets an expiry of its own, held in the settings".
-- Assumes nothing.
use Rattle.std.specs.Prelude.{◌≡◌, refl, Ok, Bool, true, false, [], ◌∷◌, map, ℕ, zero, suc, ◌≤◌, eqb, leb}
use Rattle.std.proofs.Common.{arith, ne_eqb, leb-true, le-leb}
use Rattle.laws.specs.Cases.{split, clash}
use Rattle.settings.specs.declared.Settings.{Settings}
use Rattle.settings.specs.declared.MergeChoice.{MergeChoice}
use Rattle.settings.specs.declared.SourceLimit.TheVariants.{Unlimited, AtMost}
use Rattle.settings.specs.Settings.{Keeps, Proper, ProperExpiry, expiring, fresh, in_range, kept, limited, number_of, values_of, with_discovery, with_expiry, with_limit, with_merge, with_preview, with_termination, with_timeout, without_limit}

-- ── the limit ──
-- the row of document 01's table: number 14, nothing returned, all left
pub limit_zero : (s : Settings) → (number_of (limited 0 s) ≡ 14) × (values_of (limited 0 s) ≡ []) × (kept (limited 0 s) s ≡ s)
limit_zero s = (refl, refl, refl)

-- any other limit is taken
pub limit_set : (n : ℕ) (s : Settings) → (n ≡ 0 → ⊥) → (number_of (limited n s) ≡ 0) × (limited n s ≡ Ok (with_limit (AtMost n) s))
limit_set n s h = let e = ne_eqb n 0 h in (rw e, rw e)

-- ── the discovery expiry ──
-- both ends and the fresh value are taken, the numbers beside the ends refused
pub expiry_ends : (map in_range (2499 ∷ 2500 ∷ 20000 ∷ 60000 ∷ 60001 ∷ [])) ≡ false ∷ true ∷ true ∷ true ∷ false ∷ []
expiry_ends = refl

-- the test is the range
pub range_proper : (n : ℕ) → in_range n ≡ true → ProperExpiry n
range_proper n h = split (leb 2500 n) (λ e. (leb-true 2500 n e, leb-true n 60000 (rw e at h))) (λ e. let z : false ≡ true = rw e at h in clash z refl)

pub proper_range : (n : ℕ) → ProperExpiry n → in_range n ≡ true
proper_range n h = rw (le-leb 2500 n h.0, le-leb n 60000 h.1)

-- in range it is set: 0, and the record with this expiry; out of range it is not (`expiry_refused`)
pub expiry_set : (n : ℕ) (s : Settings) → ProperExpiry n → expiring n s ≡ Ok (with_expiry n s)
expiry_set n s h = rw (proper_range n h)

pub expiry_stored : (n : ℕ) (s : Settings) → (with_expiry n s).discovery_expiry ≡ n
expiry_stored n s = refl

-- out of range: number 20, and "a new number returns nothing and leaves all" (document 02, F-1)
pub expiry_refused : (n : ℕ) (s : Settings) → (ProperExpiry n → ⊥) → (number_of (expiring n s) ≡ 20) × (values_of (expiring n s) ≡ []) × (kept (expiring n s) s ≡ s)
expiry_refused n s h = split (in_range n) (λ e. absurd (h (range_proper n e))) (λ e. rw e (refl, refl, refl))

-- every other setter leaves the expiry
pub expiry_left : (on : Bool) (choice : MergeChoice) (n : ℕ) (s : Settings)
    → ((with_preview on s).discovery_expiry ≡ s.discovery_expiry)
    × ((with_discovery on s).discovery_expiry ≡ s.discovery_expiry)
    × ((with_termination on s).discovery_expiry ≡ s.discovery_expiry)
    × ((with_timeout on s).discovery_expiry ≡ s.discovery_expiry)
    × ((with_merge choice s).discovery_expiry ≡ s.discovery_expiry)
    × ((without_limit s).discovery_expiry ≡ s.discovery_expiry)
    × ((kept (limited n s) s).discovery_expiry ≡ s.discovery_expiry)
expiry_left on choice n s = (refl, refl, refl, refl, refl, refl, split (eqb n 0) (λ e. rw e) (λ e. rw e))

-- and this one leaves every other part: with the old expiry put back the record is what it was
pub rest_left : (n : ℕ) (s : Settings) → with_expiry s.discovery_expiry (kept (expiring n s) s) ≡ s
rest_left n s = split (in_range n) (λ e. rw e) (λ e. rw e)

-- ── every record is proper, from the fresh one on ──
pub fresh_proper : Proper fresh
fresh_proper = (tt, (omega arith, omega arith))

-- a setter of another part leaves limit and expiry
pub preview_keeps : (on : Bool) (s : Settings) → Keeps s (with_preview on s)
preview_keeps on s = (λ h. h, λ h. h)

pub discovery_keeps : (on : Bool) (s : Settings) → Keeps s (with_discovery on s)
discovery_keeps on s = (λ h. h, λ h. h)

pub termination_keeps : (on : Bool) (s : Settings) → Keeps s (with_termination on s)
termination_keeps on s = (λ h. h, λ h. h)

pub timeout_keeps : (on : Bool) (s : Settings) → Keeps s (with_timeout on s)
timeout_keeps on s = (λ h. h, λ h. h)

pub merge_keeps : (choice : MergeChoice) (s : Settings) → Keeps s (with_merge choice s)
merge_keeps choice s = (λ h. h, λ h. h)

pub no_limit : (s : Settings) → (without_limit s).source_limit ≡ Unlimited
no_limit s = refl

pub unlimited_keeps : (s : Settings) → Keeps s (without_limit s)
unlimited_keeps s = (λ h. tt, λ h. h)

-- a limit of 0 is refused; any other of 16 bits is proper
pub limited_keeps : (n : ℕ) (s : Settings) → n ≤ 65535 → Keeps s (kept (limited n s) s)
limited_keeps zero s f = (λ h. h, λ h. h)
limited_keeps (suc n) s f = rw (ne_eqb (suc n) 0 (λ e. absurd (omega arith))) (λ h. (omega arith, f), λ h. h)

-- an expiry out of range is refused
pub expiring_keeps : (n : ℕ) (s : Settings) → Keeps s (kept (expiring n s) s)
expiring_keeps n s = split (in_range n) (λ e. rw e (λ h. h, λ h. range_proper n e)) (λ e. rw e (λ h. h, λ h. h))
