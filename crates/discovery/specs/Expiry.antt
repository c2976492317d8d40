-- Document 02, F-3: "The rule for discovery age in document 01 changes to that setting, also for a partial source."
-- Assumes nothing.
use Rattle.std.specs.Prelude.{not, ℕ}
use Rattle.laws.specs.Table.{keep}
use Rattle.rules.specs.Age.{expired}
use Rattle.discovery.specs.Discovery.{Discovered}

-- ── the sweep as it was ──
-- document 01: "drops entries of age 2,500 or more"
unfoldable pub was_swept : ℕ → Discovered → Discovered
was_swept now d = record { partial = keep (λ s. not (expired now s.reading)) d.partial; listed = keep (λ s. not (expired now s.reading)) d.listed }
