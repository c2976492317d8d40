-- The tests of lengths by the comparisons that the code makes: one law for each return, and for two tests in a row.
-- Assumes nothing.
use Rattle.std.specs.Prelude.{◌≡◌, refl, List, ℕ, ◌+◌, ◌≤◌, ◌<◌, length}
use Rattle.std.proofs.Common.{ap, ◌∙◌, arith, lt-ltb, le-ltb}
use Rattle.std.proofs.Math.Option.{Option, none, some}
use Rattle.rules.specs.Answer.{first_of}
use Rattle.waiting.specs.Records.{most_bytes}
use Rattle.discovery.specs.Discovery.{pool_length}
use Rattle.model.specs.Packet.{over}
use Rattle.model.specs.Step.{Space, short, too_short, waiting_bytes, page_bytes}
use Rattle.lengths.specs.Space.{shortage, excess, first_found}

pub short_some : (needed room : ℕ) → room < needed → short needed room ≡ some needed
short_some needed room h = rw (lt-ltb room needed h)

pub short_none : (needed room : ℕ) → needed ≤ room → short needed room ≡ none
short_none needed room h = rw (le-ltb room needed h)

-- a universe takes two bytes
pub pages_some : (n : ℕ) → n < pool_length → short page_bytes (n + n) ≡ some page_bytes
pages_some n h = short_some page_bytes (n + n) (omega arith)

pub pages_none : (n : ℕ) → pool_length ≤ n → short page_bytes (n + n) ≡ none
pages_none n h = short_none page_bytes (n + n) (omega arith)

pub over_some : (most : ℕ) (part : List ℕ) → most < length part → over most part ≡ some (length part)
unfolding over
over_some most part h = rw (lt-ltb most (length part) h)

pub over_none : (most : ℕ) (part : List ℕ) → length part ≤ most → over most part ≡ none
unfolding over
over_none most part h = rw (le-ltb most (length part) h)

-- ── two tests, one before the other ──
pub shortage_first : (a b : Option ℕ) → first_found (shortage a) (shortage b) ≡ shortage (first_of a b)
shortage_first none b = refl
shortage_first (some n) b = refl

pub excess_first : (a b : Option ℕ) → first_found (excess a) (excess b) ≡ excess (first_of a b)
excess_first none b = refl
excess_first (some n) b = refl

-- output, waiting values, page universes
pub space_found : (m : Space)
    → first_found (shortage (short most_bytes m.output)) (first_found (shortage (short waiting_bytes m.waiting_values)) (shortage (short page_bytes m.page_universes)))
    ≡ shortage (too_short m)
unfolding too_short
space_found m =
    ap (first_found (shortage (short most_bytes m.output))) (shortage_first (short waiting_bytes m.waiting_values) (short page_bytes m.page_universes))
    ∙ shortage_first (short most_bytes m.output) (first_of (short waiting_bytes m.waiting_values) (short page_bytes m.page_universes))
