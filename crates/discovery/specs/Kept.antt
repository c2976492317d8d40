-- What every call keeps: each CID once in each list, pages in order, at least one page a source, at most 64 pages.
-- Assumes nothing.
use Rattle.std.specs.Prelude.{◌≡◌, false, not, ℕ, suc, ◌≤◌, leb, length}
use Rattle.std.proofs.Math.Option.{Option, none, some}
use mathlib.Core.List.{List}
use Rattle.laws.specs.Table.{any}
use Rattle.discovery.specs.Discovery.{Page, Source, Discovered, Announcement, lookup, Note, begin, extend, list, most_universes, most_name}

-- no page of the list has a smaller number
abbrev pub Least : ℕ → List Page → Type 0
Least k ps = any (λ q. not (leb k q.number)) ps ≡ false

-- ── sources ──
-- what a page that may arrive is
pub record Fitting (a : Announcement) : Type 0 where
  pub short_name : length a.name ≤ most_name
  pub few_universes : length a.universes ≤ most_universes

-- ── pages held ──
abbrev pub pages_of : Option Source → ℕ
pages_of none = 0
pages_of (some s) = length s.pages

-- ── every call keeps the tables in their order and within their counts ──
-- a note that fits: a source begun is not there yet, and one extended is there
abbrev pub Notable : Note → Discovered → Type 0
Notable (begin s) d = (lookup s.cid d.partial ≡ none) × (length s.pages ≡ 1)
Notable (extend s) d = (t : Source) × (lookup s.cid d.partial ≡ some t) × (length s.pages ≡ suc (length t.pages))
Notable (list s) d = length s.pages ≡ suc (pages_of (lookup s.cid d.partial))

abbrev pub noted_source : Note → Source
noted_source (begin s) = s
noted_source (extend s) = s
noted_source (list s) = s
