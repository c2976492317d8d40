-- Document 01 by numbers: which pages list a source whose last page is 1; what of the first page is kept; the order of listing; the sweep; 13 and 1.
-- Assumes nothing.
use Rattle.std.specs.Prelude.{◌≡◌, refl, [], ◌∷◌, map, ℕ, ◌*◌, length}
use Rattle.std.proofs.Math.Option.{none, some}
use Rattle.laws.specs.Table.{keep, any}
use Rattle.discovery.specs.declared.PageAnswer.TheVariants.{PagesFull}
use Rattle.discovery.specs.Discovery.{pool_length, Discovered, Announcement, nothing_known, lookup, drop_source, relisted, updated, in_place, sorted, numbered, complete, extended, begun, noted, noting, page_count, pages_held, taken, arrived, too_long, swept}
use Rattle.discovery.specs.Trials.{arrivals, listed_pages, listings, of_1000, partial_pages, renamed}

-- "Last page 1: pages 0,0,1 never list"
pub repeated_never_lists : (listed_pages (arrivals 1 (0 ∷ 0 ∷ 1 ∷ []) nothing_known) ≡ []) × (partial_pages (arrivals 1 (0 ∷ 0 ∷ 1 ∷ []) nothing_known) ≡ (0 ∷ 0 ∷ 1 ∷ []) ∷ [])
unfolding arrivals arrived page_count taken noted begun extended complete numbered sorted in_place noting updated drop_source relisted lookup keep any
repeated_never_lists = (refl, refl)

-- "1,0 list"
pub backwards_lists : (listed_pages (arrivals 1 (1 ∷ 0 ∷ []) nothing_known) ≡ (0 ∷ 1 ∷ []) ∷ []) × (partial_pages (arrivals 1 (1 ∷ 0 ∷ []) nothing_known) ≡ [])
unfolding arrivals arrived page_count taken noted begun extended complete numbered sorted in_place noting updated drop_source relisted lookup keep any
backwards_lists = (refl, refl)

-- a page past the last one does not hinder: 0, 5, 1 list with three pages
pub further_lists : (listed_pages (arrivals 1 (0 ∷ 5 ∷ 1 ∷ []) nothing_known) ≡ (0 ∷ 1 ∷ 5 ∷ []) ∷ []) × (partial_pages (arrivals 1 (0 ∷ 5 ∷ 1 ∷ []) nothing_known) ≡ [])
unfolding arrivals arrived page_count taken noted begun extended complete numbered sorted in_place noting updated drop_source relisted lookup keep any
further_lists = (refl, refl)

-- trap: "taking last page from the newest page"
pub first_kept : (map (λ s. s.last_page) renamed.listed ≡ 1 ∷ []) × (map (λ s. s.name) renamed.listed ≡ (65 ∷ []) ∷ []) × (map (λ s. s.reading) renamed.listed ≡ 2000 ∷ [])
unfolding arrived page_count taken noted begun extended complete numbered sorted in_place noting updated drop_source relisted lookup keep any
first_kept = (refl, refl, refl)

pub listed_again : map (λ s. s.cid.lo) (listings (1 ∷ 2 ∷ 1 ∷ []) nothing_known).listed ≡ 2 ∷ 1 ∷ []
unfolding listings arrived page_count taken noted begun noting drop_source relisted lookup keep any
listed_again = refl

pub age_2500_dropped : swept 2500 3500 (record { partial = of_1000 ∷ []; listed = of_1000 ∷ [] }) ≡ nothing_known
unfolding swept keep
age_2500_dropped = refl

pub age_2499_kept : swept 2500 3499 (record { partial = of_1000 ∷ []; listed = of_1000 ∷ [] }) ≡ record { partial = of_1000 ∷ []; listed = of_1000 ∷ [] }
unfolding swept keep
age_2499_kept = refl

pub age_20000_dropped : swept 20000 21000 (record { partial = of_1000 ∷ []; listed = of_1000 ∷ [] }) ≡ nothing_known
unfolding swept keep
age_20000_dropped = refl

pub age_19999_kept : swept 20000 20999 (record { partial = of_1000 ∷ []; listed = of_1000 ∷ [] }) ≡ record { partial = of_1000 ∷ []; listed = of_1000 ∷ [] }
unfolding swept keep
age_19999_kept = refl

pub age_60000_dropped : swept 60000 61000 (record { partial = of_1000 ∷ []; listed = of_1000 ∷ [] }) ≡ nothing_known
unfolding swept keep
age_60000_dropped = refl

pub age_59999_kept : swept 60000 60999 (record { partial = of_1000 ∷ []; listed = of_1000 ∷ [] }) ≡ record { partial = of_1000 ∷ []; listed = of_1000 ∷ [] }
unfolding swept keep
age_59999_kept = refl

-- ── "64 pages on arrival | 13": "13 first", and all is left ──
pub full_at_64 : (now : ℕ) (a : Announcement) (d : Discovered) → pages_held d ≡ 64 → arrived now a d ≡ (d, PagesFull)
unfolding arrived
full_at_64 now a d h = rw h

pub taken_at_63 : (now : ℕ) (a : Announcement) (d : Discovered) → pages_held d ≡ 63 → arrived now a d ≡ taken now a d
unfolding arrived
taken_at_63 now a d h = rw h

-- ── "name over 63, discovery list over 512 | 1 | length"; "name before list" ──
pub name_told : (a : Announcement) → length a.name ≡ 64 → too_long a ≡ some 64
unfolding too_long
name_told a h = rw h

pub list_told : (a : Announcement) → length a.name ≡ 63 → length a.universes ≡ 513 → too_long a ≡ some 513
unfolding too_long
list_told a h g = rw (h, g)

pub neither_told : (a : Announcement) → length a.name ≡ 63 → length a.universes ≡ 512 → too_long a ≡ none
unfolding too_long
neither_told a h g = rw (h, g)

-- "At most 64 pages held ..; 512 universes a page"
pub pool_64 : pool_length ≡ 64 * 512
pool_64 = refl
