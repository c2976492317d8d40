-- Document 01 by numbers: which pages list a source whose last page is 1; what of the first page is kept; the order of listing; the sweep; 13 and 1.
-- Assumes nothing.
use Rattle.std.specs.Prelude.{List, [], ◌∷◌, map, ℕ}
use Rattle.discovery.specs.Discovery.{Source, Discovered, Announcement, nothing_known, arrived}

-- pages of one source, in the order of their arrival, at the reading 0
unfoldable pub arrivals : ℕ → List ℕ → Discovered → Discovered
arrivals last [] d = d
arrivals last (p ∷ ps) d =
    arrivals last ps (arrived 0 (record { cid = record { hi = 0; lo = 1 }; name = []; page = p; last_page = last; universes = [] }) d).0

-- the page numbers of the listed sources, and of the partial ones
abbrev pub listed_pages : Discovered → List (List ℕ)
listed_pages d = map (λ s. map (λ p. p.number) s.pages) d.listed

abbrev pub partial_pages : Discovered → List (List ℕ)
partial_pages d = map (λ s. map (λ p. p.number) s.pages) d.partial

-- ── "The first last_page value and first name are kept"; "the reading renewed" ──
-- a page of one source
abbrev pub page_of_one : ℕ → ℕ → List ℕ → Announcement
page_of_one page last name = record { cid = record { hi = 0; lo = 1 }; name = name; page = page; last_page = last; universes = [] }

-- page 1 of 1, named 65, at 1,000, then page 0, said to be of 7 and named 66, at 2,000
abbrev pub renamed : Discovered
renamed = (arrived 2000 (page_of_one 0 7 (66 ∷ [])) (arrived 1000 (page_of_one 1 1 (65 ∷ [])) nothing_known).0).0

-- ── "Listing removes the old entry and appends." ──
-- sources of one page, by their numbers, in the order of their arrival
unfoldable pub listings : List ℕ → Discovered → Discovered
listings [] d = d
listings (c ∷ cs) d =
    listings cs (arrived 0 (record { cid = record { hi = 0; lo = c }; name = []; page = 0; last_page = 0; universes = [] }) d).0

-- ── the sweep by a setting of 2,500 (what document 01 had), of 20,000 (fresh) and of 60,000 ──
-- one source, partial and listed, of the reading 1,000
abbrev pub of_1000 : Source
of_1000 = record { cid = record { hi = 0; lo = 1 }; name = []; last_page = 0; reading = 1000; pages = [] }
