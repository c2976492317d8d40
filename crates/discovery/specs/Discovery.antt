-- Document 01, 'Discovery': what each call makes of the partial and the listed sources.
-- Assumes nothing.
use Rattle.std.specs.Prelude.{◌≡◌, Bool, true, false, not, cond, ◌&&◌, List, [], ◌∷◌, ◌++◌, map, ℕ, zero, suc, ◌+◌, ◌≤◌, leb, ltb, eqb, length}
use Rattle.std.proofs.Math.Option.{Option, none, some}
use Rattle.laws.specs.Table.{keep, any}
use Rattle.rules.specs.declared.Cid.{Cid}
use Rattle.rules.specs.Cid.{same}
use Rattle.rules.specs.Age.{aged}
use Rattle.rules.specs.Answer.{Value, number, first_of}
use Rattle.discovery.specs.declared.PageAnswer.{PageAnswer}
use Rattle.discovery.specs.declared.PageAnswer.TheVariants.{Taken, Listed, PagesFull}
use Rattle.discovery.specs.declared.PageCall.{PageCall}
use Rattle.discovery.specs.declared.PageCall.TheVariants.{Done, TooLong}

-- a page of a source's universes, at most 512
pub record Page : Type 0 where
  pub number : ℕ
  pub universes : List ℕ

-- a source, partial or listed
pub record Source : Type 0 where
  pub cid : Cid
  pub name : List ℕ
  pub last_page : ℕ
  pub reading : ℕ
  pub pages : List Page

pub record Discovered : Type 0 where
  pub partial : List Source
  pub listed : List Source

-- a discovery packet's contents
pub record Announcement : Type 0 where
  pub cid : Cid
  pub name : List ℕ
  pub page : ℕ
  pub last_page : ℕ
  pub universes : List ℕ

abbrev pub nothing_known : Discovered
nothing_known = record { partial = []; listed = [] }

-- the source of this CID
unfoldable pub lookup : Cid → List Source → Option Source
lookup c [] = none
lookup c (s ∷ ss) = cond (same s.cid c) (some s) (lookup c ss)

unfoldable pub drop_source : Cid → List Source → List Source
drop_source c ss = keep (λ s. not (same s.cid c)) ss

-- "Listing removes the old entry and appends."
unfoldable pub relisted : Source → List Source → List Source
relisted s ss = drop_source s.cid ss ++ s ∷ []

-- the entry of its CID replaced where it stands
unfoldable pub updated : Source → List Source → List Source
updated s ss = map (λ t. cond (same t.cid s.cid) s t) ss

-- "pages sorted stably by page number"
unfoldable pub in_place : Page → List Page → List Page
in_place p [] = p ∷ []
in_place p (q ∷ qs) = cond (leb p.number q.number) (p ∷ q ∷ qs) (q ∷ in_place p qs)

unfoldable pub sorted : List Page → List Page
sorted [] = []
sorted (p ∷ ps) = in_place p (sorted ps)

-- "places 0 to last page hold exactly those page numbers": n places are still to be tested, from place i on
unfoldable pub numbered : ℕ → ℕ → List Page → Bool
numbered i zero ps = true
numbered i (suc n) [] = false
numbered i (suc n) (p ∷ ps) = eqb p.number i && numbered (i + 1) n ps

unfoldable pub complete : Source → Bool
complete s = numbered 0 (suc s.last_page) s.pages

-- ── a page arrives ──
abbrev pub page_of : Announcement → Page
page_of a = record { number = a.page; universes = a.universes }

-- "With one: the page is added, the reading renewed, pages sorted stably by page number" "The first last_page value and first name are kept"
unfoldable pub extended : ℕ → Announcement → Source → Source
extended now a s = record {
  cid = s.cid;
  name = s.name;
  last_page = s.last_page;
  reading = now;
  pages = sorted (s.pages ++ page_of a ∷ []);
}

-- "it starts a partial entry with this name and last page"
unfoldable pub begun : ℕ → Announcement → Source
begun now a = record { cid = a.cid; name = a.name; last_page = a.last_page; reading = now; pages = page_of a ∷ [] }

-- what an arrival does: the source stays or becomes partial, or is listed
pub data Note : Type 0 where
  begin : Source → Note
  extend : Source → Note
  list : Source → Note

-- "A source without a partial entry: page 0 with last page 0 is listed; else it starts a partial entry .. With one: .. the source listed if .."
unfoldable pub noted : ℕ → Announcement → Option Source → Note
noted now a none = cond (eqb a.page 0 && eqb a.last_page 0) (list (begun now a)) (begin (begun now a))
noted now a (some s) = cond (complete (extended now a s)) (list (extended now a s)) (extend (extended now a s))

unfoldable pub noting : Note → Discovered → Discovered
noting (begin s) d = record { partial = d.partial ++ s ∷ []; listed = d.listed }
noting (extend s) d = record { partial = updated s d.partial; listed = d.listed }
noting (list s) d = record { partial = drop_source s.cid d.partial; listed = relisted s d.listed }

abbrev pub told : Note → PageAnswer
told (begin s) = Taken
told (extend s) = Taken
told (list s) = Listed

-- "At most 64 pages held, partial and listed together"
unfoldable pub page_count : List Source → ℕ
page_count [] = 0
page_count (s ∷ ss) = length s.pages + page_count ss

abbrev pub pages_held : Discovered → ℕ
pages_held d = page_count d.partial + page_count d.listed

abbrev pub capacity : ℕ
capacity = 64

abbrev pub most_universes : ℕ
most_universes = 512

-- all pages full: 64 times 512
abbrev pub pool_length : ℕ
pool_length = 32768

abbrev pub most_name : ℕ
most_name = 63

unfoldable pub taken : ℕ → Announcement → Discovered → Discovered × PageAnswer
taken now a d =
    let n = noted now a (lookup a.cid d.partial) in
    (noting n d, told n)

-- "64 pages on arrival | 13": whatever the page
abbrev pub overfull : Announcement → Discovered → Bool
overfull a d = leb capacity (pages_held d)

unfoldable pub arrived : ℕ → Announcement → Discovered → Discovered × PageAnswer
arrived now a d = cond (overfull a d) (d, PagesFull) (taken now a d)

-- ── the call, for every input: "name over 63, discovery list over 512 | 1 | length"; "name before list" ──
abbrev pub longer : ℕ → List ℕ → Option ℕ
longer most part = cond (ltb most (length part)) (some (length part)) none

unfoldable pub too_long : Announcement → Option ℕ
too_long a = first_of (longer most_name a.name) (longer most_universes a.universes)

abbrev pub measured : Discovered → Option ℕ → Discovered × PageAnswer → Discovered × PageCall
measured d none r = (r.0, Done r.1)
measured d (some n) r = (d, TooLong n)

unfoldable pub page_call : ℕ → Announcement → Discovered → Discovered × PageCall
page_call now a d = measured d (too_long a) (arrived now a d)

-- ── a universe ends: "drop the universe from the listed source's pages" ──
unfoldable pub cut_page : ℕ → Page → Page
cut_page u p = record { number = p.number; universes = keep (λ v. not (eqb v u)) p.universes }

unfoldable pub cut : ℕ → Source → Source
cut u s = record { cid = s.cid; name = s.name; last_page = s.last_page; reading = s.reading; pages = map (cut_page u) s.pages }

unfoldable pub ended : Cid → ℕ → Discovered → Discovered
ended c u d = record { partial = d.partial; listed = map (λ s. cond (same s.cid c) (cut u s) s) d.listed }

-- ── the discovery sweep (`remove_expired_sources`): "drops entries of age" at or over the time, which document 02, F-3, takes from the settings ──
abbrev pub current : ℕ → ℕ → Source → Bool
current time now s = not (aged time now s.reading)

unfoldable pub swept : ℕ → ℕ → Discovered → Discovered
swept time now d = record { partial = keep (current time now) d.partial; listed = keep (current time now) d.listed }

abbrev pub number_of : PageAnswer → ℕ
number_of Taken = 0
number_of Listed = 0
number_of PagesFull = 13

abbrev pub values_of : PageAnswer → List Value
values_of Taken = []
values_of Listed = []
values_of PagesFull = []

abbrev pub call_number : PageCall → ℕ
call_number (Done a) = number_of a
call_number (TooLong n) = 1

abbrev pub call_values : PageCall → List Value
call_values (Done a) = values_of a
call_values (TooLong n) = number n ∷ []

-- ── "tables in their order and within their counts" ──
-- each CID at most once
abbrev pub Once : List Source → Type 0
Once [] = Unit {0}
Once (s ∷ ss) = (any (λ t. same t.cid s.cid) ss ≡ false) × Once ss

-- pages in the order of their numbers
abbrev pub Rising : List Page → Type 0
Rising [] = Unit {0}
Rising (p ∷ ps) = (any (λ q. not (leb p.number q.number)) ps ≡ false) × Rising ps

pub record ProperPage (p : Page) : Type 0 where
  pub few_universes : length p.universes ≤ most_universes

abbrev pub ProperPages : List Page → Type 0
ProperPages [] = Unit {0}
ProperPages (p ∷ ps) = ProperPage p × ProperPages ps

-- a source has at least one page
pub record Proper (s : Source) : Type 0 where
  pub short_name : length s.name ≤ most_name
  pub some_page : 1 ≤ length s.pages
  pub rising : Rising s.pages
  pub proper_pages : ProperPages s.pages

abbrev pub AllProper : List Source → Type 0
AllProper [] = Unit {0}
AllProper (s ∷ ss) = Proper s × AllProper ss

pub record Ordered (d : Discovered) : Type 0 where
  pub partial_once : Once d.partial
  pub listed_once : Once d.listed
  pub partial_proper : AllProper d.partial
  pub listed_proper : AllProper d.listed
  pub fit : pages_held d ≤ capacity
