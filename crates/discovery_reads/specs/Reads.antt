-- What is read out of the sources' rows: the k-th entry of a list that passes a test, where it stands, and how many there are.
-- Assumes nothing.
use Rattle.std.specs.Prelude.{◌≡◌, Bool, cond, eqb, drop, get_or}
use denote.Param.Members.{Shared}
use denote.Ref.{Bor}
use Rattle.std.specs.Fn.{FnReturnsAt}
use mathlib.Core.List.{List, [], ◌∷◌}
use Prim.Native.Nat.{ℕ, zero, suc, ◌≤◌, ◌<◌}
use Rattle.std.proofs.Math.ListN.{length, take}
use Rattle.rules.specs.declared.Cid.{Cid}
use Rattle.discovery_calls.specs.declared.Discovery.{Discovery}
use Rattle.discovery_reads.specs.declared.SourceHead.{SourceHead}
use Rattle.discovery_reads.specs.declared.PageHead.{PageHead}
use Rattle.discovery.specs.Discovery.{Page, Source}
use Rattle.discovery_rows.specs.Store.{pages_at, source_of, sources_at}
use Rattle.discovery_rows.specs.Rows.{head_of, total, amount}
use Rattle.discovery_calls.specs.View.{heads_of, leaves_of}

-- how many entries stand before the k-th that passes the test; all of them where there are not so many
unfoldable pub nth : {A : Type 0} → (A → Bool) → ℕ → List A → ℕ
nth p k [] = 0
nth p zero (x ∷ l) = cond (p x) 0 (suc (nth p zero l))
nth p (suc k) (x ∷ l) = cond (p x) (suc (nth p k l)) (suc (nth p (suc k) l))

-- a closure tells of each row whether it passes the test
abbrev pub Tells : {F T : Type 0} (g : Shared F (Bor T × Unit {0}) Bool) → F → (T → Bool) → Type 0
Tells {T = T} g f p = (row : T) (b : Bool) → FnReturnsAt g f row b → b ≡ p row

-- ── the sources of a mark ──
abbrev pub marked_row : ℕ → List ℕ → Bool
marked_row m r = eqb (get_or r 0 0) m

-- the source of a row, with its pages
unfoldable pub source_of_row : ℕ → Discovery → List (List ℕ) → List (List ℕ) → List (List ℕ) → List ℕ → ℕ → Source
source_of_row m d S N P U r = source_of (pages_at m (leaves_of d P U)) (head_of (get_or S r []) (get_or N r []))

-- the page of a row: its number, and its universes from where those of the rows before it end
unfoldable pub page_of_row : List (List ℕ) → List ℕ → ℕ → Page
page_of_row P U r = record { number = get_or (get_or P r []) 3 0; universes = take (get_or (get_or P r []) 4 0) (drop (total (take r P)) U) }

-- the sources of a mark, and the pages of one of them
abbrev pub sources_of : ℕ → Discovery → List (List ℕ) → List (List ℕ) → List (List ℕ) → List ℕ → List Source
sources_of m d S N P U = sources_at m (heads_of d S N) (pages_at m (leaves_of d P U))

abbrev pub pages_of : ℕ → Cid → Discovery → List (List ℕ) → List ℕ → List Page
pages_of m c d P U = pages_at m (leaves_of d P U) c

-- row r holds the k-th source of the mark; there are not so many: r is the count
pub record SourceAt (m k r : ℕ) (d : Discovery) (S N P : List (List ℕ)) (U : List ℕ) : Type 0 where
  pub held : (other : Source) → k < length (sources_of m d S N P U) → (r < d.source_count) × (get_or (sources_of m d S N P U) k other ≡ source_of_row m d S N P U r)
  pub past : length (sources_of m d S N P U) ≤ k → r ≡ d.source_count
  pub inside : r < d.source_count → r < length S

-- and so for the k-th page of a source
pub record PageAt (m : ℕ) (c : Cid) (k r : ℕ) (d : Discovery) (P : List (List ℕ)) (U : List ℕ) : Type 0 where
  pub held : (other : Page) → k < length (pages_of m c d P U) → (r < d.page_count) × (get_or (pages_of m c d P U) k other ≡ page_of_row P U r)
  pub past : length (pages_of m c d P U) ≤ k → r ≡ d.page_count
  pub inside : r < d.page_count → r < length P

-- ── what a row says ──
-- a source's row: the fields of its head
pub record HeadRead (row : List ℕ) (h : SourceHead) : Type 0 where
  pub cid_read : h.cid ≡ (head_of row []).cid
  pub length_read : h.name_length ≡ get_or row 5 0
  pub last_read : h.last_page ≡ (head_of row []).last_page
  pub reading_read : h.reading ≡ (head_of row []).reading

-- a page's row: its number, and how many universes it has
pub record PageRead (row : List ℕ) (h : PageHead) : Type 0 where
  pub number_read : h.number ≡ get_or row 3 0
  pub count_read : h.count ≡ amount row
