-- Laws of a dump's lines: one element more.
-- Assumes nothing.
use Rattle.std.specs.Prelude.{◌≡◌, refl, List, [], ◌∷◌, ◌++◌, map, ℕ, zero, suc, ◌+◌, ◌≤◌, ◌<◌, length, take, drop, get_or}
use Rattle.std.proofs.Common.{sym, ap, ◌∙◌, append_assoc, append-nil, arith, length-take}
use Rattle.std.proofs.lemmas.List.{drop-append-le}
use Rattle.laws.specs.Place.{append_map}
use Rattle.rules.specs.declared.Cid.{Cid}
use Rattle.discovery_calls.specs.declared.Discovery.{Discovery}
use Rattle.discovery.specs.Discovery.{Page, Source}
use Rattle.discovery_pages.specs.Passes.{Packing}
use Rattle.discovery_reads.specs.Reads.{page_of_row, source_of_row, pages_of, sources_of, PageAt, SourceAt, HeadRead}
use Rattle.discovery_reads.specs.declared.SourceHead.{SourceHead}
use Rattle.discovery_rows.specs.Store.{view_of}
use Rattle.discovery_calls.specs.View.{discovered_of}
use Rattle.merge.specs.declared.DmxData.{DmxData}
use Rattle.merge.specs.Merge.{Dmx}
use Rattle.merge.specs.Views.{dmx}
use Rattle.waiting_store.specs.Entries.{entries, waiting_of, length_entries}
use Rattle.printing.specs.Text.{cid_text, Tells}
use Rattle.laws.specs.Parts.{take_more}
use Rattle.printing.specs.TextLaws.{tells_then, tells_as}
use Rattle.replay.specs.Dump.{lines, cids_tail, cids_text, page_line, head_line, source_text}

lines_snoc : {A : Type 0} (f : A → List ℕ) (xs : List A) (x : A) → lines f (xs ++ x ∷ []) ≡ lines f xs ++ f x
unfolding lines
lines_snoc f [] x = append-nil (f x)
lines_snoc f (y ∷ xs) x = ap (λ (l : List ℕ). f y ++ l) (lines_snoc f xs x) ∙ sym (append_assoc (f y) (lines f xs) (f x))

-- one element more of a list
pub tells_line : {A : Type 0} {o p q : List ℕ} {a b c : ℕ} (f : A → List ℕ) (xs : List A) (i : ℕ) (d : A) → i < length xs
    → Tells (lines f (take i xs)) o a p b → Tells (f (get_or xs i d)) p b q c → Tells (lines f (take (i + 1) xs)) o a q c
tells_line f xs i d h x y =
    tells_as (sym (lines_snoc f (take i xs) (get_or xs i d)) ∙ ap (lines f) (sym (take_more xs i d h))) (tells_then x y)

-- one row more, seen through what it stands for
pub tells_row : {A B : Type 0} {o p q : List ℕ} {a b c : ℕ} (f : B → List ℕ) (g : A → B) (rows : List A) (i : ℕ) (d : A) → i < length rows
    → Tells (lines f (map g (take i rows))) o a p b → Tells (f (g (get_or rows i d))) p b q c → Tells (lines f (map g (take (i + 1) rows))) o a q c
tells_row {A} {B} f g rows i d h x y =
    let e : map g (take (i + 1) rows) ≡ map g (take i rows) ++ g (get_or rows i d) ∷ [] =
    ap (map g) (take_more rows i d h) ∙ append_map g (take i rows) (get_or rows i d ∷ [])
    in
    tells_as (sym (lines_snoc f (map g (take i rows)) (g (get_or rows i d))) ∙ ap (lines f) (sym e)) (tells_then x y)

-- ── CIDs ──
tail_snoc : (cs : List Cid) (c : Cid) → cids_tail (cs ++ c ∷ []) ≡ cids_tail cs ++ 44 ∷ cid_text c
unfolding cids_tail
tail_snoc [] c = ap (λ (l : List ℕ). 44 ∷ l) (append-nil (cid_text c))
tail_snoc (b ∷ cs) c = ap (λ (l : List ℕ). (44 ∷ cid_text b) ++ l) (tail_snoc cs c) ∙ sym (append_assoc (44 ∷ cid_text b) (cids_tail cs) (44 ∷ cid_text c))

-- one row more behind the first
pub tells_cid : {o p q r : List ℕ} {a b c d : ℕ} (f : List ℕ → Cid) (rows : List (List ℕ)) (i : ℕ) → 1 ≤ i → i < length rows
    → Tells (cids_tail (map f (drop 1 (take i rows)))) o a p b → Tells (44 ∷ []) p b q c → Tells (cid_text (f (get_or rows i []))) q c r d
    → Tells (cids_tail (map f (drop 1 (take (i + 1) rows)))) o a r d
tells_cid f rows i g h x y z =
    let row = get_or rows i [] in
    let k : 1 ≤ length (take i rows) = omega (arith, length-take i rows) in
    let e : drop 1 (take (i + 1) rows) ≡ drop 1 (take i rows) ++ row ∷ [] =
    ap (drop 1) (take_more rows i [] h) ∙ drop-append-le 1 (take i rows) (row ∷ []) k
    in
    let l : cids_tail (map f (drop 1 (take (i + 1) rows))) ≡ cids_tail (map f (drop 1 (take i rows))) ++ 44 ∷ cid_text (f row) =
    ap (λ (s : List (List ℕ)). cids_tail (map f s)) e ∙ ap cids_tail (append_map f (drop 1 (take i rows)) (row ∷ [])) ∙ tail_snoc (map f (drop 1 (take i rows))) (f row)
    in
    tells_as (sym l) (tells_then x (tells_then y z))

pub cids_none : (f : List ℕ → Cid) (rows : List (List ℕ)) (n : ℕ) → n ≡ 0 → cids_text (map f (take n rows)) ≡ 45 ∷ []
unfolding cids_text
cids_none f rows n h = ap (λ (k : ℕ). cids_text (map f (take k rows))) h

pub cids_first : (f : List ℕ → Cid) (rows : List (List ℕ)) (n : ℕ) → (n ≡ 0 → ⊥) → 0 < length rows
    → cid_text (f (get_or rows 0 [])) ++ cids_tail (map f (drop 1 (take n rows))) ≡ cids_text (map f (take n rows))
unfolding cids_text
cids_first f rows zero h l = absurd (h refl)
cids_first f [] (suc n) h l = absurd (omega arith)
cids_first f (r ∷ rows) (suc n) h l = refl

-- ── waiting data ──
pub length_waiting : (n : ℕ) (rows : List (List ℕ)) (store : List ℕ) → n ≤ 64 → length rows ≡ 64 → length (waiting_of n rows store) ≡ n
length_waiting n rows store h l = omega (arith, length-take n (entries rows store), length_entries rows store)

pub entry_same : (d : DmxData) (values : List ℕ) (e : Dmx) → d ≡ e.head → values ≡ e.values → dmx d values ≡ e
entry_same d values e p q i = record { head = p i; values = q i }

pub cids_begun : (f : List ℕ → Cid) (rows : List (List ℕ)) → cids_tail (map f (drop 1 (take 1 rows))) ≡ []
unfolding cids_tail
cids_begun f [] = refl
cids_begun f (r ∷ rows) = refl

-- ── pages and sources ──
abbrev pub page : ℕ → List ℕ → Page
page n us = record { number = n; universes = us }

-- what a read past the end would give; no call makes one
abbrev pub first_page : Page
first_page = page 0 []

abbrev pub first_source : Source
first_source = record { cid = record { hi = 0; lo = 0 }; name = []; last_page = 0; reading = 0; pages = [] }

pub page_read : (P : List (List ℕ)) (U : List ℕ) (r n : ℕ) (us : List ℕ) → n ≡ get_or (get_or P r []) 3 0 → us ≡ (page_of_row P U r).universes → page n us ≡ page_of_row P U r
unfolding page_of_row
page_read P U r n us p q i = record { number = p i; universes = q i }

-- the row of a page that is there
pub page_placed : (m : ℕ) (c : Cid) (k r : ℕ) (d : Discovery) (P : List (List ℕ)) (U : List ℕ) → PageAt m c k r d P U → Packing d.page_count P U → k < length (pages_of m c d P U) → r < 64
page_placed m c k r d P U h g l = let w = g.within in let p = (h.held first_page l).0 in omega arith

-- the row of a source that is there
pub source_placed : (m k r : ℕ) (d : Discovery) (S N P : List (List ℕ)) (U : List ℕ) → SourceAt m k r d S N P U → d.source_count ≤ 64 → k < length (sources_of m d S N P U) → r < 64
source_placed m k r d S N P U h w l = let p = (h.held first_source l).0 in omega arith

-- what a row says of its source, and the pages of its CID
pub source_read : (letter m : ℕ) (d : Discovery) (S N P : List (List ℕ)) (U : List ℕ) (r total : ℕ) (h : SourceHead) → HeadRead (get_or S r []) h → total ≡ length (pages_of m h.cid d P U)
    → head_line letter h.cid (take h.name_length (get_or N r [])) h.last_page h.reading total ++ lines (page_line letter) (pages_of m h.cid d P U)
    ≡ source_text letter (source_of_row m d S N P U r)
unfolding source_of_row
source_read letter m d S N P U r total h e t =
    ap (λ (n : ℕ). head_line letter h.cid (take h.name_length (get_or N r [])) h.last_page h.reading n ++ lines (page_line letter) (pages_of m h.cid d P U)) t
    ∙ read e.cid_read e.length_read e.last_read e.reading_read
  where
    read : {c c' : Cid} {n n' l l' a a' : ℕ} → c ≡ c' → n ≡ n' → l ≡ l' → a ≡ a'
        → head_line letter c (take n (get_or N r [])) l a (length (pages_of m c d P U)) ++ lines (page_line letter) (pages_of m c d P U)
        ≡ head_line letter c' (take n' (get_or N r [])) l' a' (length (pages_of m c' d P U)) ++ lines (page_line letter) (pages_of m c' d P U)
    read p q u v i =
        head_line letter (p i) (take (q i) (get_or N r [])) (u i) (v i) (length (pages_of m (p i) d P U)) ++ lines (page_line letter) (pages_of m (p i) d P U)

-- the two lists
pub partial_sources : (d : Discovery) (S N P : List (List ℕ)) (U : List ℕ) → (discovered_of d S N P U).partial ≡ sources_of 0 d S N P U
unfolding discovered_of view_of
partial_sources d S N P U = refl

pub listed_sources : (d : Discovery) (S N P : List (List ℕ)) (U : List ℕ) → (discovered_of d S N P U).listed ≡ sources_of 1 d S N P U
unfolding discovered_of view_of
listed_sources d S N P U = refl
