-- The lines of a dump, over the model's state.
-- Assumes nothing.
use Rattle.std.specs.Prelude.{List, [], ◌∷◌, ◌++◌, ℕ, length}
use Rattle.rules.specs.declared.Cid.{Cid}
use Rattle.pairs.specs.declared.Pair.{Pair}
use Rattle.pairs.specs.Table.{Table}
use Rattle.merge.specs.declared.SourceCid.{SourceCid}
use Rattle.merge.specs.declared.SourceCid.TheVariants.{Merged, Of}
use Rattle.merge.specs.Merge.{Dmx}
use Rattle.discovery.specs.Discovery.{Page, Source, Discovered}
use Rattle.model.specs.State.{State}
use Rattle.laws.specs.Ascii.{ascii}
use Rattle.printing.specs.Text.{decimal_of, bit_of, cid_text, byte_text, list_text}

-- a text for each element, one behind the other
unfoldable pub lines : {A : Type 0} → (A → List ℕ) → List A → List ℕ
lines f [] = []
lines f (x ∷ xs) = f x ++ lines f xs

abbrev pub spaced : ℕ → List ℕ
spaced n = 32 ∷ decimal_of n

-- "for each data pair in table order `d CID UNIVERSE SEQUENCE READING`", with `y` for synchronisation
abbrev pub pair_line : ℕ → Pair → List ℕ
pair_line mark p = mark ∷ 32 ∷ (cid_text p.cid ++ (spaced p.universe ++ (spaced p.sequence ++ (spaced p.reading ++ 10 ∷ []))))

unfoldable pub cids_tail : List Cid → List ℕ
cids_tail [] = []
cids_tail (c ∷ cs) = (44 ∷ cid_text c) ++ cids_tail cs

-- "`CID,CID,..`", or `-`
unfoldable pub cids_text : List Cid → List ℕ
cids_text [] = 45 ∷ []
cids_text (c ∷ cs) = cid_text c ++ cids_tail cs

abbrev pub sources_line : ℕ → List Cid → List ℕ
sources_line mark cs = mark ∷ 99 ∷ 32 ∷ (cids_text cs ++ 10 ∷ [])

abbrev pub table_text : ℕ → Table → List ℕ
table_text mark t = lines (pair_line mark) t.pairs ++ sources_line mark t.sources

-- "`-` for no CID"
abbrev pub owner_text : SourceCid → List ℕ
owner_text Merged = 45 ∷ []
owner_text (Of c) = cid_text c

-- "`w UNIVERSE ADDRESS PRIORITY PREVIEW CID READING VALUES`"
abbrev pub waiting_line : Dmx → List ℕ
waiting_line e =
    119 ∷ (spaced e.head.universe ++ (spaced e.head.sync_uni ++ (spaced e.head.priority ++ 32 ∷ (bit_of e.head.preview ++ 32 ∷ (owner_text e.head.src_cid
    ++ (spaced e.head.recv_timestamp ++ 32 ∷ (byte_text e.values ++ 10 ∷ [])))))))

abbrev pub listened_line : List ℕ → List ℕ
listened_line us = 108 ∷ 32 ∷ (list_text us ++ 10 ∷ [])

-- "a line `pp PAGE UNIVERSES` for each of its pages"
abbrev pub page_line : ℕ → Page → List ℕ
page_line mark p = mark ∷ 112 ∷ (spaced p.number ++ 32 ∷ (list_text p.universes ++ 10 ∷ []))

-- "`p CID NAME LAST READING PAGECOUNT`"
abbrev pub head_line : ℕ → Cid → List ℕ → ℕ → ℕ → ℕ → List ℕ
head_line mark c name last reading count =
    mark ∷ 32 ∷ (cid_text c ++ 32 ∷ (byte_text name ++ (spaced last ++ (spaced reading ++ (spaced count ++ 10 ∷ [])))))

abbrev pub source_line : ℕ → Source → List ℕ
source_line mark s = head_line mark s.cid s.name s.last_page s.reading (length s.pages)

abbrev pub source_text : ℕ → Source → List ℕ
source_text mark s = source_line mark s ++ lines (page_line mark) s.pages

-- "for each partial source in list order .., for each listed source likewise `q` and `qp`"
abbrev pub discovered_text : Discovered → List ℕ
discovered_text d = lines (source_text 112) d.partial ++ lines (source_text 113) d.listed

abbrev pub dump_text : State → List ℕ
dump_text s =
    table_text 100 s.data_pairs ++ (table_text 121 s.sync_pairs ++ (lines waiting_line s.waiting ++ (listened_line s.listened ++ (discovered_text s.discovered ++ ascii ".\n"))))
