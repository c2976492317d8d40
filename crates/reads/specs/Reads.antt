-- What is read out of the receiver, as its parts have it; and a list's entries where its rows lie.
-- Assumes nothing.
use Rattle.std.specs.Prelude.{◌≡◌, refl, Bool, true, false, List, [], map, ℕ, ◌*◌, ◌≤◌, ◌<◌, min, ltb, length, take, drop, get_or, replicate}
use Rattle.std.proofs.Common.{sym, ap, ◌∙◌, arith, drop_of_length-le, get_or-take, take_all, ltb-true, ltb-false}
use Rattle.laws.specs.Cases.{split}
use Rattle.laws.specs.Place.{get_d_map}
use Rattle.rules.specs.declared.Cid.{Cid}
use Rattle.pairs.specs.declared.Pair.{Pair}
use Rattle.pair_rows.specs.View.{cid_of, pair_of}
use Rattle.merge.specs.declared.DmxData.{DmxData}
use Rattle.merge.specs.declared.SourceCid.{SourceCid}
use Rattle.merge.specs.declared.SourceCid.TheVariants.{Merged, Of}
use Rattle.merge.specs.Merge.{Dmx}
use Rattle.waiting_store.specs.Entries.{waiting_of, entries, entry_of, nothing, count_of, length_entries}
use Rattle.waiting_store.specs.Entries as waiting
use Rattle.discovery.specs.Discovery.{Page}
use Rattle.discovery_rows.specs.Rows.{total}
use Rattle.discovery_reads.specs.declared.SourceHead.{SourceHead}
use Rattle.discovery_reads.specs.declared.PageHead.{PageHead}
use Rattle.discovery_reads.specs.Reads.{page_of_row}
use Rattle.discovery_reads.specs.Reads as out
use Rattle.reads.specs.declared.SourceRead.{SourceRead}
use Rattle.reads.specs.declared.PageRead.{PageRead}
use Rattle.reads.specs.declared.PairRead.{PairRead}
use Rattle.reads.specs.declared.CidRead.{CidRead}
use Rattle.reads.specs.declared.DmxRead.{DmxRead}

abbrev pub pair_read : PairRead → Pair
pair_read p = record { cid = record { hi = p.hi; lo = p.lo }; universe = p.universe; sequence = p.sequence; reading = p.reading }

abbrev pub cid_read : CidRead → Cid
cid_read c = record { hi = c.hi; lo = c.lo }

-- merged data has no source
abbrev pub owner : Bool → Cid → SourceCid
owner false c = Merged
owner true c = Of c

abbrev pub dmx_read : DmxRead → DmxData
dmx_read d = record {
  universe = d.universe;
  sync_uni = d.address;
  priority = d.priority;
  src_cid = owner d.has_cid (record { hi = d.hi; lo = d.lo });
  preview = d.preview;
  recv_timestamp = d.reading;
}

abbrev pub head_read : SourceRead → SourceHead
head_read s = record { cid = record { hi = s.hi; lo = s.lo }; name_length = s.name_length; last_page = s.last_page; reading = s.reading }

abbrev pub page_read : PageRead → List ℕ → Page
page_read p universes = record { number = p.number; universes = take p.count (drop p.start universes) }

-- past the last place: zeros
abbrev pub no_source : ℕ → SourceRead
no_source place = record { hi = 0; lo = 0; reading = 0; last_page = 0; name_length = 0; place = place }

abbrev pub no_page : ℕ → PageRead
no_page place = record { number = 0; count = 0; start = 0; place = place }

-- no part that a caller lends is longer
abbrev pub longest : ℕ
longest = 9223372036854775807

-- ── entries ──
-- a row that says what no row says stands for none
module _ {A B : Type 0} (f : A → B) (z d : A) (e : f z ≡ f d) (n i : ℕ) (rows : List A) where
  pub told_at : f (get_or (take n rows) i z) ≡ get_or (map f (take n rows)) i (f d)
  told_at = sym (get_d_map f (take n rows) i z) ∙ ap (get_or (map f (take n rows)) i) e

-- a row of zeros does
pub zero_pair : pair_of (replicate 4 0) ≡ pair_of []
unfolding pair_of cid_of
zero_pair = refl

pub zero_cid : cid_of (replicate 2 0) ≡ cid_of []
unfolding cid_of
zero_cid = refl

-- ── waiting data ──
abbrev pub dmx_of : DmxData → SourceCid → DmxData
dmx_of d o = record {
  universe = d.universe;
  sync_uni = d.sync_uni;
  priority = d.priority;
  src_cid = o;
  preview = d.preview;
  recv_timestamp = d.recv_timestamp;
}

pub owned_by : (d : DmxData) (o : SourceCid) → d.src_cid ≡ o → dmx_of d o ≡ d
owned_by d o e = sym (λ i. dmx_of d (e i))

-- as far as there are rows
pub waiting_within : (n m : ℕ) (rows : List (List ℕ)) (store : List ℕ) → length rows ≡ 64 → m ≡ min n 64 → waiting_of m rows store ≡ waiting_of n rows store
waiting_within n m rows store l e =
    let k = length_entries rows store in
    split (ltb 64 n)
    (λ h. let g = ltb-true 64 n h in take_all m (entries rows store) (omega arith) ∙ sym (take_all n (entries rows store) (omega arith)))
    (λ h. let g = ltb-false 64 n h in let z : m ≡ n = omega arith in ap (λ (x : ℕ). waiting_of x rows store) z)

pub values_lie : (n i m : ℕ) (rows : List (List ℕ)) (store : List ℕ) → i < n → i < length rows → m ≡ count_of (get_or rows i [])
    → take m (drop (i * 513) store) ≡ (get_or (waiting_of n rows store) i nothing).values
values_lie n i m rows store h l e =
    let x : get_or (waiting_of n rows store) i nothing ≡ entry_of (get_or rows i []) (drop (i * 513) store) = get_or-take n (entries rows store) i nothing h ∙ waiting.entry_at rows store i nothing l in
    ap (λ (k : ℕ). take k (drop (i * 513) store)) e ∙ sym (ap (λ (y : Dmx). y.values) x)

-- ── a page ──
pub page_lies : (P : List (List ℕ)) (U : List ℕ) (at start : ℕ) (h : PageHead) → out.PageRead (get_or P at []) h → start ≡ min (total (take at P)) longest → length U ≤ longest
    → page_of_row P U at ≡ record { number = h.number; universes = take h.count (drop start U) }
unfolding page_of_row
page_lies P U at start h x e l =
    let t = total (take at P) in
    let z : drop start U ≡ drop t U =
    split (ltb longest t)
    (λ g. let y = ltb-true longest t g in drop_of_length-le U {i = start} (omega arith) ∙ sym (drop_of_length-le U {i = t} (omega arith)))
    (λ g. let y = ltb-false longest t g in let q : start ≡ t = omega arith in ap (λ (k : ℕ). drop k U) q) in
    sym (λ i. record { number = x.number_read i; universes = take (x.count_read i) (z i) })
