-- What the functions over rows and blocks show, in named parts.
-- Assumes nothing.
use Rattle.std.specs.Prelude.{◌≡◌, refl, Bool, List, [], ◌++◌, ◌≢◌, ℕ, ◌+◌, ◌-◌, ◌*◌, ◌≤◌, ◌<◌, ltb, length, take, drop, get_or, set, Result, Ok, Err}
use Rattle.std.proofs.Common.{sym, ap, ◌∙◌, inl, inr, arith, length-drop, ltb-true}
use Rattle.std.proofs.Math.Seq.{paste, take-add}
use Rattle.std.proofs.lemmas.List.{set-get_or, take-append-drop}
use Rattle.laws.specs.Order.{ℕOrder, tri}
use Rattle.std.specs.List.{copy_within}
use denote.Param.Members.{Shared}
use Rattle.laws.specs.Place.{prefix}
use Rattle.laws.specs.Parts.{pasted, paste_part, copy_turn}
use Rattle.merge.specs.declared.DmxData.{DmxData}
use Rattle.merge.specs.declared.SourceCid.{SourceCid}
use Rattle.merge.specs.declared.SourceCid.TheVariants.{Merged, Of}
use Rattle.merge.specs.Merge.{Dmx, most_values}
use Rattle.merge.specs.Views.{dmx}
use Rattle.waiting.specs.Waiting.{capacity}
use Rattle.waiting_store.specs.Entries.{head_of, words_by, words_of, count_of, row_back, count_back, entries, nothing, Room, Lent, lent_put, put_entry, moved_entry, length_block}

-- a row made of a header and a count
pub record Rowed (d : DmxData) (n : ℕ) (row : List ℕ) : Type 0 where
  pub head_back : head_of row ≡ d
  pub count_back : count_of row ≡ n

-- the rows and the store before and after, and what the entries become
pub record Changed (rows : List (List ℕ)) (store : List ℕ) (rows' : List (List ℕ)) (store' : List ℕ) (ds : List Dmx) : Type 0 where
  pub lent : Lent rows store rows' store'
  pub becomes : entries rows' store' ≡ ds

-- and what the first n of them become
pub record Held (rows : List (List ℕ)) (store : List ℕ) (rows' : List (List ℕ)) (store' : List ℕ) (n : ℕ) (ds : List Dmx) : Type 0 where
  pub lends : Lent rows store rows' store'
  pub holds : take n (entries rows' store') ≡ ds

-- a closure computes the test t of a header
abbrev pub Computes : {F : Type 0} → Shared F (DmxData × Unit {0}) Bool → (DmxData → Bool) → F → Type 0
Computes g t f = (d : DmxData) (b : Bool) → g.post f (d, tt) b → b ≡ t d

-- the rows of universes below u
abbrev pub below : ℕ → DmxData → Bool
below u d = ltb d.universe u

-- where a universe was found, or where it belongs
abbrev pub Sought : ℕ → ℕ → List (List ℕ) → Result ℕ ℕ → Type 0
Sought u n rows (Ok i) = (i ≡ prefix (λ row. below u (head_of row)) (take n rows)) × (i < n) × ((head_of (get_or rows i [])).universe ≡ u)
Sought u n rows (Err i) = (i ≡ prefix (λ row. below u (head_of row)) (take n rows)) × (i < n → (head_of (get_or rows i [])).universe ≢ u)

-- ── law: the words of a header and a count read as these ──
pub rowed_words : (d : DmxData) (n : ℕ) (row : List ℕ) → d.universe < 65536 → d.sync_uni < 65536 → d.priority < 256 → n ≤ most_values → row ≡ words_of d n
    → (row ≡ words_of d n) × Rowed d n row
rowed_words d n row u a p h e = (e, rw e (go d.src_cid refl))
  where
    go : (s : SourceCid) → s ≡ d.src_cid → Rowed d n (words_by d n s)
    go Merged q = record { head_back = row_back d 0 0 0 n u a p q; count_back = count_back d 0 0 0 n h }
    go (Of c) q = record { head_back = row_back d 1 c.hi c.lo n u a p q; count_back = count_back d 1 c.hi c.lo n h }

-- ── laws: one for each way that an entry is put ──
pub changed_put : (rows : List (List ℕ)) (store store' : List ℕ) (i : ℕ) (row vs : List ℕ) (d : DmxData) → Room rows store → i < capacity → length vs ≤ most_values
    → Rowed d (length vs) row → store' ≡ pasted store (i * most_values) vs → Changed rows store (set rows i row) store' (set (entries rows store) i (dmx d vs))
changed_put rows store store' i row vs d r h f w e = record {
  lent = rw e (lent_put rows store i row vs r h f);
  becomes = rw e (put_entry rows store i row vs d r h f w.head_back w.count_back);
}

pub changed_move : (rows : List (List ℕ)) (store store' : List ℕ) (from to n : ℕ) → Room rows store → from < capacity → to < capacity
    → n ≡ count_of (get_or rows from []) → store' ≡ pasted store (to * most_values) (take n (drop (from * most_values) store))
    → Changed rows store (set rows to (get_or rows from [])) store' (set (entries rows store) to (get_or (entries rows store) from nothing))
changed_move rows store store' from to n r h g k e =
    let row = get_or rows from [] in
    let vs = take (count_of row) (drop (from * most_values) store) in
    let f : store' ≡ pasted store (to * most_values) vs = rw k at e in
    let l = length_block rows store row from r h in
    let m : count_of row ≤ most_values = omega arith in
    record {
      lent = rw f (lent_put rows store to row vs r g (omega arith));
      becomes = rw f (moved_entry rows store from to r h g);
    }

-- a turn of a copy from one block to another, or onto itself
same_paste : (l : List ℕ) (a k : ℕ) → paste l a (drop a l) k ≡ l
same_paste l a k = ap (λ (t : List ℕ). t ++ drop (a + k) l) (sym (take-add a k l)) ∙ take-append-drop (a + k) l

pub block_turn : (l m : List ℕ) (from to n k : ℕ) → from * most_values + n ≤ length l → to * most_values + n ≤ length l → n ≤ most_values → k < n
    → m ≡ paste l (to * most_values) (drop (from * most_values) l) k
    → set m (to * most_values + k) (get_or m (from * most_values + k) 0) ≡ paste l (to * most_values) (drop (from * most_values) l) (k + 1)
block_turn l m from to n k f t g h e =
    let place = to * most_values in
    let onto : from ≡ to → set m (place + k) (get_or m (from * most_values + k) 0) ≡ paste l place (drop (from * most_values) l) (k + 1) =
    λ s.
    let kept : m ≡ l = e ∙ ap (λ (x : ℕ). paste l place (drop (x * most_values) l) k) s ∙ same_paste l place k in
    ap (λ (x : ℕ). set m (place + k) (get_or m (x * most_values + k) 0)) s ∙ set-get_or m (place + k) 0 ∙ kept
    ∙ sym (ap (λ (x : ℕ). paste l place (drop (x * most_values) l) (k + 1)) s ∙ same_paste l place (k + 1)) in
    tri ltb ℕOrder from to
    (λ p q. copy_turn l m (from * most_values) place n k 0 f t (inl (omega (arith, ltb-true from to p))) h e)
    onto
    (λ p q. copy_turn l m (from * most_values) place n k 0 f t (inr (omega (arith, ltb-true to from q))) h e)

-- the same by the library's copy within one list
pub changed_copy : (rows : List (List ℕ)) (store store' : List ℕ) (from to n : ℕ) → Room rows store → from < capacity → to < capacity
    → n ≡ count_of (get_or rows from []) → store' ≡ copy_within store (from * most_values) (from * most_values + n) (to * most_values)
    → Changed rows store (set rows to (get_or rows from [])) store' (set (entries rows store) to (get_or (entries rows store) from nothing))
changed_copy rows store store' from to n r h g k e =
    let m : n ≤ most_values = omega arith in
    let q : from * most_values + n - from * most_values ≡ n = omega arith in
    let s = r.store_room in
    changed_move rows store store' from to n r h g k
    (e ∙ rw q (paste_part store (to * most_values) (drop (from * most_values) store) n (omega arith) (omega (arith, length-drop (from * most_values) store))))
