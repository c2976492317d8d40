-- How waiting data lies in the memory that the caller lends: a row of nine words for each header, and a block of 513 bytes for its values.
-- Assumes nothing.
use Rattle.std.specs.Prelude.{◌≡◌, refl, Bool, true, false, not, List, [], ◌∷◌, ◌++◌, ℕ, zero, suc, ◌+◌, ◌-◌, ◌*◌, ◌%◌, ◌≤◌, ◌<◌, min, ltb, eqb, length, take, drop, get_or, set}
use Rattle.std.proofs.Common.{sym, ap, ◌∙◌, arith, mod-eq_of_lt, length-set, length-take, length-drop, take-take, drop_at, length-take-le, drop-drop}
use Rattle.std.proofs.Math.Seq.{take-append_seam}
use Rattle.std.proofs.lemmas.List.{take-append-le}
use Rattle.laws.specs.Cases.{split}
use Rattle.laws.specs.Table.{Ascending, any}
use Rattle.laws.specs.Place.{prefix}
use Rattle.laws.specs.Parts.{pasted, pasted_front, drop_pasted, length_pasted, pasted_shift}
use Rattle.rules.specs.declared.Cid.{Cid}
use Rattle.rules.specs.Bytes.{bit}
use Rattle.merge.specs.declared.DmxData.{DmxData}
use Rattle.merge.specs.declared.SourceCid.{SourceCid}
use Rattle.merge.specs.declared.SourceCid.TheVariants.{Merged, Of}
use Rattle.merge.specs.Merge.{Dmx, most_values}
use Rattle.merge.specs.Views.{dmx}
use Rattle.waiting.specs.Waiting.{universe_of, Within, Ordered, capacity, store_length}

-- ── the view ──
abbrev pub owner_of : Bool → Cid → SourceCid
owner_of true c = Merged
owner_of false c = Of c

-- a row: universe, address, priority, preview, CID present, CID high, CID low, reading, value count
unfoldable pub head_of : List ℕ → DmxData
head_of row = record {
  universe = get_or row 0 0 % 65536;
  sync_uni = get_or row 1 0 % 65536;
  priority = get_or row 2 0 % 256;
  src_cid = owner_of (eqb (get_or row 4 0) 0) (record { hi = get_or row 5 0; lo = get_or row 6 0 });
  preview = not (eqb (get_or row 3 0) 0);
  recv_timestamp = get_or row 7 0;
}

-- a header's row
abbrev pub row_of : DmxData → ℕ → ℕ → ℕ → ℕ → List ℕ
row_of d present hi lo n =
    d.universe ∷ d.sync_uni ∷ d.priority ∷ bit d.preview ∷ present ∷ hi ∷ lo ∷ d.recv_timestamp ∷ n ∷ []

-- the words of a row: the source's are three zeros, or 1 and its CID
abbrev pub words_by : DmxData → ℕ → SourceCid → List ℕ
words_by d n Merged = row_of d 0 0 0 n
words_by d n (Of c) = row_of d 1 c.hi c.lo n

abbrev pub words_of : DmxData → ℕ → List ℕ
words_of d n = words_by d n d.src_cid

abbrev pub count_of : List ℕ → ℕ
count_of row = min (get_or row 8 0) most_values

abbrev pub entry_of : List ℕ → List ℕ → Dmx
entry_of row block = dmx (head_of row) (take (count_of row) block)

-- what a read past the end gives
abbrev pub nothing : Dmx
nothing = entry_of [] []

-- every row with its block
unfoldable pub entries : List (List ℕ) → List ℕ → List Dmx
entries [] store = []
entries (row ∷ rows) store = entry_of row store ∷ entries rows (drop most_values store)

-- what waits: the first n of them
abbrev pub waiting_of : ℕ → List (List ℕ) → List ℕ → List Dmx
waiting_of n rows store = take n (entries rows store)

-- the lengths that the types say, and a store that the step has tested
pub record Room (rows : List (List ℕ)) (store : List ℕ) : Type 0 where
  pub rows_length : length rows ≡ capacity
  pub store_room : store_length ≤ length store

-- what every call presupposes and yields: the table in its order and within its count
pub record Kept (n : ℕ) (rows : List (List ℕ)) (store : List ℕ) : Type 0 where
  pub room : Room rows store
  pub count_fits : n ≤ capacity
  pub ascends : Ascending ltb universe_of (waiting_of n rows store)

-- a call keeps the lengths, and the store past the blocks
pub record Lent (rows : List (List ℕ)) (store : List ℕ) (rows' : List (List ℕ)) (store' : List ℕ) : Type 0 where
  pub rows_same : length rows' ≡ length rows
  pub store_same : length store' ≡ length store
  pub beyond : drop store_length store' ≡ drop store_length store

pub lent_none : (rows : List (List ℕ)) (store : List ℕ) → Lent rows store rows store
lent_none rows store = record { rows_same = refl; store_same = refl; beyond = refl }

pub lent_then : {rows rows' rows'' : List (List ℕ)} {store store' store'' : List ℕ} → Lent rows store rows' store' → Lent rows' store' rows'' store'' → Lent rows store rows'' store''
lent_then a b = record { rows_same = b.rows_same ∙ a.rows_same; store_same = b.store_same ∙ a.store_same; beyond = b.beyond ∙ a.beyond }

pub lent_room : {rows rows' : List (List ℕ)} {store store' : List ℕ} → Room rows store → Lent rows store rows' store' → Room rows' store'
lent_room r l = record { rows_length = l.rows_same ∙ r.rows_length; store_room = let a = r.store_room in let b = l.store_same in omega arith }

-- ── laws ──
pub length_entries : (rows : List (List ℕ)) (store : List ℕ) → length (entries rows store) ≡ length rows
unfolding entries
length_entries [] store = refl
length_entries (row ∷ rows) store = ap suc (length_entries rows (drop most_values store))

-- a row and its block, read
pub entry_at : (rows : List (List ℕ)) (store : List ℕ) (i : ℕ) (d : Dmx) → i < length rows
    → get_or (entries rows store) i d ≡ entry_of (get_or rows i []) (drop (i * most_values) store)
unfolding entries
entry_at [] store i d h = absurd (omega arith)
entry_at (row ∷ rows) store zero d h = refl
entry_at (row ∷ rows) store (suc i) d h =
    let e : most_values + i * most_values ≡ suc i * most_values = omega arith in
    entry_at rows (drop most_values store) i d (omega arith) ∙ ap (entry_of (get_or rows i [])) (drop-drop (i * most_values) most_values store ∙ ap (λ (k : ℕ). drop k store) e)

-- and written
pub entry_set : (rows : List (List ℕ)) (store : List ℕ) (i : ℕ) (row vs : List ℕ) → i < length rows → length rows * most_values ≤ length store → length vs ≤ most_values
    → count_of row ≡ length vs → entries (set rows i row) (pasted store (i * most_values) vs) ≡ set (entries rows store) i (dmx (head_of row) vs)
unfolding entries
entry_set [] store i row vs h l f e = absurd (omega arith)
entry_set (r ∷ rows) store zero row vs h l f e =
    let a : take (count_of row) (pasted store 0 vs) ≡ vs = rw (e, pasted_front store vs) (take-append_seam vs (drop (length vs) store)) in
    let b : drop most_values (pasted store 0 vs) ≡ drop most_values store = drop_pasted store 0 vs (omega arith) most_values (omega arith) in
    ap (λ (v : List ℕ). dmx (head_of row) v ∷ entries rows (drop most_values (pasted store 0 vs))) a ∙ ap (λ (s : List ℕ). dmx (head_of row) vs ∷ entries rows s) b
entry_set (r ∷ rows) store (suc i) row vs h l f e =
    let k : suc i * most_values ≡ most_values + i * most_values = omega arith in
    let m : most_values ≤ length store = omega arith in
    let x = pasted (drop most_values store) (i * most_values) vs in
    let p : pasted store (suc i * most_values) vs ≡ take most_values store ++ x = rw k (pasted_shift store most_values (i * most_values) vs) in
    let t : length (take most_values store) ≡ most_values = length-take-le most_values store m in
    let c : count_of r ≤ most_values = omega arith in
    let a : take (count_of r) (take most_values store ++ x) ≡ take (count_of r) store = take-append-le (count_of r) (take most_values store) x (omega arith) ∙ take-take (count_of r) most_values store c in
    let b : drop most_values (take most_values store ++ x) ≡ x = drop_at (take most_values store) x most_values t in
    let q = entry_set rows (drop most_values store) i row vs (omega arith) (omega (arith, length-drop most_values store)) f e in
    ap (λ (s : List ℕ). dmx (head_of r) (take (count_of r) s) ∷ entries (set rows i row) (drop most_values s)) p
    ∙ ap (λ (v : List ℕ). dmx (head_of r) v ∷ entries (set rows i row) (drop most_values (take most_values store ++ x))) a
    ∙ ap (λ (s : List ℕ). dmx (head_of r) (take (count_of r) store) ∷ entries (set rows i row) s) b
    ∙ ap (λ (ds : List Dmx). dmx (head_of r) (take (count_of r) store) ∷ ds) q

pub within_entries : (n : ℕ) (rows : List (List ℕ)) (store : List ℕ) → Within (waiting_of n rows store)
unfolding entries
within_entries zero rows store = tt
within_entries (suc n) [] store = tt
within_entries (suc n) (row ∷ rows) store =
    (omega (arith, length-take (count_of row) store), within_entries n rows (drop most_values store))

pub length_waiting : {n : ℕ} {rows : List (List ℕ)} {store : List ℕ} → Kept n rows store → length (waiting_of n rows store) ≡ n
length_waiting {n} {rows} {store} k =
    let a = k.room.rows_length in
    let b = k.count_fits in
    omega (arith, length-take n (entries rows store), length_entries rows store)

pub kept_ordered : {n : ℕ} {rows : List (List ℕ)} {store : List ℕ} → Kept n rows store → Ordered (waiting_of n rows store)
kept_ordered {n} {rows} {store} k = record {
  ascends = k.ascends;
  fit = let b = k.count_fits in omega (arith, length_waiting k);
  values_fit = within_entries n rows store;
}

-- a test of the header alone, over the rows
pub prefix_entries : (t : DmxData → Bool) (n : ℕ) (rows : List (List ℕ)) (store : List ℕ)
    → prefix (λ row. t (head_of row)) (take n rows) ≡ prefix (λ (d : Dmx). t d.head) (waiting_of n rows store)
unfolding prefix entries
prefix_entries t zero rows store = refl
prefix_entries t (suc n) [] store = refl
prefix_entries t (suc n) (row ∷ rows) store =
    let r = prefix_entries t n rows (drop most_values store) in
    split (t (head_of row)) (λ h. rw (h, r)) (λ h. rw h)

pub any_entries : (t : DmxData → Bool) (n : ℕ) (rows : List (List ℕ)) (store : List ℕ)
    → any (λ row. t (head_of row)) (take n rows) ≡ any (λ (d : Dmx). t d.head) (waiting_of n rows store)
unfolding any entries
any_entries t zero rows store = refl
any_entries t (suc n) [] store = refl
any_entries t (suc n) (row ∷ rows) store =
    let r = any_entries t n rows (drop most_values store) in
    split (t (head_of row)) (λ h. rw h) (λ h. rw (h, r))

-- a header written as a row reads as itself
pub row_back : (d : DmxData) (present hi lo n : ℕ) → d.universe < 65536 → d.sync_uni < 65536 → d.priority < 256
    → owner_of (eqb present 0) (record { hi = hi; lo = lo }) ≡ d.src_cid → head_of (row_of d present hi lo n) ≡ d
unfolding head_of
row_back d present hi lo n u a p e = λ i. record {
  universe = mod-eq_of_lt u i;
  sync_uni = mod-eq_of_lt a i;
  priority = mod-eq_of_lt p i;
  src_cid = e i;
  preview = flag_back d.preview i;
  recv_timestamp = d.recv_timestamp;
}
  where
    flag_back : (b : Bool) → not (eqb (bit b) 0) ≡ b
    flag_back true = refl
    flag_back false = refl

pub count_back : (d : DmxData) (present hi lo n : ℕ) → n ≤ most_values → count_of (row_of d present hi lo n) ≡ n
count_back d present hi lo n h = omega arith

-- ── an entry put, and an entry moved ──
-- the store past the blocks is not touched
beyond_block : (store vs : List ℕ) (i : ℕ) → i < capacity → length vs ≤ most_values → store_length ≤ length store
    → drop store_length (pasted store (i * most_values) vs) ≡ drop store_length store
beyond_block store vs i h f l = drop_pasted store (i * most_values) vs (omega arith) store_length (omega arith)

pub lent_put : (rows : List (List ℕ)) (store : List ℕ) (i : ℕ) (row vs : List ℕ) → Room rows store → i < capacity → length vs ≤ most_values
    → Lent rows store (set rows i row) (pasted store (i * most_values) vs)
lent_put rows store i row vs r h f =
    let a = r.store_room in
    record {
      rows_same = length-set rows i row;
      store_same = length_pasted store (i * most_values) vs (omega arith);
      beyond = beyond_block store vs i h f a;
    }

pub put_entry : (rows : List (List ℕ)) (store : List ℕ) (i : ℕ) (row vs : List ℕ) (d : DmxData) → Room rows store → i < capacity → length vs ≤ most_values
    → head_of row ≡ d → count_of row ≡ length vs → entries (set rows i row) (pasted store (i * most_values) vs) ≡ set (entries rows store) i (dmx d vs)
put_entry rows store i row vs d r h f e c =
    let a = r.rows_length in
    let b = r.store_room in
    entry_set rows store i row vs (omega arith) (omega arith) f c ∙ ap (λ (x : DmxData). set (entries rows store) i (dmx x vs)) e

pub length_block : (rows : List (List ℕ)) (store row : List ℕ) (i : ℕ) → Room rows store → i < capacity → length (take (count_of row) (drop (i * most_values) store)) ≡ count_of row
length_block rows store row i r h =
    let b = r.store_room in
    let m : count_of row ≤ most_values = omega arith in
    length-take-le (count_of row) (drop (i * most_values) store) (omega (arith, length-drop (i * most_values) store))

pub moved_entry : (rows : List (List ℕ)) (store : List ℕ) (from to : ℕ) → Room rows store → from < capacity → to < capacity
    → entries (set rows to (get_or rows from [])) (pasted store (to * most_values) (take (count_of (get_or rows from [])) (drop (from * most_values) store)))
    ≡ set (entries rows store) to (get_or (entries rows store) from nothing)
moved_entry rows store from to r h g =
    let row = get_or rows from [] in
    let vs = take (count_of row) (drop (from * most_values) store) in
    let l = length_block rows store row from r h in
    let a = r.rows_length in
    let m : count_of row ≤ most_values = omega arith in
    put_entry rows store to row vs (head_of row) r g (omega arith) refl (sym l) ∙ ap (set (entries rows store) to) (sym (entry_at rows store from nothing (omega arith)))

-- ── an entry as the code reads it ──
pub read_entry : (rows : List (List ℕ)) (store : List ℕ) (i : ℕ) → Room rows store → i < capacity → (d : DmxData) (n : ℕ) → d ≡ head_of (get_or rows i []) → n ≡ count_of (get_or rows i [])
    → dmx d (take (i * most_values + n - i * most_values) (drop (i * most_values) store)) ≡ get_or (entries rows store) i nothing
read_entry rows store i r h d n e k =
    let a = r.rows_length in
    let m : i * most_values + n - i * most_values ≡ n = omega arith in
    rw (m, e, k) (sym (entry_at rows store i nothing (omega arith)))
