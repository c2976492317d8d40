-- Page rows with their universes as leaves: one page more behind those kept, what code over the pages asks and leaves, and a pass over
-- them turn by turn.
-- Assumes nothing.
use Rattle.std.specs.Prelude.{◌≡◌, refl, true, false, not, ℕ, zero, suc, ◌+◌, ◌*◌, ◌≤◌, ◌<◌, eqb, drop, get_or, set}
use Rattle.std.proofs.Math.Path.{sym, ap}
use Rattle.std.proofs.Common.{◌∙◌, arith, length-set, take-take, take-suc-set, drop-drop, take_all}
use mathlib.Core.List.{List, [], ◌∷◌, ◌++◌, map, append-nil}
use Rattle.std.proofs.Math.ListN.{length, take, length-take}
use Rattle.std.proofs.Math.Numerals.{add-one}
use Rattle.std.proofs.Math.Seq.{take-nil, take_at, drop_at}
use Rattle.laws.specs.Table.{keep}
use Rattle.laws.specs.Place.{append_map}
use Rattle.rules.specs.declared.Cid.{Cid}
use Rattle.discovery.specs.Discovery.{cut_page, most_universes, capacity, pool_length}
use Rattle.discovery_rows.specs.Store.{Leaf, held_by}
use Rattle.discovery_rows.specs.Rows.{cid_at, owned, amount, leaf_at, leaves, total, Few, total_append, taken_more, total_more, few_at}
use Rattle.discovery_rows.specs.Walks.{further, further_read, read_first}
use Rattle.discovery_pages.specs.Leaves.{cut_leaf}
use Rattle.discovery_pages.specs.Pool.{keep_more, dropped_both, dropped_past}
use Rattle.discovery_pages.specs.Lent.{Lent}

pub total_few : (rs : List (List ℕ)) → Few rs → total rs ≤ most_universes * length rs
unfolding total
total_few [] f = omega arith
total_few (r ∷ rs) f = let k : amount r ≤ most_universes = f.0 in omega (arith, total_few rs f.1)

-- ── leaves ──
abbrev pub leaf_with : List ℕ → List ℕ → Leaf
leaf_with r t = record { mark = get_or r 0 0; cid = cid_at r; page = record { number = get_or r 3 0; universes = t } }

pub taken_dropped : {A : Type 0} (n m : ℕ) (l : List A) → drop n (take (n + m) l) ≡ take m (drop n l)
taken_dropped zero m l = let e : 0 + m ≡ m = omega arith in rw e
taken_dropped (suc n) m [] = rw (take-nil (suc n + m), take-nil m)
taken_dropped (suc n) m (x ∷ l) = let e : suc n + m ≡ suc (n + m) = omega arith in rw e (taken_dropped n m l)

-- only the universes of the rows are looked at
leaves_within : (rs : List (List ℕ)) (us : List ℕ) → leaves rs us ≡ leaves rs (take (total rs) us)
unfolding leaves total
leaves_within [] us = refl
leaves_within (r ∷ rs) us =
    let n = amount r in
    let e : take n (take (n + total rs) us) ≡ take n us = take-take n (n + total rs) us (omega arith) in
    let f : drop n (take (n + total rs) us) ≡ take (total rs) (drop n us) = taken_dropped n (total rs) us in
    let g : leaves rs (drop n us) ≡ leaves rs (drop n (take (n + total rs) us)) = leaves_within rs (drop n us) ∙ ap (leaves rs) (sym f) in
    ap (λ (t : List ℕ). leaf_with r t ∷ leaves rs (drop n us)) (sym e) ∙ ap (λ (ls : List Leaf). leaf_at r (take (n + total rs) us) ∷ ls) g

pub leaves_agree : (rs : List (List ℕ)) (us vs : List ℕ) → take (total rs) us ≡ take (total rs) vs → leaves rs us ≡ leaves rs vs
leaves_agree rs us vs e = leaves_within rs us ∙ ap (leaves rs) e ∙ sym (leaves_within rs vs)

pub leaves_append : (rs ss : List (List ℕ)) (us : List ℕ) → leaves (rs ++ ss) us ≡ leaves rs us ++ leaves ss (drop (total rs) us)
unfolding leaves total
leaves_append [] ss us = refl
leaves_append (r ∷ rs) ss us =
    ap (λ (ls : List Leaf). leaf_at r us ∷ ls)
    (leaves_append rs ss (drop (amount r) us) ∙ ap (λ (t : List ℕ). leaves rs (drop (amount r) us) ++ leaves ss t) (drop-drop (total rs) (amount r) us))

pub leaves_more : (a : List (List ℕ)) (i : ℕ) (us : List ℕ) → i < length a
    → leaves (take (i + 1) a) us ≡ leaves (take i a) us ++ leaf_at (get_or a i []) (drop (total (take i a)) us) ∷ []
unfolding leaves
leaves_more a i us h = rw (taken_more a i [] h) (leaves_append (take i a) (get_or a i [] ∷ []) us)

pub length_leaves : (rs : List (List ℕ)) (us : List ℕ) → length (leaves rs us) ≡ length rs
unfolding leaves
length_leaves [] us = refl
length_leaves (r ∷ rs) us = ap suc (length_leaves rs (drop (amount r) us))

pub few_append : (rs : List (List ℕ)) (r : List ℕ) → Few rs → amount r ≤ most_universes → Few (rs ++ r ∷ [])
few_append [] r f h = (h, tt)
few_append (x ∷ rs) r f h = (f.0, few_append rs r f.1 h)

-- a page put behind those kept: rows A, pool B with w pages kept before it; the row r and its universes v
module _ (A : List (List ℕ)) (B B' v : List ℕ) (w to k : ℕ) (r : List ℕ) (wA : w < length A) (toA : to ≡ total (take w A)) (toB : to ≤ length B) where
  pub page_pushed : amount r ≡ k → take (to + k) B' ≡ take to B ++ take k v
      → leaves (take (w + 1) (set A w r)) B' ≡ leaves (take w A) B ++ leaf_at r v ∷ []
  unfolding leaves
  page_pushed e m =
      let n : length (take to B) ≡ to = omega (arith, length-take to B) in
      let x : take to B' ≡ take to B = sym (take-take to (to + k) B' (omega arith)) ∙ ap (take to) m ∙ take_at (take to B) (take k v) to n in
      let y : take k (drop to B') ≡ take k v = sym (taken_dropped to k B') ∙ ap (drop to) m ∙ drop_at (take to B) (take k v) to n in
      let z : leaves (take w A) B' ≡ leaves (take w A) B = leaves_agree (take w A) B' B (rw (← toA) x) in
      let u : take (amount r) (drop (total (take w A)) B') ≡ take (amount r) v = rw (e, ← toA) y in
      let q : take (w + 1) (set A w r) ≡ take w A ++ r ∷ [] = rw add-one (take-suc-set A w r wA) in
      ap (λ (rs : List (List ℕ)). leaves rs B') q
      ∙ leaves_append (take w A) (r ∷ []) B'
      ∙ ap (λ (ls : List Leaf). ls ++ leaf_at r (drop (total (take w A)) B') ∷ []) z
      ∙ ap (λ (t : List ℕ). leaves (take w A) B ++ leaf_with r t ∷ []) u

pub total_pushed : (A : List (List ℕ)) (w : ℕ) (r : List ℕ) → w < length A → total (take (w + 1) (set A w r)) ≡ total (take w A) + amount r
unfolding total
total_pushed A w r h = rw (add-one, take-suc-set A w r h) (omega (arith, total_append (take w A) (r ∷ [])))

pub few_pushed : (A : List (List ℕ)) (w : ℕ) (r : List ℕ) → w < length A → Few (take w A) → amount r ≤ most_universes → Few (take (w + 1) (set A w r))
few_pushed A w r h f k = rw (add-one, take-suc-set A w r h) (few_append (take w A) r f k)

-- ── what code over the pages asks, and what it leaves ──
pub record Packing (count : ℕ) (pages : List (List ℕ)) (universes : List ℕ) : Type 0 where
  pub rows : length pages ≡ capacity
  pub within : count ≤ capacity
  pub few : Few (take count pages)
  pub pool : pool_length ≤ length universes

-- pages and pool after a pass: packed again, with these leaves
pub record Packs (count used : ℕ) (lent_pool : List ℕ) (pages : List (List ℕ)) (universes : List ℕ) (ls : List Leaf) : Type 0 where
  pub packing : Packing count pages universes
  pub filled : used ≡ total (take count pages)
  pub lent : Lent lent_pool universes
  pub leaves_are : leaves (take count pages) universes ≡ ls

-- ── a pass over the pages ──
-- A₀, B₀ are rows and pool as they were, A, B as they are. i pages are passed and kept ones stand in front; image is what they are to be.
pub record Pass (count : ℕ) (A₀ : List (List ℕ)) (B₀ : List ℕ) (image : List Leaf) (A : List (List ℕ)) (B : List ℕ) (kept to from i : ℕ) : Type 0 where
  pub looked : i ≤ count
  pub lower : kept ≤ i
  pub below : to ≤ from
  pub rows : length A ≡ capacity
  pub pool : length B ≡ length B₀
  pub to_total : to ≡ total (take kept A)
  pub from_total : from ≡ total (take i A₀)
  pub few : Few (take kept A)
  pub image_is : leaves (take kept A) B ≡ image
  pub rest_rows : drop i A ≡ drop i A₀
  pub rest_pool : drop from B ≡ drop from B₀

pub few_less : (j n : ℕ) (a : List (List ℕ)) → j ≤ n → Few (take n a) → Few (take j a)
few_less zero n a h f = tt
few_less (suc j) n [] h f = tt
few_less (suc j) zero (r ∷ a) h f = absurd (omega arith)
few_less (suc j) (suc n) (r ∷ a) h f = (f.0, few_less j n a (omega arith) f.1)

module _ (count : ℕ) (A₀ : List (List ℕ)) (B₀ : List ℕ) (g : Packing count A₀ B₀) where
  pub pass_start : Pass count A₀ B₀ [] A₀ B₀ 0 0 0 0
  unfolding total leaves
  pass_start = record {
    looked = omega arith;
    lower = omega arith;
    below = omega arith;
    rows = g.rows;
    pool = refl;
    to_total = refl;
    from_total = refl;
    few = tt;
    image_is = refl;
    rest_rows = refl;
    rest_pool = refl;
  }

  module _ (image : List Leaf) (A : List (List ℕ)) (B : List ℕ) (kept to from i : ℕ) (p : Pass count A₀ B₀ image A B kept to from i) (h : i < count) where
    pub pass_row : get_or A i [] ≡ get_or A₀ i []
    pass_row = read_first A A₀ i [] p.rest_rows

    pass_within : i < length A₀
    pass_within = let l : length A₀ ≡ capacity = g.rows in let m : count ≤ capacity = g.within in omega arith

    pub pass_few : amount (get_or A i []) ≤ most_universes
    pass_few = rw pass_row (few_at A₀ count i g.few h pass_within)

    pass_total : from + amount (get_or A i []) ≡ total (take (i + 1) A₀)
    pass_total = rw pass_row (omega (arith, total_more A₀ i pass_within, p.from_total))

    pub pass_room : from + amount (get_or A i []) ≤ pool_length
    pass_room =
        let l : length A₀ ≡ capacity = g.rows in
        omega (arith, pass_total, total_few (take (i + 1) A₀) (few_less (i + 1) count A₀ (omega arith) g.few), length-take (i + 1) A₀)

    -- the page goes
    pub pass_skip : (image' : List Leaf) → image' ≡ image → Pass count A₀ B₀ image' A B kept to (from + amount (get_or A i [])) (i + 1)
    pass_skip image' e =
        let x : kept ≤ i = p.lower in
        let y : to ≤ from = p.below in
        record {
          looked = omega arith;
          lower = omega arith;
          below = omega arith;
          rows = p.rows;
          pool = p.pool;
          to_total = p.to_total;
          from_total = pass_total;
          few = p.few;
          image_is = p.image_is ∙ sym e;
          rest_rows = further_read A A₀ i p.rest_rows;
          rest_pool = dropped_both from (amount (get_or A i [])) B B₀ p.rest_pool;
        }

    -- or another stands for it, with k universes, the first k of v
    pub pass_put : (image' : List Leaf) (r : List ℕ) (B' v : List ℕ) (k : ℕ) → amount r ≡ k → k ≤ amount (get_or A i [])
        → length B' ≡ length B → take (to + k) B' ≡ take to B ++ take k v
        → drop (from + amount (get_or A i [])) B' ≡ drop (from + amount (get_or A i [])) B → image' ≡ image ++ leaf_at r v ∷ []
        → Pass count A₀ B₀ image' (set A kept r) B' (kept + 1) (to + k) (from + amount (get_or A i [])) (i + 1)
    pass_put image' r B' v k a l m t d e =
        let x : kept ≤ i = p.lower in
        let y : to ≤ from = p.below in
        let z : length A ≡ capacity = p.rows in
        let q : length B ≡ length B₀ = p.pool in
        let b : pool_length ≤ length B₀ = g.pool in
        let c : count ≤ capacity = g.within in
        let w : kept < length A = omega arith in
        record {
          looked = omega arith;
          lower = omega arith;
          below = omega arith;
          rows = length-set A kept r ∙ z;
          pool = m ∙ q;
          to_total = omega (arith, total_pushed A kept r w, p.to_total, a);
          from_total = pass_total;
          few = few_pushed A kept r w p.few (omega (arith, a, pass_few));
          image_is = page_pushed A B B' v kept to k r w p.to_total (omega (arith, pass_room)) a t ∙ ap (λ (ls : List Leaf). ls ++ leaf_at r v ∷ []) p.image_is ∙ sym e;
          rest_rows = further A A₀ kept i r x p.rest_rows;
          rest_pool = d ∙ dropped_both from (amount (get_or A i [])) B B₀ p.rest_pool;
        }

  pub pass_end : (image : List Leaf) (A : List (List ℕ)) (B : List ℕ) (kept to from i : ℕ) → Pass count A₀ B₀ image A B kept to from i → Packs kept to B₀ A B image
  pass_end image A B kept to from i p =
      let x : kept ≤ i = p.lower in
      let y : i ≤ count = p.looked in
      let c : count ≤ capacity = g.within in
      let q : length B ≡ length B₀ = p.pool in
      let b : pool_length ≤ length B₀ = g.pool in
      let h : from ≤ pool_length = omega (arith, p.from_total, total_few (take i A₀) (few_less i count A₀ y g.few), length-take i A₀, g.rows) in
      record {
        packing = record { rows = p.rows; within = omega arith; few = p.few; pool = omega arith };
        filled = p.to_total;
        lent = record { pool_same = q; beyond = dropped_past from pool_length B B₀ h p.rest_pool };
        leaves_are = p.image_is;
      }

-- ── what a pass makes of the leaves ──
module _ (A₀ : List (List ℕ)) (B₀ : List ℕ) (i from : ℕ) (h : i < length A₀) (e : from ≡ total (take i A₀)) where
  leaf_next : leaves (take (i + 1) A₀) B₀ ≡ leaves (take i A₀) B₀ ++ leaf_at (get_or A₀ i []) (drop from B₀) ∷ []
  leaf_next = leaves_more A₀ i B₀ h ∙ ap (λ (k : ℕ). leaves (take i A₀) B₀ ++ leaf_at (get_or A₀ i []) (drop k B₀) ∷ []) (sym e)

  module _ (m : ℕ) (c : Cid) where
    pub image_gone : owned m c (get_or A₀ i []) ≡ true
        → keep (λ l. not (held_by m c l)) (leaves (take (i + 1) A₀) B₀) ≡ keep (λ l. not (held_by m c l)) (leaves (take i A₀) B₀)
    image_gone t = rw (leaf_next, keep_more (λ l. not (held_by m c l)) (leaves (take i A₀) B₀) (leaf_at (get_or A₀ i []) (drop from B₀)), t) (append-nil _)

    pub image_kept : owned m c (get_or A₀ i []) ≡ false
        → keep (λ l. not (held_by m c l)) (leaves (take (i + 1) A₀) B₀) ≡ keep (λ l. not (held_by m c l)) (leaves (take i A₀) B₀) ++ leaf_at (get_or A₀ i []) (drop from B₀) ∷ []
    image_kept t = rw (leaf_next, keep_more (λ l. not (held_by m c l)) (leaves (take i A₀) B₀) (leaf_at (get_or A₀ i []) (drop from B₀)), t)

  module _ (c : Cid) (u : ℕ) where
    image_cut : map (cut_leaf c u) (leaves (take (i + 1) A₀) B₀) ≡ map (cut_leaf c u) (leaves (take i A₀) B₀) ++ cut_leaf c u (leaf_at (get_or A₀ i []) (drop from B₀)) ∷ []
    image_cut = rw leaf_next (append_map (cut_leaf c u) (leaves (take i A₀) B₀) (leaf_at (get_or A₀ i []) (drop from B₀) ∷ []))

    pub image_whole : owned 1 c (get_or A₀ i []) ≡ false
        → map (cut_leaf c u) (leaves (take (i + 1) A₀) B₀) ≡ map (cut_leaf c u) (leaves (take i A₀) B₀) ++ leaf_at (get_or A₀ i []) (drop from B₀) ∷ []
    image_whole t = image_cut ∙ ap (λ (l : Leaf). map (cut_leaf c u) (leaves (take i A₀) B₀) ++ l ∷ []) whole
      where
        whole : cut_leaf c u (leaf_at (get_or A₀ i []) (drop from B₀)) ≡ leaf_at (get_or A₀ i []) (drop from B₀)
        whole = rw t

    -- a cut page, with v for its universes
    pub image_less : (v : List ℕ) (k : ℕ) → owned 1 c (get_or A₀ i []) ≡ true → v ≡ keep (λ x. not (eqb x u)) (take (amount (get_or A₀ i [])) (drop from B₀)) → k ≡ length v
        → map (cut_leaf c u) (leaves (take (i + 1) A₀) B₀)
        ≡ map (cut_leaf c u) (leaves (take i A₀) B₀)
        ++ leaf_at (get_or (get_or A₀ i []) 0 0 ∷ get_or (get_or A₀ i []) 1 0 ∷ get_or (get_or A₀ i []) 2 0 ∷ get_or (get_or A₀ i []) 3 0 ∷ k ∷ []) v ∷ []
    unfolding cut_page
    image_less v k t f g = image_cut ∙ ap (λ (l : Leaf). map (cut_leaf c u) (leaves (take i A₀) B₀) ++ l ∷ []) (cut_at ∙ shorter)
      where
        cut_at : cut_leaf c u (leaf_at (get_or A₀ i []) (drop from B₀)) ≡ leaf_with (get_or A₀ i []) v
        cut_at = rw (t, f)

        shorter : leaf_with (get_or A₀ i []) v ≡ leaf_with (get_or A₀ i []) (take k v)
        shorter = ap (leaf_with (get_or A₀ i [])) (sym (take_all k v (omega (arith, g))))
