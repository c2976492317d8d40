-- What the code's steps on rows and pool make of heads and leaves, with all that is presupposed kept.
-- Assumes nothing.
use Rattle.std.specs.Prelude.{◌≡◌, refl, Bool, true, false, ◌&&◌, ℕ, zero, suc, ◌+◌, ◌-◌, ◌≤◌, ◌<◌, leb, get_or, set}
use Rattle.std.proofs.Math.Path.{sym, ap}
use Rattle.std.proofs.Common.{subst, ◌∙◌, arith, length-take, length-set, take-take, take_at, drop_at, drop-drop, leb-true}
use Rattle.std.proofs.Math.Bool.{not}
use mathlib.Core.List.{List, [], ◌∷◌, ◌++◌}
use Rattle.std.proofs.Math.ListN.{length, take, drop}
use Rattle.laws.specs.Cases.{split, clash}
use Rattle.laws.specs.Place.{prefix, insert_at}
use Rattle.laws.specs.Arrays.{spent, laid}
use Rattle.rules.specs.declared.Cid.{Cid}
use Rattle.discovery.specs.Discovery.{Rising, most_universes, capacity, pool_length}
use Rattle.discovery_rows.specs.Store.{Leaf, pages_at}
use Rattle.discovery_rows.specs.Rows.{owned, leaf_at, leaves, total, amount, Few, larger, total_append}
use Rattle.discovery_rows.specs.Walks.{place_within}
use Rattle.discovery_pages.specs.Leaves.{behind, place_last}
use Rattle.discovery_pages.specs.Pool.{dropped_past}
use Rattle.discovery_pages.specs.Passes.{leaf_with, Packing, Packs, leaves_agree, leaves_append, leaves_more, length_leaves, taken_dropped, total_few}

-- a partial page row of the CID with no larger number
abbrev pub no_larger : Cid → ℕ → List ℕ → Bool
no_larger c n r = owned 0 c r && leb (get_or r 3 0) n

-- ── one page more for a partial source ──
leaves_prefix : (c : Cid) (n : ℕ) (rs : List (List ℕ)) (us : List ℕ) → prefix (behind 0 c n) (leaves rs us) ≡ prefix (λ r. not (larger c n r)) rs
unfolding leaves prefix
leaves_prefix c n [] us = refl
leaves_prefix c n (r ∷ rs) us = rw (leaves_prefix c n rs (drop (amount r) us))

pub leaves_take : (i : ℕ) (rs : List (List ℕ)) (us : List ℕ) → take i (leaves rs us) ≡ leaves (take i rs) us
unfolding leaves
leaves_take zero rs us = refl
leaves_take (suc i) [] us = refl
leaves_take (suc i) (r ∷ rs) us = ap (λ (ls : List Leaf). leaf_at r us ∷ ls) (leaves_take i rs (drop (amount r) us))

pub leaves_drop : (i : ℕ) (rs : List (List ℕ)) (us : List ℕ) → drop i (leaves rs us) ≡ leaves (drop i rs) (drop (total (take i rs)) us)
unfolding leaves total
leaves_drop zero rs us = refl
leaves_drop (suc i) [] us = refl
leaves_drop (suc i) (r ∷ rs) us = leaves_drop i rs (drop (amount r) us) ∙ ap (leaves (drop i rs)) (drop-drop (total (take i rs)) (amount r) us)

total_parts : (i : ℕ) (rs : List (List ℕ)) → total (take i rs) + total (drop i rs) ≡ total rs
unfolding total
total_parts zero rs = omega arith
total_parts (suc i) [] = refl
total_parts (suc i) (r ∷ rs) = omega (arith, total_parts i rs)

total_insert : (i : ℕ) (r : List ℕ) (rs : List (List ℕ)) → total (insert_at i r rs) ≡ total rs + amount r
unfolding total
total_insert i r rs = omega (arith, total_append (take i rs) (r ∷ drop i rs), total_parts i rs)

few_insert : (i : ℕ) (r : List ℕ) (rs : List (List ℕ)) → Few rs → amount r ≤ most_universes → Few (insert_at i r rs)
few_insert zero r rs f h = (h, f)
few_insert (suc i) r [] f h = (h, tt)
few_insert (suc i) r (x ∷ rs) f h = (f.0, few_insert i r rs f.1 h)

-- where a page's universes begin is within those in use
pub offset_inside : (at count : ℕ) (P : List (List ℕ)) → at ≤ count → total (take at P) ≤ total (take count P)
offset_inside at count P h = rw (← (take-take at count P h)) (omega (arith, total_parts at (take count P)))

-- there is room for one page more
pub pool_small : (count : ℕ) (P : List (List ℕ)) (U : List ℕ) (n : ℕ) → Packing count P U → count < capacity → n ≤ most_universes → total (take count P) + n ≤ pool_length
pool_small count P U n g h k =
    let r : length P ≡ capacity = g.rows in
    omega (arith, total_few (take count P) g.few, length-take count P)

pub pool_room : (count : ℕ) (P : List (List ℕ)) (U : List ℕ) (n : ℕ) → Packing count P U → count < capacity → n ≤ most_universes → total (take count P) + n ≤ length U
pool_room count P U n g h k = let b : pool_length ≤ length U = g.pool in omega (arith, pool_small count P U n g h k)

-- ── one page more, in its place ──
module _ (count used : ℕ) (P P' : List (List ℕ)) (U U₁ U₂ : List ℕ) (c : Cid) (n : ℕ) (l : List ℕ) (at begin : ℕ)
    (g : Packing count P U) (filled : used ≡ total (take count P)) (room : count < capacity) (short : length l ≤ most_universes)
    (place : at ≡ prefix (λ r. not (larger c n r)) (take count P)) (start : begin ≡ total (take at P)) (p64 : length P' ≡ capacity)
    (rows : take (count + 1) P' ≡ insert_at at (0 ∷ c.hi ∷ c.lo ∷ n ∷ length l ∷ []) (take count P))
    (len₁ : length U₁ ≡ length U) (len₂ : length U₂ ≡ length U₁)
    (before : take begin U₁ ≡ take begin U) (behind_it : drop (begin + length l) (take (used + length l) U₁) ≡ drop begin (take used U))
    (written : take (begin + length l) U₂ ≡ take begin U₁ ++ l) (rest : drop (begin + length l) U₂ ≡ drop (begin + length l) U₁)
    (past : drop (used + length l) U₁ ≡ drop (used + length l) U) where
  row : List ℕ
  row = 0 ∷ c.hi ∷ c.lo ∷ n ∷ length l ∷ []

  rs : List (List ℕ)
  rs = take count P

  start' : begin ≡ total (take at rs)
  unfolding rs
  start' =
      start
      ∙ ap total (sym (take-take at count P (omega (arith, place, place_within (λ r. not (larger c n r)) count P))))

  -- begin stands within the pool in use
  inside : begin ≤ used
  unfolding rs
  inside = omega (arith, start', total_parts at (take count P), filled)

  pool : used + length l ≤ length U
  pool = omega (arith, filled, pool_room count P U (length l) g room short)

  len_begin : length (take begin U₁) ≡ begin
  len_begin = omega (arith, length-take begin U₁, inside, pool)

  front : leaves (take at rs) U₂ ≡ leaves (take at rs) U
  front =
      let a : take begin U₂ ≡ take begin U =
      sym (take-take begin (begin + length l) U₂ (omega arith)) ∙ ap (take begin) written ∙ take_at (take begin U₁) l begin len_begin ∙ before in
      leaves_agree (take at rs) U₂ U (rw (← start') a)

  middle : take (length l) (drop begin U₂) ≡ l
  middle = sym (taken_dropped begin (length l) U₂) ∙ ap (drop begin) written ∙ drop_at (take begin U₁) l begin len_begin

  back : leaves (drop at rs) (drop (begin + length l) U₂) ≡ leaves (drop at rs) (drop begin U)
  unfolding rs
  back =
      let k = used - begin in
      let e : total (drop at (take count P)) ≡ k = omega (arith, start', total_parts at (take count P), filled) in
      let x : begin + length l + k ≡ used + length l = omega (arith, inside) in
      let y : begin + k ≡ used = omega (arith, inside) in
      let u : drop (begin + length l) (take (begin + length l + k) U₁) ≡ drop begin (take (begin + k) U) = rw (x, y) behind_it in
      let v : take k (drop (begin + length l) U₂) ≡ take k (drop begin U) =
      ap (take k) rest ∙ sym (taken_dropped (begin + length l) k U₁) ∙ u ∙ taken_dropped begin k U in
      leaves_agree (drop at (take count P)) (drop (begin + length l) U₂) (drop begin U) (rw e v)

  pub page_inserted : Packs (count + 1) (used + length l) U P' U₂
      (insert_at (prefix (behind 0 c n) (leaves (take count P) U)) (record { mark = 0; cid = c; page = record { number = n; universes = l } }) (leaves (take count P) U))
  unfolding leaves row rs
  page_inserted =
      let w : count ≤ capacity = g.within in
      let b : pool_length ≤ length U = g.pool in
      let small : used + length l ≤ pool_length = omega (arith, filled, pool_small count P U (length l) g room short) in
      let ls = leaves (take count P) U in
      let new : Leaf = record { mark = 0; cid = c; page = record { number = n; universes = l } } in
      let q : at ≡ prefix (behind 0 c n) ls = place ∙ sym (leaves_prefix c n (take count P) U) in
      let x : leaves (insert_at at row rs) U₂ ≡ leaves (take at rs) U₂ ++ leaf_at row (drop begin U₂) ∷ leaves (drop at rs) (drop (begin + length l) U₂) =
      leaves_append (take at rs) (row ∷ drop at rs) U₂
      ∙ ap (λ (k : ℕ). leaves (take at rs) U₂ ++ leaf_at row (drop k U₂) ∷ leaves (drop at rs) (drop (length l) (drop k U₂))) (sym start')
      ∙ ap (λ (us : List ℕ). leaves (take at rs) U₂ ++ leaf_at row (drop begin U₂) ∷ leaves (drop at rs) us) (drop-drop (length l) begin U₂) in
      let y : leaf_at row (drop begin U₂) ≡ new = ap (leaf_with row) middle in
      let z : leaves (take at rs) U₂ ++ leaf_at row (drop begin U₂) ∷ leaves (drop at rs) (drop (begin + length l) U₂) ≡ insert_at at new ls =
      ap (λ (k : List Leaf). k ++ leaf_at row (drop begin U₂) ∷ leaves (drop at rs) (drop (begin + length l) U₂)) (front ∙ sym (leaves_take at rs U))
      ∙ ap (λ (k : Leaf). take at ls ++ k ∷ leaves (drop at rs) (drop (begin + length l) U₂)) y
      ∙ ap (λ (k : List Leaf). take at ls ++ new ∷ k) (back ∙ ap (λ (k : ℕ). leaves (drop at rs) (drop k U)) start' ∙ sym (leaves_drop at rs U)) in
      record {
        packing = record {
          rows = p64;
          within = omega arith;
          few = rw rows (few_insert at row rs g.few short);
          pool = omega (arith, len₁, len₂);
        };
        filled = omega (arith, ap total rows, total_insert at row rs, filled);
        lent = record {
          pool_same = len₂ ∙ len₁;
          beyond = dropped_past (begin + length l) pool_length U₂ U₁ (omega (arith, small, inside)) rest ∙ dropped_past (used + length l) pool_length U₁ U (omega (arith, small)) past;
        };
        leaves_are = ap (λ (k : List (List ℕ)). leaves k U₂) rows ∙ x ∙ z ∙ ap (λ (k : ℕ). insert_at k new ls) q;
      }

-- ── one page more, behind all others ──
module _ (count used : ℕ) (P : List (List ℕ)) (U U₂ : List ℕ) (c : Cid) (n : ℕ) (l : List ℕ)
    (g : Packing count P U) (filled : used ≡ total (take count P)) (some : 0 < count) (room : count < capacity) (short : length l ≤ most_universes)
    (order : Rising (pages_at 0 (leaves (take count P) U) c)) (last : no_larger c n (get_or P (count - 1) []) ≡ true)
    (len : length U₂ ≡ length U) (written : take (used + length l) U₂ ≡ take used U ++ l) (rest : drop (used + length l) U₂ ≡ drop (used + length l) U) where
  last_own : owned 0 c (get_or P (count - 1) []) ≡ true
  last_own = split (owned 0 c (get_or P (count - 1) [])) (λ e. e) (λ e. let z : false ≡ true = rw e at last in clash z refl)

  last_number : get_or (get_or P (count - 1) []) 3 0 ≤ n
  last_number = leb-true (get_or (get_or P (count - 1) []) 3 0) n (rw last_own at last)

  place_end : count ≡ prefix (λ r. not (larger c n r)) (take count P)
  place_end =
      let i = count - 1 in
      let r : length P ≡ capacity = g.rows in
      let e : i + 1 ≡ count = omega arith in
      let k : i < length P = omega arith in
      let x : Leaf = leaf_at (get_or P i []) (drop (total (take i P)) U) in
      let m : leaves (take count P) U ≡ leaves (take i P) U ++ x ∷ [] = rw e at (leaves_more P i U k) in
      let q : prefix (behind 0 c n) (leaves (take i P) U ++ x ∷ []) ≡ suc (length (leaves (take i P) U)) =
      place_last 0 c x last_own n (leaves (take i P) U) last_number (subst (λ (ls : List Leaf). Rising (pages_at 0 ls c)) m order) in
      omega (
        arith,
        q,
        ap (λ (ls : List Leaf). prefix (behind 0 c n) ls) m,
        leaves_prefix c n (take count P) U,
        length_leaves (take i P) U,
        length-take i P,
      )

  pub page_appended : Packs (count + 1) (used + length l) U (set P count (0 ∷ c.hi ∷ c.lo ∷ n ∷ length l ∷ [])) U₂
      (insert_at (prefix (behind 0 c n) (leaves (take count P) U)) (record { mark = 0; cid = c; page = record { number = n; universes = l } }) (leaves (take count P) U))
  page_appended =
      let r : length P ≡ capacity = g.rows in
      let row : List ℕ = 0 ∷ c.hi ∷ c.lo ∷ n ∷ length l ∷ [] in
      let rows : take (count + 1) (set P count row) ≡ insert_at count row (take count P) =
      laid P count row (omega arith) ∙ ap (λ (t : List (List ℕ)). t ++ row ∷ drop count (take count P)) (sym (take-take count count P (omega arith))) in
      let gap : drop (used + length l) (take (used + length l) U) ≡ drop used (take used U) =
      spent U (used + length l) (used + length l) (omega arith) ∙ sym (spent U used used (omega arith)) in
      page_inserted count used P (set P count row) U U U₂ c n l count used
      g filled room short place_end filled (length-set P count row ∙ r) rows refl len refl gap written rest refl
