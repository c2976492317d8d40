-- What finding a row says, and the rows in use after a store or a removal: one law for each.
-- Assumes nothing.
use Rattle.std.specs.Prelude.{◌≡◌, refl, Bool, List, [], map, ℕ, ◌+◌, ◌-◌, ◌<◌, take, get_or, set, Some, None}
use Rattle.std.proofs.Common.{sym, ap, ◌∙◌, arith, length-take, get_or-take}
use Rattle.std.proofs.Math.Option.{Option, none, some}
use Rattle.std.proofs.lemmas.List.{length-map}
use Rattle.laws.specs.Order.{Order}
use Rattle.laws.specs.Table.{find, store, remove}
use Rattle.laws.specs.Place.{place, insert_at, remove_at, store_insert, store_replace, remove_place, insert_at_map, remove_at_map, set_map, get_d_map, found_place}
use Rattle.laws.specs.Arrays.{replace}
use Rattle.pair_rows.specs.View.{Rows, placed}

-- ── what finding says ──
pub placed_at : {A : Type 0} (j i : ℕ) (o : Option A) → placed j o ≡ Some i → (a : A) × (o ≡ some a) × (j ≡ i)
placed_at j i none e = let z : ◌≡◌ {A = ℕ} 0 1 = cc in absurd (omega arith)
placed_at j i (some a) e = (a, refl, (cc))

pub placed_nothing : {A : Type 0} (j : ℕ) (o : Option A) → placed j o ≡ None → o ≡ none
placed_nothing j none e = refl
placed_nothing j (some a) e = let z : ◌≡◌ {A = ℕ} 0 1 = cc in absurd (omega arith)

-- ── the rows in use after a store or a removal, for entries of any kind ──
module _ {K E : Type 0} (lt : K → K → Bool) (key : E → K) (O : Order lt) (f : List ℕ → E) (n : ℕ) (rows : Rows) where
  -- a place that was found is in use
  pub found_inside : (k : K) (x : E) (i : ℕ) → find lt key k (map f (take n rows)) ≡ some x → place lt key k (map f (take n rows)) ≡ i → i < n
  found_inside k x i h e =
      let g = found_place lt key O k (map f (take n rows)) x (f []) h in
      omega (arith, g.0, length-map (take n rows) f, length-take n rows)

  -- and holds what was found
  pub found_read : (k : K) (x : E) (i : ℕ) → find lt key k (map f (take n rows)) ≡ some x → place lt key k (map f (take n rows)) ≡ i → f (get_or rows i []) ≡ x
  found_read k x i h e =
      let g = found_place lt key O k (map f (take n rows)) x (f []) h in
      sym (ap f (get_or-take n rows i [] (found_inside k x i h e))) ∙ sym (get_d_map f (take n rows) i []) ∙ ap (λ (j : ℕ). get_or (map f (take n rows)) j (f [])) (sym e) ∙ g.1

  pub rows_inserted : (v : List ℕ) (y : E) (i : ℕ) (after : Rows) → f v ≡ y → find lt key (key y) (map f (take n rows)) ≡ none → i ≡ place lt key (key y) (map f (take n rows))
      → take (n + 1) after ≡ insert_at i v (take n rows) → map f (take (n + 1) after) ≡ store lt key y (map f (take n rows))
  rows_inserted v y i after w h e t =
      ap (map f) t ∙ insert_at_map f i v (take n rows) ∙ ap (λ (z : E). insert_at i z (map f (take n rows))) w ∙ ap (λ (j : ℕ). insert_at j y (map f (take n rows))) e
      ∙ sym (store_insert lt key O (key y) (map f (take n rows)) y refl h)

  pub rows_replaced : (v : List ℕ) (y x : E) (i : ℕ) → f v ≡ y → find lt key (key y) (map f (take n rows)) ≡ some x → place lt key (key y) (map f (take n rows)) ≡ i
      → map f (take n (set rows i v)) ≡ store lt key y (map f (take n rows))
  rows_replaced v y x i w h e =
      ap (map f) (replace rows n i v) ∙ set_map f (take n rows) i v ∙ ap (λ (z : E). set (map f (take n rows)) i z) w ∙ ap (λ (j : ℕ). set (map f (take n rows)) j y) (sym e)
      ∙ sym (store_replace lt key O (key y) (map f (take n rows)) y x refl h)

  pub rows_removed : (k : K) (x : E) (i : ℕ) (after : Rows) → find lt key k (map f (take n rows)) ≡ some x → place lt key k (map f (take n rows)) ≡ i
      → take (n - 1) after ≡ remove_at i (take n rows) → map f (take (n - 1) after) ≡ remove lt key k (map f (take n rows))
  rows_removed k x i after h e t =
      ap (map f) t ∙ remove_at_map f i (take n rows) ∙ ap (λ (j : ℕ). remove_at j (map f (take n rows))) (sym e)
      ∙ sym (remove_place lt key O k (map f (take n rows)) x h)
