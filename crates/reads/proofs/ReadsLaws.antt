-- A list's entries, and its numbers, where its rows lie.
-- Assumes nothing.
use Rattle.std.specs.Prelude.{◌≡◌, refl, List, [], ◌∷◌, map, ℕ, zero, suc, ◌≤◌, ◌<◌, length, take, get_or}
use Rattle.std.proofs.Common.{ap, ◌∙◌, arith, length-take, get_or-take}
use Rattle.laws.specs.Place.{get_d_map}

-- ── entries ──
past_end : {A : Type 0} (l : List A) (i : ℕ) (d : A) → length l ≤ i → get_or l i d ≡ d
past_end [] i d h = refl
past_end (x ∷ l) zero d h = absurd (omega arith)
past_end (x ∷ l) (suc i) d h = past_end l i d (omega arith)

module _ {A B : Type 0} (f : A → B) (n i : ℕ) (rows : List A) (d : A) where
  pub entry_at : i < n → get_or (map f (take n rows)) i (f d) ≡ f (get_or rows i d)
  entry_at h = get_d_map f (take n rows) i d ∙ ap f (get_or-take n rows i d h)

  pub entry_past : length (take n rows) ≤ i → get_or (map f (take n rows)) i (f d) ≡ f d
  entry_past h = get_d_map f (take n rows) i d ∙ ap f (past_end (take n rows) i d h)

  -- fewer are in use, or fewer are there
  pub none_in_use : n ≤ i → get_or (map f (take n rows)) i (f d) ≡ f d
  none_in_use h = entry_past (omega (arith, length-take n rows))

  pub none_there : length rows ≤ i → get_or (map f (take n rows)) i (f d) ≡ f d
  none_there h = entry_past (omega (arith, length-take n rows))

-- ── numbers as they stand ──
module _ (n i : ℕ) (rows : List ℕ) where
  pub number_at : i < n → get_or (take n rows) i 0 ≡ get_or rows i 0
  number_at h = get_or-take n rows i 0 h

  pub number_unused : n ≤ i → get_or (take n rows) i 0 ≡ 0
  number_unused h = past_end (take n rows) i 0 (omega (arith, length-take n rows))

  pub number_absent : length rows ≤ i → get_or (take n rows) i 0 ≡ 0
  number_absent h = past_end (take n rows) i 0 (omega (arith, length-take n rows))
