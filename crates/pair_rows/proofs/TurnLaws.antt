-- Laws of a turn and of the end: of two orders one after the other, of a walk, of the least reading.
-- Assumes nothing.
use Rattle.std.specs.Prelude.{◌≡◌, Bool, true, false, ℕ, ◌+◌, ◌<◌, min, length, take, drop, get_or}
use Rattle.std.proofs.Common.{arith}
use mathlib.Core.List.{List, [], map}
use Rattle.laws.specs.Order.{before_by}
use Rattle.laws.specs.Place.{prefix}
use Rattle.laws.specs.Arrays.{next}
use Rattle.pair_rows.specs.View.{Rows, pair_of, lower}

-- ── two orders one after the other, by the tests in turn ──
module _ {K X Y : Type 0} (ltx : X → X → Bool) (lty : Y → Y → Bool) (first : K → X) (second : K → Y) (a b : K) where
  pub by_first : ltx (first a) (first b) ≡ true → before_by ltx lty first second a b ≡ true
  unfolding before_by
  by_first e = rw e

  pub by_first_not : ltx (first a) (first b) ≡ false → ltx (first b) (first a) ≡ true → before_by ltx lty first second a b ≡ false
  unfolding before_by
  by_first_not e f = rw (e, f)

  pub by_second : ltx (first a) (first b) ≡ false → ltx (first b) (first a) ≡ false → before_by ltx lty first second a b ≡ lty (second a) (second b)
  unfolding before_by
  by_second e f = rw (e, f)

-- a walk that has come to the end
pub prefix_done : {A : Type 0} (p : A → Bool) (i : ℕ) (l : List A) → l ≡ [] → i + prefix p l ≡ i
unfolding prefix
prefix_done p i l e = rw e (omega arith)

-- ── readings ──
module _ (rows : Rows) (n i o : ℕ) where
  pub lower_next : (l : ℕ) → i < n → i < length rows → l ≡ min o (pair_of (get_or rows i [])).reading
      → lower l (map pair_of (drop (i + 1) (take n rows))) ≡ lower o (map pair_of (drop i (take n rows)))
  unfolding lower
  lower_next l h f e = rw (next rows n i [] h f, e)

  pub lower_done : drop i (take n rows) ≡ [] → lower o (map pair_of (drop i (take n rows))) ≡ o
  unfolding lower
  lower_done e = rw e
