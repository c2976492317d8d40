-- Document 01's sentences of pair tables with their own numbers: each follows from the definitions, and fails if a number in them is another.
-- Assumes nothing.
use Rattle.std.specs.Prelude.{◌≡◌, refl, [], ◌∷◌, ℕ, ◌≤◌, ◌<◌, length}
use Rattle.std.proofs.Math.Bool.{true, false}
use Rattle.std.proofs.Math.Option.{none, some}
use Rattle.std.proofs.Common.{arith}
use Rattle.std.proofs.Math.Dec.{leb}
use borrow.Author.Tests.{lt-leb, le-leb}
use Rattle.laws.specs.Cases.{split}
use Rattle.laws.specs.Order.{before_by}
use Rattle.laws.specs.Table.{any, find, remove}
use Rattle.settings.specs.declared.SourceLimit.{SourceLimit}
use Rattle.settings.specs.declared.SourceLimit.TheVariants.{AtMost}
use Rattle.pairs.specs.declared.Pair.{Pair}
use Rattle.pairs.specs.declared.Checked.TheVariants.{Accepted, SourcesExceeded}
use Rattle.pairs.specs.Table.{key, key_of, Table, empty, pair_at, listed, without, recorded, source_stop, unknown, full, sequence_stop, stop, settle, admit}
use Rattle.pairs.specs.Trials.{cid, pair}

-- ── "Two, 1,024 pairs each", "Pair unknown and 1,024 held: 10" ──
module _ (p : Pair) (t : Table) where
  pub fits_1024 : length t.pairs < 1024 → length t.sources < 1024 → full p t ≡ false
  unfolding full
  fits_1024 h g =
      let a : leb 1024 (length t.pairs) ≡ false = lt-leb 1024 (length t.pairs) h in
      let b : leb 1024 (length t.sources) ≡ false = lt-leb 1024 (length t.sources) g in
      split (unknown (pair_at (key_of p) t.pairs)) (λ e. split (listed p.cid t.sources) (λ f. cc) (λ f. cc)) (λ e. split (listed p.cid t.sources) (λ f. cc) (λ f. cc))

  pub full_at_1024 : pair_at (key_of p) t.pairs ≡ none → 1024 ≤ length t.pairs → full p t ≡ true
  unfolding full
  full_at_1024 h g = let a : leb 1024 (length t.pairs) ≡ true = le-leb 1024 (length t.pairs) g in cc

  -- ── "CID not listed and the number of listed CIDs at the limit: 6" ──
  pub at_the_limit : (m : ℕ) → listed p.cid t.sources ≡ false → length t.sources ≡ m → stop (AtMost m) p t ≡ some (SourcesExceeded m)
  unfolding stop source_stop
  at_the_limit m l h = let a : leb m (length t.sources) ≡ true = le-leb m (length t.sources) (omega (arith, h)) in cc

  pub below_the_limit : (m : ℕ) → length t.sources < m → listed p.cid t.sources ≡ false → source_stop (AtMost m) p.cid t ≡ none
  unfolding source_stop
  below_the_limit m h l = let a : leb m (length t.sources) ≡ false = lt-leb m (length t.sources) h in cc

  -- ── "An unknown pair is always accepted", once rules 2 and 3 let it pass ──
  pub unknown_accepted : (limit : SourceLimit) → source_stop limit p.cid t ≡ none → pair_at (key_of p) t.pairs ≡ none → length t.pairs < 1024 → length t.sources < 1024
      → admit limit p t ≡ (recorded p t, Accepted)
  unfolding admit settle stop sequence_stop
  unknown_accepted limit s u h g = let f = fits_1024 h g in cc

last_pair : without (key cid 7) (record { pairs = pair 7 ∷ []; sources = cid ∷ [] }) ≡ empty
unfolding without find remove any before_by
last_pair = refl

not_the_last : without (key cid 7) (record { pairs = pair 7 ∷ pair 8 ∷ []; sources = cid ∷ [] }) ≡ record { pairs = pair 8 ∷ []; sources = cid ∷ [] }
unfolding without find remove any before_by
not_the_last = refl
