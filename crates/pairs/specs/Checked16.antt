-- `Checked` as it was before document 02's F-11, with the case of 16: the cases of the enum of src/lib.rt, as the prover reads them.
-- Used by nothing but With16.antt and Without16.antt, here and in model.
-- Assumes nothing.
use Rattle.std.specs.Prelude.{ℕ, ℤ}
use Rattle.rules.specs.declared.Cid.{Cid}

-- What an arrival answers.
pub data Checked : Type 0 where
  Accepted : Checked
  -- Number 4.
  UniverseTimeout : Cid → ℕ → Checked
  -- Number 6.
  SourcesExceeded : ℕ → Checked
  -- Number 7, late: arriving, last, difference.
  OutOfSequence : ℕ → ℕ → ℤ → Checked
  -- Number 10.
  PairsFull : Checked
  -- Number 16.
  SourceWithoutPairs : Checked
  -- Number 21: arriving, last, difference.
  Repeated : ℕ → ℕ → ℤ → Checked
