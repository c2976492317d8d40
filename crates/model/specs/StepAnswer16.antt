-- `StepAnswer` as it was before document 02's F-11, with the case of 16: the cases of the enum of src/lib.rt, as the prover reads them.
-- Used by nothing but With16.antt and Without16.antt.
-- Assumes nothing.
use Rattle.std.specs.Prelude.{ℕ, ℤ}
use Rattle.rules.specs.declared.Cid.{Cid}

-- A step on a packet.
pub data StepAnswer : Type 0 where
  Nothing : StepAnswer
  -- Records and bytes of the release.
  Released : ℕ → ℕ → StepAnswer
  -- 1: the length.
  TooLong : ℕ → StepAnswer
  -- 2
  IllegalUniverse : ℕ → StepAnswer
  -- 4
  UniverseTimeout : Cid → ℕ → StepAnswer
  -- 5
  UniverseTerminated : Cid → ℕ → StepAnswer
  -- 6: the number of sources.
  SourcesExceeded : ℕ → StepAnswer
  -- 7, late: arriving, last, difference.
  OutOfSequence : ℕ → ℕ → ℤ → StepAnswer
  -- 8
  DmxMergeError : StepAnswer
  -- 9: the name is the packet's own.
  SourceDiscovered : StepAnswer
  -- 10
  PairsFull : StepAnswer
  -- 11
  ListenedFull : StepAnswer
  -- 12
  WaitingFull : StepAnswer
  -- 13
  PagesFull : StepAnswer
  -- 15: the length needed.
  TooShort : ℕ → StepAnswer
  -- 16
  SourceWithoutPairs : StepAnswer
  -- 21: arriving, last, difference.
  Repeated : ℕ → ℕ → ℤ → StepAnswer
