-- What a call returns besides its number: the values of document 01's column 'Returned'; and tests in their order.
-- Assumes nothing.
use Rattle.std.proofs.Math.Option.{Option, none, some}
use Rattle.std.specs.Prelude.{ℕ, List, ℤ}
use Rattle.rules.specs.declared.Cid.{Cid}

pub data Value : Type 0 where
  -- a length, a count, a universe, a sequence number
  number : ℕ → Value
  -- a sequence difference
  integer : ℤ → Value
  -- a source
  source : Cid → Value
  -- a source's name, as bytes
  name : List ℕ → Value

-- of two tests in their order, what the first says, else the second
abbrev pub first_of : {A : Type 0} → Option A → Option A → Option A
first_of none b = b
first_of (some a) b = some a
