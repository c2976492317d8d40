-- Lent memory in a contract. In a `requires` a lent part is a reference; in an `ensures` it is a pair of references, the part as the call finds it
-- and as the call leaves it. A part that is lent shared is the same in both.
-- Assumes nothing.
use Rattle.std.specs.Borrow.{Bor, MutBor}
use denote.Triple.Both.{Both}

-- a part that the call may change
abbrev pub Part : Type 0 → Type 0
Part X = Both (MutBor X) (MutBor X)

-- a part that it only reads
abbrev pub SharedPart : Type 0 → Type 0
SharedPart X = Both (Bor X) (Bor X)

-- what stays as it is
abbrev pub untouched : {X : Type 0} → X → Both X X
untouched x = record { entry = x; exit = x }
