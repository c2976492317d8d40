-- Document 02, F-4: "State after either refusal is as before", as swept. A repeat renews neither sequence number nor reading,
-- so a source that only repeats itself expires.
-- Assumes nothing.
use Rattle.std.specs.Prelude.{◌≡◌, Bool, true, List, [], ◌∷◌}
use Rattle.std.proofs.Math.Option.{some}
use Rattle.settings.specs.declared.SourceLimit.{SourceLimit}
use Rattle.pairs.specs.declared.Pair.{Pair}
use Rattle.pairs.specs.Table.{key_of, Table, pair_at, live, check}

-- q stands in the table as its last accepted arrival left it, with that number and that reading
abbrev pub Stands : Pair → Table → Type 0
Stands q t = pair_at (key_of q) t.pairs ≡ some q

-- ── arrivals one after the other, each with the limit and the announcement of its call ──
pub record Arriving : Type 0 where
  pub limit : SourceLimit
  pub announce : Bool
  pub pair : Pair

unfoldable pub arrivals : List Arriving → Table → Table
arrivals [] t = t
arrivals (x ∷ xs) t = arrivals xs (check x.limit x.announce x.pair t).0

-- of pair q only its number comes again, and only while q is live
abbrev pub Repeats : Pair → List Arriving → Type 0
Repeats q [] = Unit {0}
Repeats q (x ∷ xs) = (key_of x.pair ≡ key_of q → x.pair.sequence ≡ q.sequence) × (live x.pair.reading q ≡ true) × Repeats q xs
