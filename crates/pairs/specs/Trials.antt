-- Document 01's sentences of pair tables with their own numbers: each follows from the definitions, and fails if a number in them is another.
-- Assumes nothing.
use Rattle.std.specs.Prelude.{ℕ}
use Rattle.rules.specs.declared.Cid.{Cid}
use Rattle.pairs.specs.declared.Pair.{Pair}

-- ── "a CID leaves it with its last pair" ──
abbrev pub cid : Cid
cid = record { hi = 0; lo = 1 }

abbrev pub pair : ℕ → Pair
pair universe = record { cid = cid; universe = universe; sequence = 0; reading = 0 }
