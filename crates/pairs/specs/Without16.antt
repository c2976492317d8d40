-- Document 02, F-11: what the branch for a CID listed without any pair was worth, and what comes in its place.
-- Assumes nothing.
use Rattle.std.proofs.Math.Option.{Option, none, some}
use Rattle.pairs.specs.declared.Checked.{Checked}
use Rattle.pairs.specs.declared.Checked.TheVariants.{Accepted, UniverseTimeout, SourcesExceeded, OutOfSequence, PairsFull, Repeated}
use Rattle.pairs.specs.Checked16 as was

-- ── the definition with the branch, on a table in order whose sources are the CIDs that have a pair (`GoodTable`) ──
-- each answer by its own name
abbrev pub as_was : Checked → was.Checked
as_was Accepted = was.Accepted
as_was (UniverseTimeout c u) = was.UniverseTimeout c u
as_was (SourcesExceeded n) = was.SourcesExceeded n
as_was (OutOfSequence a l d) = was.OutOfSequence a l d
as_was PairsFull = was.PairsFull
as_was (Repeated a l d) = was.Repeated a l d

abbrev pub each : Option Checked → Option was.Checked
each none = none
each (some a) = some (as_was a)
