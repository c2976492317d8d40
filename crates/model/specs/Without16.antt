-- Document 02, F-11: "Show that from a fresh receiver, after every list of calls, each CID counted as a source has a pair in that table, and then
-- remove 16 and the branch that gave it. The number is not used again. From a fresh receiver all later answers are those of the receiver with the branch".
-- Assumes nothing.
use Rattle.std.specs.Prelude.{◌≡◌, ℕ}
use Rattle.rules.specs.declared.Cid.{Cid}
use Rattle.pairs.specs.Table as pairs
use Rattle.model.specs.declared.StepAnswer.{StepAnswer}
use Rattle.model.specs.declared.StepAnswer.TheVariants as says
use Rattle.model.specs.Answer.{step_number, poll_number, expiry_number, listen_number, mute_number, clear_number}
use Rattle.model.specs.Step.{Outcome}
use Rattle.model.specs.Calls.{Reply, of_packet, of_poll, of_expiry, of_listen, of_mute, of_ask, of_clear, of_clear_all, of_reset_pairs, of_reset_discovery, of_reset}
use Rattle.model.specs.StepAnswer16 as was
use Rattle.model.specs.With16 as old

-- ── THE SOURCES ARE THE CIDS THAT HAVE A PAIR, in both tables ──
-- a CID is listed exactly if it has a pair
abbrev pub ListedAsPaired : pairs.Table → Type 0
ListedAsPaired t = (c : Cid) → pairs.listed c t.sources ≡ pairs.has t.pairs c

-- ── "The number is not used again." ──
-- the number of a reply; a call that answers nothing has 0
abbrev pub reply_number : Reply StepAnswer → ℕ
reply_number (of_packet a ds) = step_number a
reply_number (of_poll a) = poll_number a
reply_number (of_expiry a) = expiry_number a
reply_number (of_listen a) = listen_number a
reply_number (of_mute a) = mute_number a
reply_number (of_ask b) = 0
reply_number (of_clear a) = clear_number a
reply_number of_clear_all = 0
reply_number of_reset_pairs = 0
reply_number of_reset_discovery = 0
reply_number of_reset = 0

-- ── each answer as it was, by its own name ──
abbrev pub as_was : StepAnswer → was.StepAnswer
as_was says.Nothing = was.Nothing
as_was (says.Released r b) = was.Released r b
as_was (says.TooLong n) = was.TooLong n
as_was (says.IllegalUniverse u) = was.IllegalUniverse u
as_was (says.UniverseTimeout c u) = was.UniverseTimeout c u
as_was (says.UniverseTerminated c u) = was.UniverseTerminated c u
as_was (says.SourcesExceeded n) = was.SourcesExceeded n
as_was (says.OutOfSequence a l d) = was.OutOfSequence a l d
as_was says.DmxMergeError = was.DmxMergeError
as_was says.SourceDiscovered = was.SourceDiscovered
as_was says.PairsFull = was.PairsFull
as_was says.ListenedFull = was.ListenedFull
as_was says.WaitingFull = was.WaitingFull
as_was says.PagesFull = was.PagesFull
as_was (says.TooShort n) = was.TooShort n
as_was (says.Repeated a l d) = was.Repeated a l d

abbrev pub reply_as_was : Reply StepAnswer → Reply was.StepAnswer
reply_as_was (of_packet a ds) = of_packet (as_was a) ds
reply_as_was (of_poll a) = of_poll a
reply_as_was (of_expiry a) = of_expiry a
reply_as_was (of_listen a) = of_listen a
reply_as_was (of_mute a) = of_mute a
reply_as_was (of_ask b) = of_ask b
reply_as_was (of_clear a) = of_clear a
reply_as_was of_clear_all = of_clear_all
reply_as_was of_reset_pairs = of_reset_pairs
reply_as_was of_reset_discovery = of_reset_discovery
reply_as_was of_reset = of_reset

-- ── the step ──
abbrev pub out : Outcome → old.Outcome
out o = record { state = o.state; answer = as_was o.answer; released = o.released }
