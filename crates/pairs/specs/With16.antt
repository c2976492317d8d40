-- Document 01, 'Pair tables', rules 2 to 5 as they were before document 02's F-11: the definition with the branch that gave 16, word for word.
-- What gives no answer (`reached`, `full`, `recorded`, `sweep`) is not repeated: it is that of Table.antt.
-- Used by nothing but the theorem that it replied the same, `replies-as-was` in model/specs/Without16.antt, and what leads there: With16.antt of model,
-- and `check-as-was` here.
-- Assumes nothing.
use Rattle.std.specs.Prelude.{Bool, true, false, cond, ℕ, length, ℤ}
use Rattle.std.proofs.Math.Option.{Option, none, some}
use Rattle.rules.specs.declared.Cid.{Cid}
use Rattle.rules.specs.declared.SequenceAnswer.{SequenceAnswer}
use Rattle.rules.specs.declared.SequenceAnswer.TheVariants as sequence
use Rattle.rules.specs.Sequence.{difference, judged}
use Rattle.rules.specs.Answer.{first_of}
use Rattle.settings.specs.declared.SourceLimit.{SourceLimit}
use Rattle.pairs.specs.declared.Pair.{Pair}
use Rattle.pairs.specs.Checked16.{Checked, Accepted, UniverseTimeout, SourcesExceeded, OutOfSequence, PairsFull, SourceWithoutPairs, Repeated}
use Rattle.pairs.specs.Table.{Key, key_of, Table, pair_at, has, listed, sweep, recorded, reached, full}

-- ── what stops an arrival: every answer but `Accepted` ──
abbrev pub accepted : Checked → Bool
accepted Accepted = true
accepted (UniverseTimeout c u) = false
accepted (SourcesExceeded n) = false
accepted (OutOfSequence a l d) = false
accepted PairsFull = false
accepted SourceWithoutPairs = false
accepted (Repeated a l d) = false

abbrev pub stopping : Checked → Option Checked
stopping a = cond (accepted a) none (some a)

-- ── 2. "CID not listed and the number of listed CIDs at the limit: 6. CID listed without any pair: 16." ──
unfoldable pub source_stop : SourceLimit → Cid → Table → Option Checked
source_stop limit c t =
    cond (listed c t.sources)
    (cond (has t.pairs c) none (some SourceWithoutPairs))
    (cond (reached limit (length t.sources)) (some (SourcesExceeded (length t.sources))) none)

-- ── 4. "Known pair, refused difference: 7. An unknown pair is always accepted." Document 02, F-4: "21 for a repeat, with the values and the
-- place of 7, which keeps the rest" ──
abbrev pub told_as : ℕ → ℕ → ℤ → SequenceAnswer → Checked
told_as arriving last d sequence.Accepted = Accepted
told_as arriving last d sequence.Repeated = Repeated arriving last d
told_as arriving last d sequence.Late = OutOfSequence arriving last d

-- what the sequence rule answers of two numbers
abbrev pub check_sequence : ℕ → ℕ → Checked
check_sequence arriving last = told_as arriving last (difference arriving last) (judged (difference arriving last))

unfoldable pub sequence_stop : ℕ → Option Pair → Option Checked
sequence_stop arriving none = none
sequence_stop arriving (some q) = stopping (check_sequence arriving q.sequence)

-- what stops an arrival after the sweep, in the order of rules 2 to 4
unfoldable pub stop : SourceLimit → Pair → Table → Option Checked
stop limit p t =
    first_of (source_stop limit p.cid t)
    (first_of (cond (full p t) (some PairsFull) none)
    (sequence_stop p.sequence (pair_at (key_of p) t.pairs)))

unfoldable pub settle : Pair → Table → Option Checked → Table × Checked
settle p t none = (recorded p t, Accepted)
settle p t (some a) = (t, a)

-- rules 2 to 5, on the table as swept
unfoldable pub admit : SourceLimit → Pair → Table → Table × Checked
admit limit p t = settle p t (stop limit p t)

-- ── an arrival, `check_seq_number`: the pair carries the arriving sequence number and the reading ──
unfoldable pub after_sweep : SourceLimit → Pair → Table × Option Key → Table × Checked
after_sweep limit p (t, none) = admit limit p t
after_sweep limit p (t, some k) = (t, UniverseTimeout k.cid k.universe)

unfoldable pub check : SourceLimit → Bool → Pair → Table → Table × Checked
check limit announce p t = after_sweep limit p (sweep announce p.reading t)
