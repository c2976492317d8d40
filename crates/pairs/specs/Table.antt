-- Document 01, 'Pair tables': what each call makes of a table. A table here is two lists: the pairs, ascending by CID and then universe,
-- and the CIDs that count as sources, ascending.
-- Assumes nothing.
use Rattle.std.specs.Prelude.{Bool, true, false, not, cond, ◌&&◌, ◌||◌, List, [], ◌∷◌, ℕ, ◌≤◌, ltb, leb, length, ℤ}
use Rattle.std.proofs.Math.Option.{Option, none, some}
use Rattle.laws.specs.Order.{before_by}
use Rattle.laws.specs.Table.{keep, any, find, store, remove, Ascending}
use Rattle.rules.specs.declared.Cid.{Cid}
use Rattle.rules.specs.Cid.{same, before}
use Rattle.rules.specs.Age.{expired}
use Rattle.rules.specs.declared.SequenceAnswer.{SequenceAnswer}
use Rattle.rules.specs.declared.SequenceAnswer.TheVariants as sequence
use Rattle.rules.specs.Sequence.{difference, judged}
use Rattle.rules.specs.Answer.{Value, number, integer, source, first_of}
use Rattle.settings.specs.declared.SourceLimit.{SourceLimit}
use Rattle.settings.specs.declared.SourceLimit.TheVariants.{Unlimited, AtMost}
use Rattle.pairs.specs.declared.Pair.{Pair}
use Rattle.pairs.specs.declared.Checked.{Checked}
use Rattle.pairs.specs.declared.Checked.TheVariants.{Accepted, UniverseTimeout, SourcesExceeded, OutOfSequence, PairsFull, Repeated}

-- "A pair is a CID and a universe or address"
pub record Key : Type 0 where
  pub cid : Cid
  pub universe : ℕ

abbrev pub key : Cid → ℕ → Key
key c u = record { cid = c; universe = u }

abbrev pub key_of : Pair → Key
key_of p = key p.cid p.universe

-- "kept by ascending CID bytes, then universe"
abbrev pub key_before : Key → Key → Bool
key_before a b = before_by before ltb (λ (k : Key). k.cid) (λ (k : Key). k.universe) a b

abbrev pub itself : Cid → Cid
itself c = c

-- "Beside its pairs each table keeps the ascending list of the CIDs that it counts as sources"
pub record Table : Type 0 where
  pub pairs : List Pair
  pub sources : List Cid

-- "Two, 1,024 pairs each"
abbrev pub capacity : ℕ
capacity = 1024

abbrev pub empty : Table
empty = record { pairs = []; sources = [] }

-- "Finding a pair answers nothing or its place": the pair with this key
abbrev pub pair_at : Key → List Pair → Option Pair
pair_at k ps = find key_before key_of k ps

-- the CID has a pair
abbrev pub has : List Pair → Cid → Bool
has ps c = any (λ p. same p.cid c) ps

-- the CID counts as a source
unfoldable pub listed : Cid → List Cid → Bool
listed c cs = elim (find before itself c cs) [ none ↦ false | some d ↦ true ]

-- ── removal of a pair: "a CID leaves it with its last pair" ──
abbrev pub leave : Cid → List Pair → List Cid → List Cid
leave c ps cs = cond (has ps c) cs (remove before itself c cs)

unfoldable pub without : Key → Table → Table
without k t = elim (pair_at k t.pairs) [
  | none ↦ t
  | some p ↦ record {
    pairs = remove key_before key_of k t.pairs;
    sources = leave k.cid (remove key_before key_of k t.pairs) t.sources;
  }
]

-- ── 1. "Sweep." ──
abbrev pub live : ℕ → Pair → Bool
live now p = not (expired now p.reading)

-- "Announcements off: all expired pairs go, and every CID without a pair."
unfoldable pub swept : ℕ → Table → Table
swept now t = record {
  pairs = keep (live now) t.pairs;
  sources = keep (has (keep (live now) t.pairs)) t.sources;
}

-- "noting each one's lowest expired universe": the first expired pair of the source, since pairs ascend
unfoldable pub lowest : ℕ → List Pair → Cid → Option Pair
lowest now [] c = none
lowest now (p ∷ ps) c = cond (same p.cid c && expired now p.reading) (some p) (lowest now ps c)

-- of two notes the later one
abbrev pub later : Option Pair → Option Pair → Option Pair
later a none = a
later a (some p) = some p

-- what the last source that has one notes
unfoldable pub last_noted : ℕ → List Pair → List Cid → Option Pair
last_noted now ps [] = none
last_noted now ps (c ∷ cs) = later (lowest now ps c) (last_noted now ps cs)

-- "On: go through the sources in order ..; if the first source has none, stop with nothing; otherwise the last source noted"
unfoldable pub noted : ℕ → List Pair → List Cid → Option Pair
noted now ps [] = none
noted now ps (c ∷ cs) = elim (lowest now ps c) [ none ↦ none | some p ↦ last_noted now ps (c ∷ cs) ]

-- "loses that pair and number 4 is given"
unfoldable pub told : Table → Option Pair → Table × Option Key
told t none = (t, none)
told t (some p) = (without (key_of p) t, some (key_of p))

-- the sweep, by the timeout announcement: the table that follows, and the pair of number 4
unfoldable pub sweep : Bool → ℕ → Table → Table × Option Key
sweep false now t = (swept now t, none)
sweep true now t = told t (noted now t.pairs t.sources)

-- ── 5. "Store sequence and reading." A CID joins the list with its pair ──
unfoldable pub recorded : Pair → Table → Table
recorded p t = record {
  pairs = store key_before key_of p t.pairs;
  sources = store before itself p.cid t.sources;
}

-- ── what stops an arrival: every answer but `Accepted` ──
abbrev pub accepted : Checked → Bool
accepted Accepted = true
accepted (UniverseTimeout c u) = false
accepted (SourcesExceeded n) = false
accepted (OutOfSequence a l d) = false
accepted PairsFull = false
accepted (Repeated a l d) = false

abbrev pub stopping : Checked → Option Checked
stopping a = cond (accepted a) none (some a)

-- ── 2. "CID not listed and the number of listed CIDs at the limit: 6." A listed CID passes: document 02, F-11, took away the branch for one
-- without any pair, "a broken table handed in goes on to the pair table's rule 3" ──
abbrev pub reached : SourceLimit → ℕ → Bool
reached Unlimited n = false
reached (AtMost m) n = leb m n

unfoldable pub source_stop : SourceLimit → Cid → Table → Option Checked
source_stop limit c t =
    cond (listed c t.sources) none
    (cond (reached limit (length t.sources)) (some (SourcesExceeded (length t.sources))) none)

-- ── 3. "Pair unknown and 1,024 held: 10." A broken table that lists 1,024 other CIDs has no room for a further one either ──
abbrev pub unknown : Option Pair → Bool
unknown none = true
unknown (some q) = false

unfoldable pub full : Pair → Table → Bool
full p t =
    unknown (pair_at (key_of p) t.pairs) && leb capacity (length t.pairs)
    || not (listed p.cid t.sources) && leb capacity (length t.sources)

-- ── 4. "Known pair, refused difference: 7. An unknown pair is always accepted." Document 02, F-4: "21 for a repeat, with the values and the
-- place of 7, which keeps the rest" ──
abbrev pub told_as : ℕ → ℕ → ℤ → SequenceAnswer → Checked
told_as arriving last d sequence.Accepted = Accepted
told_as arriving last d sequence.Repeated = Repeated arriving last d
told_as arriving last d sequence.Late = OutOfSequence arriving last d

-- what the sequence rule answers of two numbers
abbrev pub check_sequence : ℕ → ℕ → Checked
check_sequence arriving last = told_as arriving last (difference arriving last) (judged (difference arriving last))

unfoldable pub sequence_stop : ℕ → Option Pair → Option Checked
sequence_stop arriving none = none
sequence_stop arriving (some q) = stopping (check_sequence arriving q.sequence)

-- what stops an arrival after the sweep, in the order of rules 2 to 4
unfoldable pub stop : SourceLimit → Pair → Table → Option Checked
stop limit p t =
    first_of (source_stop limit p.cid t)
    (first_of (cond (full p t) (some PairsFull) none)
    (sequence_stop p.sequence (pair_at (key_of p) t.pairs)))

unfoldable pub settle : Pair → Table → Option Checked → Table × Checked
settle p t none = (recorded p t, Accepted)
settle p t (some a) = (t, a)

-- rules 2 to 5, on the table as swept
unfoldable pub admit : SourceLimit → Pair → Table → Table × Checked
admit limit p t = settle p t (stop limit p t)

-- ── an arrival, `check_seq_number`: the pair carries the arriving sequence number and the reading ──
unfoldable pub after_sweep : SourceLimit → Pair → Table × Option Key → Table × Checked
after_sweep limit p (t, none) = admit limit p t
after_sweep limit p (t, some k) = (t, UniverseTimeout k.cid k.universe)

unfoldable pub check : SourceLimit → Bool → Pair → Table → Table × Checked
check limit announce p t = after_sweep limit p (sweep announce p.reading t)

-- ── the answers by document 01's table: number and values ──
abbrev pub number_of : Checked → ℕ
number_of Accepted = 0
number_of (UniverseTimeout c u) = 4
number_of (SourcesExceeded n) = 6
number_of (OutOfSequence a l d) = 7
number_of PairsFull = 10
number_of (Repeated a l d) = 21

abbrev pub values_of : Checked → List Value
values_of Accepted = []
values_of (UniverseTimeout c u) = source c ∷ number u ∷ []
values_of (SourcesExceeded n) = number n ∷ []
values_of (OutOfSequence a l d) = number a ∷ number l ∷ integer d ∷ []
values_of PairsFull = []
values_of (Repeated a l d) = number a ∷ number l ∷ integer d ∷ []

-- ── what may be presupposed: "tables in their order and within their counts" ──
pub record Ordered (t : Table) : Type 0 where
  pub pairs_ascend : Ascending key_before key_of t.pairs
  pub sources_ascend : Ascending before itself t.sources
  pub pairs_fit : length t.pairs ≤ capacity
  pub sources_fit : length t.sources ≤ capacity
