-- Document 01, 'Number rules': the sequence rule of E1.31 6.7.2; document 02, F-4: its three answers.
-- Assumes nothing.
use Rattle.std.specs.Prelude.{◌≡◌, ℕ, ◌+◌, ◌-◌, ◌%◌, Bool, true, false, cond, not, ◌&&◌, List, [], ◌∷◌, ℤ, pos, neg_ℤ, nat_lt}
use Rattle.std.specs.Int.Signed.{le_z}
use Rattle.rules.specs.Answer.{Value, number, integer}
use Rattle.rules.specs.declared.SequenceAnswer.{SequenceAnswer}
use Rattle.rules.specs.declared.SequenceAnswer.TheVariants.{Accepted, Repeated, Late}

-- "arriving minus last is taken modulo 256"
abbrev pub wrapped : ℕ → ℕ → ℕ
wrapped arriving last = (arriving + 256 - last) % 256

-- "and read as signed": 0 to 127 are themselves, 128 to 255 are -128 to -1
abbrev pub signed : ℕ → ℤ
signed d = cond (nat_lt d 128) (pos d) (neg_ℤ (pos (256 - d)))

abbrev pub difference : ℕ → ℕ → ℤ
difference arriving last = signed (wrapped arriving last)

-- "repeated (difference 0)"
abbrev pub repeated : ℤ → Bool
repeated d = le_z (pos 0) d && le_z d (pos 0)

-- "or late (-19 to -1)"
abbrev pub late : ℤ → Bool
late d = le_z (neg_ℤ (pos 19)) d && le_z d (neg_ℤ (pos 1))

-- "The sequence rule shall answer accepted, repeated .. or late"
abbrev pub judged : ℤ → SequenceAnswer
judged d = cond (repeated d) Repeated (cond (late d) Late Accepted)

-- ── the answers by number and values: "21 for a repeat, with the values and the place of 7, which keeps the rest" ──
abbrev pub number_of : SequenceAnswer → ℕ
number_of Accepted = 0
number_of Repeated = 21
number_of Late = 7

-- of an arriving number, the last and their difference
abbrev pub values_of : ℕ → ℕ → ℤ → SequenceAnswer → List Value
values_of arriving last d Accepted = []
values_of arriving last d Repeated = number arriving ∷ number last ∷ integer d ∷ []
values_of arriving last d Late = number arriving ∷ number last ∷ integer d ∷ []

-- the number by the difference; number and values of two numbers
abbrev pub number_at : ℤ → ℕ
number_at d = cond (repeated d) 21 (cond (late d) 7 0)

abbrev pub sequence_told : ℕ → ℕ → ℕ × List Value
sequence_told arriving last = (number_at (difference arriving last), values_of arriving last (difference arriving last) (judged (difference arriving last)))

abbrev pub accepted : SequenceAnswer → Bool
accepted Accepted = true
accepted Repeated = false
accepted Late = false

-- refused means not accepted
abbrev pub refuses : SequenceAnswer → Bool
refuses a = not (accepted a)

abbrev pub refused : ℤ → Bool
refused d = refuses (judged d)

-- ── laws ──
-- from the first to the second, both included
abbrev pub Within : ℤ → ℤ → ℤ → Type 0
Within first last d = (le_z first d ≡ true) × (le_z d last ≡ true)
