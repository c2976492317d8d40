-- Document 01, 'What stops a call': the calls that a lent part may stop, and the number and the values of what they answer.
-- Assumes nothing.
use Rattle.std.specs.Prelude.{cond, List, [], ◌∷◌, ℕ, ltb, leb, length}
use Rattle.std.proofs.Math.Option.{Option, none, some}
use Rattle.rules.specs.Answer.{Value, number}
use Rattle.settings.specs.declared.MergeChoice.{MergeChoice}
use Rattle.merge.specs.Merge.{Dmx, most_values}
use Rattle.waiting.specs.declared.StoreCall.{StoreCall}
use Rattle.waiting.specs.declared.StoreCall.TheVariants.{Taken, TooLong}
use Rattle.waiting.specs.declared.ReleaseAnswer.{ReleaseAnswer}
use Rattle.waiting.specs.declared.ReleaseAnswer.TheVariants.{Released, OutputShort}
use Rattle.waiting.specs.Waiting.{universe_of, waiting_for, capacity, merged, stored, released, left, number_of, values_of}
use Rattle.waiting.specs.Records.{records, over, most_bytes}

-- ── `store_waiting_data` ──
-- "values over 513 | 1 | length | all"
unfoldable pub store_call : MergeChoice → Dmx → List Dmx → List Dmx × StoreCall
store_call choice p ds =
    cond (ltb most_values (length p.values)) (ds, TooLong (length p.values))
    ((stored choice p ds).0, Taken (stored choice p ds).1)

abbrev pub store_number_of : StoreCall → ℕ
store_number_of (Taken a) = number_of a
store_number_of (TooLong n) = 1

abbrev pub store_values_of : StoreCall → List Value
store_values_of (Taken a) = values_of a
store_values_of (TooLong n) = number n ∷ []

-- "merge refused | 8 | nothing"
abbrev pub join_told : Option Dmx → ℕ × List Value
join_told none = (8, [])
join_told (some d) = (0, [])

-- "64 waiting, universe not among them | 12 | nothing"
unfoldable pub universe_told : MergeChoice → Dmx → List Dmx → Option Dmx → ℕ × List Value
universe_told choice p ds (some e) = join_told (merged choice e p)
universe_told choice p ds none = cond (leb capacity (length ds)) (12, []) (0, [])

-- "values over 513 | 1 | length", before all else
unfoldable pub store_told : MergeChoice → Dmx → List Dmx → ℕ × List Value
store_told choice p ds =
    cond (ltb most_values (length p.values)) (1, number (length p.values) ∷ [])
    (universe_told choice p ds (waiting_for (universe_of p) ds))

-- ── `rtrv_waiting_data` ──
-- "output too short | 15 | needed length | all"
unfoldable pub release_call : ℕ → ℕ → ℕ → List Dmx → List Dmx × ReleaseAnswer
release_call room now a ds =
    cond (ltb room most_bytes) (ds, OutputShort most_bytes)
    (left a ds, Released (length (released now a ds)) (length (records (released now a ds))))

-- "No stopped call writes output."
unfoldable pub release_output : ℕ → ℕ → List Dmx → List ℕ → List ℕ
release_output now a ds out = cond (ltb (length out) most_bytes) out (over (records (released now a ds)) out)

abbrev pub release_number_of : ReleaseAnswer → ℕ
release_number_of (Released r b) = 0
release_number_of (OutputShort n) = 15

abbrev pub release_values_of : ReleaseAnswer → List Value
release_values_of (Released r b) = number r ∷ number b ∷ []
release_values_of (OutputShort n) = number n ∷ []

-- "output too short | 15 | needed length"; "A release answers its record count and byte length"
unfoldable pub release_told : ℕ → ℕ → ℕ → List Dmx → ℕ × List Value
release_told room now a ds =
    cond (ltb room most_bytes) (15, number most_bytes ∷ [])
    (0, number (length (released now a ds)) ∷ number (length (records (released now a ds))) ∷ [])
