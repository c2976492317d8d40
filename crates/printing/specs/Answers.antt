-- The line that an answer prints: "the number (0 where nothing stopped it), then the returned values .., separated by single spaces".
-- Assumes nothing.
use Rattle.std.specs.Prelude.{◌≡◌, refl, Result, Ok, Err, Bool, true, false, List, [], ◌∷◌, ◌++◌, ℕ, take}
use Rattle.rules.specs.Answer.{Value, number, integer, source, name}
use Rattle.settings.specs.declared.Settings.{Settings}
use Rattle.settings.specs.declared.MergeChoice.{MergeChoice}
use Rattle.settings.specs.declared.MergeChoice.TheVariants.{DiscardLowestPriorityThenPrevious, HtpDmxMerge}
use Rattle.settings.specs.declared.SourceLimit.{SourceLimit}
use Rattle.settings.specs.declared.SourceLimit.TheVariants.{Unlimited, AtMost}
use Rattle.settings_store.specs.declared.StoreSettingsError.{StoreSettingsError}
use Rattle.settings_store.specs.declared.StoreSettingsError.TheVariants as store
use Rattle.settings_store.specs.Record.{store_number, store_values}
use Rattle.model.specs.declared.StepAnswer.{StepAnswer}
use Rattle.model.specs.declared.StepAnswer.TheVariants as says
use Rattle.model.specs.declared.ClearAnswer.TheVariants as clear
use Rattle.model.specs.Answer.{step_number, step_values, clear_number, clear_values}
use Rattle.laws.specs.Ascii.{ascii}
use Rattle.printing.specs.Text.{decimal_of, signed_of, bit_of, cid_text, byte_text, hex_text}

abbrev pub value_text : Value → List ℕ
value_text (number n) = decimal_of n
value_text (integer d) = signed_of d
value_text (source c) = cid_text c
value_text (name s) = byte_text s

-- each behind a space, and what follows
abbrev pub values_text : List Value → List ℕ → List ℕ
values_text [] end = end
values_text (v ∷ vs) end = 32 ∷ value_text v ++ values_text vs end

-- a whole line
abbrev pub answer_line : ℕ → List Value → List ℕ
answer_line n vs = decimal_of n ++ values_text vs (10 ∷ [])

-- "After 0, `listening` and `clear` print 0 or 1"
abbrev pub flag_line : Bool → List ℕ
flag_line true = answer_line 0 (number 1 ∷ [])
flag_line false = answer_line 0 (number 0 ∷ [])

pub flag_cleared : (b : Bool) → flag_line b ≡ answer_line (clear_number (clear.Cleared b)) (clear_values (clear.Cleared b))
flag_cleared true = refl
flag_cleared false = refl

-- "a step that releases prints `release RECORDS BYTES HEX`"
abbrev pub release_line : ℕ → ℕ → List ℕ → List ℕ
release_line r b out = ascii "0 release " ++ (decimal_of r ++ 32 ∷ (decimal_of b ++ 32 ∷ (hex_text (take b out) ++ 10 ∷ [])))

-- the number and the values, for all other steps; 9 gives the packet's own name
abbrev pub stop_line : List ℕ → StepAnswer → List ℕ
stop_line own answer = answer_line (step_number answer) (step_values own answer)

-- a step's line, with the packet's own name and the output
abbrev pub step_line : List ℕ → List ℕ → StepAnswer → List ℕ
step_line own out (says.Released r b) = release_line r b out
step_line own out says.Nothing = stop_line own says.Nothing
step_line own out (says.TooLong n) = stop_line own (says.TooLong n)
step_line own out (says.IllegalUniverse u) = stop_line own (says.IllegalUniverse u)
step_line own out (says.UniverseTimeout c u) = stop_line own (says.UniverseTimeout c u)
step_line own out (says.UniverseTerminated c u) = stop_line own (says.UniverseTerminated c u)
step_line own out (says.SourcesExceeded n) = stop_line own (says.SourcesExceeded n)
step_line own out (says.OutOfSequence a l d) = stop_line own (says.OutOfSequence a l d)
step_line own out says.DmxMergeError = stop_line own says.DmxMergeError
step_line own out says.SourceDiscovered = stop_line own says.SourceDiscovered
step_line own out says.PairsFull = stop_line own says.PairsFull
step_line own out says.ListenedFull = stop_line own says.ListenedFull
step_line own out says.WaitingFull = stop_line own says.WaitingFull
step_line own out says.PagesFull = stop_line own says.PagesFull
step_line own out (says.TooShort n) = stop_line own (says.TooShort n)
step_line own out (says.Repeated a l d) = stop_line own (says.Repeated a l d)

-- ── settings ──
-- "after 0 all LEN bytes as a byte string"
abbrev pub store_line : List ℕ → Result Unit StoreSettingsError → List ℕ
store_line bytes (Ok u) = answer_line (store_number (Ok u)) (name bytes ∷ [])
store_line bytes (Err (store.TooShort n)) = answer_line (store_number (Err (store.TooShort n))) (store_values (Err (store.TooShort n)))
store_line bytes (Err store.LimitZero) = answer_line (store_number (Err store.LimitZero)) (store_values (Err store.LimitZero))
store_line bytes (Err store.ExpiryOutOfRange) = answer_line (store_number (Err store.ExpiryOutOfRange)) (store_values (Err store.ExpiryOutOfRange))

abbrev pub spaced_bit : Bool → List ℕ
spaced_bit on = 32 ∷ bit_of on

-- "`priority` or `highest`"
abbrev pub merge_text : MergeChoice → List ℕ
merge_text DiscardLowestPriorityThenPrevious = ascii "priority"
merge_text HtpDmxMerge = ascii "highest"

-- "the limit or `none`"
abbrev pub limit_text : SourceLimit → List ℕ
limit_text Unlimited = ascii "none"
limit_text (AtMost n) = decimal_of n

-- "after 0: preview, announce_discovery, announce_termination, announce_timeout (each 0 or 1), `priority` or `highest`, the limit or `none`, the expiry"
abbrev pub settings_line : Settings → List ℕ
settings_line s =
    ascii "0"
    ++ (spaced_bit s.process_preview_data
    ++ (spaced_bit s.announce_source_discovery
    ++ (spaced_bit s.announce_stream_termination
    ++ (spaced_bit s.announce_timeout
    ++ 32 ∷ (merge_text s.merge ++ 32 ∷ (limit_text s.source_limit ++ 32 ∷ answer_line s.discovery_expiry []))))))
