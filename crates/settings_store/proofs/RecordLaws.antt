-- Document 02, F-6: settings in lent bytes. "A record is the mark 53 54 (hexadecimal), a layout byte, then the fields. .. Numbers are big-endian."
-- Assumes nothing.
use Rattle.std.specs.Prelude.{Ok, Err, ◌≡◌, refl, true, false, List, [], ◌∷◌, ◌++◌, map, ℕ, length, replicate}
use Rattle.rules.specs.Bytes.{number, big_endian}
use Rattle.fields.specs.Fields.{size, encode, decode}
use Rattle.settings.specs.declared.MergeChoice.TheVariants.{DiscardLowestPriorityThenPrevious, HtpDmxMerge}
use Rattle.settings.specs.declared.SourceLimit.{SourceLimit}
use Rattle.settings.specs.declared.SourceLimit.TheVariants.{Unlimited, AtMost}
use Rattle.settings.specs.Settings.{settings, fresh}
use Rattle.settings_store.specs.declared.Layouts.TheVariants.{First, Both}
use Rattle.settings_store.specs.declared.StoreSettingsError.TheVariants.{TooShort}
use Rattle.settings_store.specs.Record.{load_number, loaded, record_length, record_of, store_answer, store_bytes, store_number}

-- ── in numbers: every row is computed, and stands before the laws ──
-- records byte by byte
fresh_record : record_of fresh ≡ 0x53 ∷ 0x54 ∷ 2 ∷ 0 ∷ 0 ∷ 0 ∷ 0 ∷ 0 ∷ 0 ∷ 0 ∷ 0 ∷ 0 ∷ 0x4E ∷ 0x20 ∷ []
unfolding encode big_endian
fresh_record = refl

-- preview, discovery, termination, timeout, one at a time
one_flag : map record_of
    (settings true false false false DiscardLowestPriorityThenPrevious Unlimited 2500
    ∷ settings false true false false DiscardLowestPriorityThenPrevious Unlimited 2500
    ∷ settings false false true false DiscardLowestPriorityThenPrevious Unlimited 2500
    ∷ settings false false false true DiscardLowestPriorityThenPrevious Unlimited 2500 ∷ [])
    ≡ (0x53 ∷ 0x54 ∷ 2 ∷ 1 ∷ 0 ∷ 0 ∷ 0 ∷ 0 ∷ 0 ∷ 0 ∷ 0 ∷ 0 ∷ 0x09 ∷ 0xC4 ∷ [])
    ∷ (0x53 ∷ 0x54 ∷ 2 ∷ 0 ∷ 1 ∷ 0 ∷ 0 ∷ 0 ∷ 0 ∷ 0 ∷ 0 ∷ 0 ∷ 0x09 ∷ 0xC4 ∷ [])
    ∷ (0x53 ∷ 0x54 ∷ 2 ∷ 0 ∷ 0 ∷ 1 ∷ 0 ∷ 0 ∷ 0 ∷ 0 ∷ 0 ∷ 0 ∷ 0x09 ∷ 0xC4 ∷ [])
    ∷ (0x53 ∷ 0x54 ∷ 2 ∷ 0 ∷ 0 ∷ 0 ∷ 1 ∷ 0 ∷ 0 ∷ 0 ∷ 0 ∷ 0 ∷ 0x09 ∷ 0xC4 ∷ []) ∷ []
unfolding encode big_endian
one_flag = refl

-- most significant byte first
numbers_in : map record_of (settings false false false false HtpDmxMerge (AtMost 513) 60000 ∷ settings false false false false HtpDmxMerge (AtMost 65535) 2500 ∷ [])
    ≡ (0x53 ∷ 0x54 ∷ 2 ∷ 0 ∷ 0 ∷ 0 ∷ 0 ∷ 1 ∷ 2 ∷ 1 ∷ 0 ∷ 0 ∷ 0xEA ∷ 0x60 ∷ [])
    ∷ (0x53 ∷ 0x54 ∷ 2 ∷ 0 ∷ 0 ∷ 0 ∷ 0 ∷ 1 ∷ 0xFF ∷ 0xFF ∷ 0 ∷ 0 ∷ 0x09 ∷ 0xC4 ∷ []) ∷ []
unfolding encode big_endian
numbers_in = refl

-- the writer
written : SourceLimit → ℕ → ℕ → ℕ
written l e n = store_number (store_answer (settings false false false false HtpDmxMerge l e) n)

-- 15, then 14, then 20
store_order : written (AtMost 0) 2499 13 ∷ written (AtMost 0) 2499 14 ∷ written (AtMost 1) 2499 14 ∷ written (AtMost 1) 2500 14 ∷ []
    ≡ 15 ∷ 14 ∷ 20 ∷ 0 ∷ []
unfolding written
store_order = refl

-- 20 by the setter's range
store_range : map (λ e. written Unlimited e 14) (2499 ∷ 2500 ∷ 60000 ∷ 60001 ∷ []) ≡ 20 ∷ 0 ∷ 0 ∷ 20 ∷ []
unfolding written
store_range = refl

-- "15 with 14", and the length is the record's
store_needs : (store_answer fresh 13 ≡ Err (TooShort 14)) × (length (record_of fresh) ≡ record_length)
unfolding encode big_endian
store_needs = (refl, refl)

-- a stop writes nothing, a record leaves the bytes behind it
store_leaves : (store_bytes (settings false false false false HtpDmxMerge (AtMost 0) 2500) (replicate 15 0xCC) ≡ replicate 15 0xCC)
    × (store_bytes (settings false false false false HtpDmxMerge Unlimited 2499) (replicate 15 0xCC) ≡ replicate 15 0xCC)
    × (store_bytes fresh (replicate 13 0xCC) ≡ replicate 13 0xCC)
    × (store_bytes fresh (replicate 16 0xCC) ≡ record_of fresh ++ 0xCC ∷ 0xCC ∷ [])
unfolding encode big_endian
store_leaves = (refl, refl, refl, refl)

-- the readers
number_both : List ℕ → ℕ
number_both bytes = load_number (loaded Both bytes)

number_first : List ℕ → ℕ
number_first bytes = load_number (loaded First bytes)

-- under three bytes; a wrong mark; an unknown layout, in three bytes too
load_front : map number_both
    ([]
    ∷ (0x53 ∷ [])
    ∷ (0x53 ∷ 0x54 ∷ [])
    ∷ (0x54 ∷ 0x54 ∷ 0 ∷ [])
    ∷ (0x53 ∷ 0x53 ∷ 0 ∷ [])
    ∷ (0x53 ∷ 0x54 ∷ 0 ∷ [])
    ∷ (0x53 ∷ 0x54 ∷ 3 ∷ [])
    ∷ (0x53 ∷ 0x54 ∷ 255 ∷ 2 ∷ 2 ∷ 2 ∷ 2 ∷ 2 ∷ 2 ∷ 2 ∷ 2 ∷ 2 ∷ 2 ∷ 2 ∷ []) ∷ [])
    ≡ 22 ∷ 22 ∷ 22 ∷ 22 ∷ 22 ∷ 23 ∷ 23 ∷ 23 ∷ []
unfolding number_both decode number size
load_front = refl

-- fewer bytes than the layout needs, whatever the fields there hold
load_short : map number_both
    ((0x53 ∷ 0x54 ∷ 1 ∷ [])
    ∷ (0x53 ∷ 0x54 ∷ 2 ∷ [])
    ∷ (0x53 ∷ 0x54 ∷ 1 ∷ 2 ∷ 0 ∷ 0 ∷ 0 ∷ 0 ∷ 0 ∷ [])
    ∷ (0x53 ∷ 0x54 ∷ 2 ∷ 2 ∷ 0 ∷ 0 ∷ 0 ∷ 0 ∷ 0 ∷ 0 ∷ 0 ∷ 0 ∷ 0x09 ∷ []) ∷ [])
    ≡ 22 ∷ 22 ∷ 22 ∷ 22 ∷ []
unfolding number_both decode number size
load_short = refl

-- a flag or merge byte over 1, an expiry out of range
load_range : map number_both
    ((0x53 ∷ 0x54 ∷ 1 ∷ 2 ∷ 0 ∷ 0 ∷ 0 ∷ 0 ∷ 0 ∷ 0 ∷ [])
    ∷ (0x53 ∷ 0x54 ∷ 1 ∷ 0 ∷ 2 ∷ 0 ∷ 0 ∷ 0 ∷ 0 ∷ 0 ∷ [])
    ∷ (0x53 ∷ 0x54 ∷ 1 ∷ 0 ∷ 0 ∷ 2 ∷ 0 ∷ 0 ∷ 0 ∷ 0 ∷ [])
    ∷ (0x53 ∷ 0x54 ∷ 1 ∷ 0 ∷ 0 ∷ 0 ∷ 2 ∷ 0 ∷ 0 ∷ 0 ∷ [])
    ∷ (0x53 ∷ 0x54 ∷ 1 ∷ 0 ∷ 0 ∷ 0 ∷ 0 ∷ 2 ∷ 0 ∷ 0 ∷ [])
    ∷ (0x53 ∷ 0x54 ∷ 2 ∷ 0 ∷ 0 ∷ 0 ∷ 0 ∷ 0 ∷ 0 ∷ 0 ∷ 0 ∷ 0 ∷ 0x09 ∷ 0xC3 ∷ [])
    ∷ (0x53 ∷ 0x54 ∷ 2 ∷ 0 ∷ 0 ∷ 0 ∷ 0 ∷ 0 ∷ 0 ∷ 0 ∷ 0 ∷ 0 ∷ 0xEA ∷ 0x61 ∷ []) ∷ [])
    ≡ 23 ∷ 23 ∷ 23 ∷ 23 ∷ 23 ∷ 23 ∷ 23 ∷ []
unfolding number_both decode number size
load_range = refl

-- what is read: layout 1 with 20,000; a limit of 0 as none; bytes behind the last field not looked at
load_taken : map (loaded Both)
    ((0x53 ∷ 0x54 ∷ 1 ∷ 0 ∷ 1 ∷ 0 ∷ 0 ∷ 1 ∷ 0 ∷ 0 ∷ [])
    ∷ (0x53 ∷ 0x54 ∷ 1 ∷ 0 ∷ 0 ∷ 1 ∷ 0 ∷ 0 ∷ 2 ∷ 1 ∷ 0xFF ∷ 0xFF ∷ [])
    ∷ (0x53 ∷ 0x54 ∷ 2 ∷ 1 ∷ 0 ∷ 0 ∷ 0 ∷ 0 ∷ 0 ∷ 0 ∷ 0 ∷ 0 ∷ 0x09 ∷ 0xC4 ∷ [])
    ∷ (0x53 ∷ 0x54 ∷ 2 ∷ 0 ∷ 0 ∷ 0 ∷ 1 ∷ 1 ∷ 0xFF ∷ 0xFF ∷ 0 ∷ 0 ∷ 0xEA ∷ 0x60 ∷ 2 ∷ []) ∷ [])
    ≡ Ok (settings false true false false HtpDmxMerge Unlimited 20000)
    ∷ Ok (settings false false true false DiscardLowestPriorityThenPrevious (AtMost 513) 20000)
    ∷ Ok (settings true false false false DiscardLowestPriorityThenPrevious Unlimited 2500)
    ∷ Ok (settings false false false true HtpDmxMerge (AtMost 65535) 60000) ∷ []
unfolding decode number size
load_taken = refl

-- the reader that knows layout 1 alone: layout 1 as above; 23 on every record of layout 2, short or out of range too
load_first : map number_first
    ((0x53 ∷ 0x54 ∷ 1 ∷ 0 ∷ 1 ∷ 0 ∷ 0 ∷ 1 ∷ 0 ∷ 0 ∷ [])
    ∷ (0x53 ∷ 0x54 ∷ 1 ∷ 0 ∷ 1 ∷ 0 ∷ 0 ∷ 1 ∷ 0 ∷ [])
    ∷ (0x53 ∷ 0x54 ∷ 2 ∷ [])
    ∷ (0x53 ∷ 0x54 ∷ 2 ∷ 1 ∷ 0 ∷ 0 ∷ 0 ∷ 0 ∷ 0 ∷ 0 ∷ 0 ∷ 0 ∷ 0x09 ∷ 0xC4 ∷ [])
    ∷ (0x53 ∷ 0x54 ∷ 2 ∷ 2 ∷ 0 ∷ 0 ∷ 0 ∷ 0 ∷ 0 ∷ 0 ∷ 0 ∷ 0 ∷ 0x09 ∷ [])
    ∷ (0x53 ∷ 0x54 ∷ [])
    ∷ (0x53 ∷ 0x55 ∷ 1 ∷ []) ∷ [])
    ≡ 0 ∷ 22 ∷ 23 ∷ 23 ∷ 23 ∷ 22 ∷ 22 ∷ []
unfolding number_first decode number size
load_first = refl
