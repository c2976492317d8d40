-- Document 02, F-6: settings in lent bytes. "A record is the mark 53 54 (hexadecimal), a layout byte, then the fields. .. Numbers are big-endian."
-- Assumes nothing.
use Rattle.std.specs.Prelude.{Result, Ok, Err, ◌≡◌, Bool, true, false, cond, not, ◌&&◌, List, [], ◌∷◌, ◌++◌, ℕ, ◌≤◌, eqb, ltb, leb, length, take, drop, get_or}
use Rattle.std.proofs.Math.Option.{Option, none, some}
use Rattle.rules.specs.Answer.{Value}
use Rattle.rules.specs.Answer as answer
use Rattle.rules.specs.Bytes.{bit}
use Rattle.fields.specs.Fields.{Field, size, encode, Decoded, values, short, out_of_range, decode}
use Rattle.settings.specs.declared.Settings.{Settings}
use Rattle.settings.specs.declared.MergeChoice.{MergeChoice}
use Rattle.settings.specs.declared.MergeChoice.TheVariants.{DiscardLowestPriorityThenPrevious, HtpDmxMerge}
use Rattle.settings.specs.declared.SourceLimit.{SourceLimit}
use Rattle.settings.specs.declared.SourceLimit.TheVariants.{Unlimited, AtMost}
use Rattle.settings.specs.Settings.{settings, in_range, Proper}
use Rattle.settings_store.specs.declared.Layouts.{Layouts}
use Rattle.settings_store.specs.declared.Layouts.TheVariants.{First, Both}
use Rattle.settings_store.specs.declared.StoreSettingsError.{StoreSettingsError}
use Rattle.settings_store.specs.declared.StoreSettingsError.TheVariants.{TooShort, LimitZero, ExpiryOutOfRange}
use Rattle.settings_store.specs.declared.LoadSettingsError.{LoadSettingsError}
use Rattle.settings_store.specs.declared.LoadSettingsError.TheVariants.{NoSettingsRecord, UnreadableSettingsRecord}

-- ── the fields ──
-- "one byte each, 0 or 1"; "the merge choice (one byte, 0 by priority, 1 by highest value)"
abbrev pub flag : Field
flag = record { width = 1; allows = λ n. leb n 1 }

-- "the limit (two bytes)"
abbrev pub limit : Field
limit = record { width = 2; allows = λ n. true }

-- "the discovery expiry in four bytes"
abbrev pub expiry : Field
expiry = record { width = 4; allows = in_range }

-- "Layout 1 holds, in this order, preview and the three announcements (discovery, termination, timeout) .., the merge choice .. and the limit"
abbrev pub layout_1 : List Field
layout_1 = flag ∷ flag ∷ flag ∷ flag ∷ flag ∷ limit ∷ []

-- "Layout 2 adds the discovery expiry"
abbrev pub layout_2 : List Field
layout_2 = layout_1 ++ expiry ∷ []

-- ── settings as values of the fields, and back ──
-- "0 by priority, 1 by highest value"
abbrev pub merge_number : MergeChoice → ℕ
merge_number DiscardLowestPriorityThenPrevious = 0
merge_number HtpDmxMerge = 1

abbrev pub merge_of : ℕ → MergeChoice
merge_of n = cond (eqb n 0) DiscardLowestPriorityThenPrevious HtpDmxMerge

-- "A limit of 0 in a record means none"
abbrev pub limit_number : SourceLimit → ℕ
limit_number Unlimited = 0
limit_number (AtMost n) = n

abbrev pub limit_of : ℕ → SourceLimit
limit_of n = cond (eqb n 0) Unlimited (AtMost n)

-- "in this order"
abbrev pub values_of : Settings → List ℕ
values_of s =
    bit s.process_preview_data
    ∷ bit s.announce_source_discovery
    ∷ bit s.announce_stream_termination
    ∷ bit s.announce_timeout
    ∷ merge_number s.merge
    ∷ limit_number s.source_limit
    ∷ s.discovery_expiry
    ∷ []

-- "layout 1 is read with 20,000 for it": its values have no seventh
abbrev pub settings_from : List ℕ → Settings
settings_from vs =
    settings (eqb (get_or vs 0 0) 1) (eqb (get_or vs 1 0) 1) (eqb (get_or vs 2 0) 1) (eqb (get_or vs 3 0) 1)
    (merge_of (get_or vs 4 0)) (limit_of (get_or vs 5 0)) (get_or vs 6 20000)

-- ── the writer ──
-- "The only writer writes layout 2."
abbrev pub record_of : Settings → List ℕ
record_of s = 0x53 ∷ 0x54 ∷ 2 ∷ encode layout_2 (values_of s)

-- mark, layout byte and the eleven bytes of its fields
abbrev pub record_length : ℕ
record_length = 14

-- a limit that no setter leaves
abbrev pub zero_limit : SourceLimit → Bool
zero_limit Unlimited = false
zero_limit (AtMost n) = eqb n 0

-- "The writer gives 15 for too few lent bytes, then 14 for a limit of 0, then 20 for an expiry outside its range"; n bytes are lent
abbrev pub store_answer : Settings → ℕ → Result Unit StoreSettingsError
store_answer s n =
    cond (ltb n record_length) (Err (TooShort record_length))
    (cond (zero_limit s.source_limit) (Err LimitZero)
    (cond (in_range s.discovery_expiry) (Ok tt)
    (Err ExpiryOutOfRange)))

-- ".. and then writes nothing"; "Bytes after the last field are .. not written"
abbrev pub left_by : Result Unit StoreSettingsError → Settings → List ℕ → List ℕ
left_by (Ok u) s before = record_of s ++ drop record_length before
left_by (Err e) s before = before

abbrev pub store_bytes : Settings → List ℕ → List ℕ
store_bytes s before = left_by (store_answer s (length before)) s before

-- ── the reader ──
-- the layouts that a reader knows
abbrev pub fields_of : Layouts → ℕ → Option (List Field)
fields_of First n = cond (eqb n 1) (some layout_1) none
fields_of Both n = cond (eqb n 1) (some layout_1) (cond (eqb n 2) (some layout_2) none)

abbrev pub marked : List ℕ → Bool
marked bytes = eqb (get_or bytes 0 0) 0x53 && eqb (get_or bytes 1 0) 0x54

-- on a stop no setting is shown
abbrev pub shown : Decoded → Result Settings LoadSettingsError
shown (values vs) = Ok (settings_from vs)
shown short = Err NoSettingsRecord
shown out_of_range = Err UnreadableSettingsRecord

-- "Bytes after the last field are not read": what decoding reads is `decode_reads`
abbrev pub of_layout : Option (List Field) → List ℕ → Result Settings LoadSettingsError
of_layout none rest = Err UnreadableSettingsRecord
of_layout (some fs) rest = cond (ltb (length rest) (size fs)) (Err NoSettingsRecord) (shown (decode fs rest))

-- "The three bytes, mark, layout, remaining length and fields are tested in that order."
abbrev pub loaded : Layouts → List ℕ → Result Settings LoadSettingsError
loaded layouts bytes =
    cond (ltb (length bytes) 3) (Err NoSettingsRecord)
    (cond (not (marked bytes)) (Err NoSettingsRecord)
    (of_layout (fields_of layouts (get_or bytes 2 0)) (drop 3 bytes)))

-- ── numbers and values ──
abbrev pub store_number : Result Unit StoreSettingsError → ℕ
store_number (Ok u) = 0
store_number (Err (TooShort n)) = 15
store_number (Err LimitZero) = 14
store_number (Err ExpiryOutOfRange) = 20

abbrev pub store_values : Result Unit StoreSettingsError → List Value
store_values (Ok u) = []
store_values (Err (TooShort n)) = answer.number n ∷ []
store_values (Err LimitZero) = []
store_values (Err ExpiryOutOfRange) = []

-- "22 for under three bytes, a wrong mark, or fewer bytes than a known layout needs; 23 for an unknown layout or a field out of range"
abbrev pub load_number : Result Settings LoadSettingsError → ℕ
load_number (Ok s) = 0
load_number (Err NoSettingsRecord) = 22
load_number (Err UnreadableSettingsRecord) = 23

abbrev pub load_values : Result Settings LoadSettingsError → List Value
load_values (Ok s) = []
load_values (Err NoSettingsRecord) = []
load_values (Err UnreadableSettingsRecord) = []

-- ── what the calls promise ──
-- "Whatever settings were stored come out again alike, and a layout 1 reader given layout 2 stops by number and shows no setting.": whatever bytes follow
pub record Restores (s : Settings) (bytes : List ℕ) : Type 0 where
  pub alike : (rest : List ℕ) → loaded Both (take record_length bytes ++ rest) ≡ Ok s
  pub refused : (rest : List ℕ) → loaded First (take record_length bytes ++ rest) ≡ Err UnreadableSettingsRecord

-- the writer: answer, bytes, and what either reader then makes of them
pub record Stores (s : Settings) (before : List ℕ) (r : Result Unit StoreSettingsError) (after : List ℕ) : Type 0 where
  pub answer_is : r ≡ store_answer s (length before)
  pub bytes_are : after ≡ store_bytes s before
  pub restores : r ≡ Ok tt → Restores s after

-- the bytes of the fields as layout 2 has them: of layout 1 with 20,000 behind them
abbrev pub as_layout_2 : ℕ → List ℕ → List ℕ
as_layout_2 layout rest = cond (eqb layout 1) (take (size layout_1) rest ++ encode (expiry ∷ []) (20000 ∷ [])) (take (size layout_2) rest)

-- settings that were read, written again: the writer does not stop, and the record is the same up to the layout and the bytes behind it
pub record Rewrites (bytes : List ℕ) (s : Settings) : Type 0 where
  pub stored : (n : ℕ) → record_length ≤ n → store_answer s n ≡ Ok tt
  pub same : record_of s ≡ 0x53 ∷ 0x54 ∷ 2 ∷ as_layout_2 (get_or bytes 2 0) (drop 3 bytes)

-- the reader: its answer, and of settings that were read that they are such as the setters leave, and what they are written as
pub record Loads (layouts : Layouts) (bytes : List ℕ) (r : Result Settings LoadSettingsError) : Type 0 where
  pub answer_is : r ≡ loaded layouts bytes
  pub proper : (s : Settings) → r ≡ Ok s → Proper s
  pub again : (s : Settings) → r ≡ Ok s → Rewrites bytes s
