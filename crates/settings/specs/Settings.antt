-- Document 01, 'Settings': "Preview, three announcements, merge choice and a source limit that is either none or 1 to 65,535." Document 02, F-3: "Discovery gets an expiry of its own, held in the settings".
-- Assumes nothing.
use Rattle.std.specs.Prelude.{Result, Ok, Err, Bool, false, cond, ◌&&◌, List, [], ℕ, ◌≤◌, eqb, leb}
use Rattle.std.specs.Result.{result_unwrap_or}
use Rattle.rules.specs.Answer.{Value}
use Rattle.settings.specs.declared.Settings.{Settings}
use Rattle.settings.specs.declared.MergeChoice.{MergeChoice}
use Rattle.settings.specs.declared.MergeChoice.TheVariants.{DiscardLowestPriorityThenPrevious}
use Rattle.settings.specs.declared.SourceLimit.{SourceLimit}
use Rattle.settings.specs.declared.SourceLimit.TheVariants.{Unlimited, AtMost}
use Rattle.settings.specs.declared.SettingError.{SettingError}
use Rattle.settings.specs.declared.SettingError.TheVariants.{LimitZero, ExpiryOutOfRange}

-- the record of its seven parts
abbrev pub settings : Bool → Bool → Bool → Bool → MergeChoice → SourceLimit → ℕ → Settings
settings preview discovery termination timeout merge limit expiry = record {
  process_preview_data = preview;
  announce_source_discovery = discovery;
  announce_stream_termination = termination;
  announce_timeout = timeout;
  merge = merge;
  source_limit = limit;
  discovery_expiry = expiry;
}

-- "Fresh: .. preview and announcements off, merging by `discard_lowest_priority_then_previous`, no limit." F-3: "The fresh value is 20,000."
abbrev pub fresh : Settings
fresh = settings false false false false DiscardLowestPriorityThenPrevious Unlimited 20000

-- each setter changes its part and no other
abbrev pub with_preview : Bool → Settings → Settings
with_preview on s = settings on s.announce_source_discovery s.announce_stream_termination s.announce_timeout s.merge s.source_limit s.discovery_expiry

abbrev pub with_discovery : Bool → Settings → Settings
with_discovery on s = settings s.process_preview_data on s.announce_stream_termination s.announce_timeout s.merge s.source_limit s.discovery_expiry

abbrev pub with_termination : Bool → Settings → Settings
with_termination on s = settings s.process_preview_data s.announce_source_discovery on s.announce_timeout s.merge s.source_limit s.discovery_expiry

abbrev pub with_timeout : Bool → Settings → Settings
with_timeout on s = settings s.process_preview_data s.announce_source_discovery s.announce_stream_termination on s.merge s.source_limit s.discovery_expiry

abbrev pub with_merge : MergeChoice → Settings → Settings
with_merge choice s = settings s.process_preview_data s.announce_source_discovery s.announce_stream_termination s.announce_timeout choice s.source_limit s.discovery_expiry

abbrev pub with_limit : SourceLimit → Settings → Settings
with_limit limit s = settings s.process_preview_data s.announce_source_discovery s.announce_stream_termination s.announce_timeout s.merge limit s.discovery_expiry

abbrev pub without_limit : Settings → Settings
without_limit s = with_limit Unlimited s

abbrev pub with_expiry : ℕ → Settings → Settings
with_expiry expiry s = settings s.process_preview_data s.announce_source_discovery s.announce_stream_termination s.announce_timeout s.merge s.source_limit expiry

-- "limit set to 0 | 14 | nothing | all"
abbrev pub limited : ℕ → Settings → Result Settings SettingError
limited n s = cond (eqb n 0) (Err LimitZero) (Ok (with_limit (AtMost n) s))

-- F-3: "from 2,500 to 60,000 ms"
abbrev pub in_range : ℕ → Bool
in_range n = leb 2500 n && leb n 60000

-- "20 for an expiry outside the range, given by the setter, settings unchanged"
abbrev pub expiring : ℕ → Settings → Result Settings SettingError
expiring n s = cond (in_range n) (Ok (with_expiry n s)) (Err ExpiryOutOfRange)

-- the record after such a setter: the one that it hands back, and on a refusal the one that was there
abbrev pub kept : Result Settings SettingError → Settings → Settings
kept answer s = result_unwrap_or answer s

-- what it answers over a record lent, where the record that it would hand back is stored
abbrev pub told : Result Settings SettingError → Result Unit SettingError
told (Ok t) = Ok tt
told (Err e) = Err e

-- the answer by the table: its number (0 where nothing stopped the call) and its values; of a setter by value, and of one over a record lent
abbrev pub number_of : {A : Type 0} → Result A SettingError → ℕ
number_of (Ok a) = 0
number_of (Err LimitZero) = 14
number_of (Err ExpiryOutOfRange) = 20

abbrev pub values_of : {A : Type 0} → Result A SettingError → List Value
values_of (Ok a) = []
values_of (Err LimitZero) = []
values_of (Err ExpiryOutOfRange) = []

-- "a source limit that is either none or 1 to 65,535"
abbrev pub ProperLimit : SourceLimit → Type 0
ProperLimit Unlimited = Unit {0}
ProperLimit (AtMost n) = (1 ≤ n) × (n ≤ 65535)

abbrev pub ProperExpiry : ℕ → Type 0
ProperExpiry n = (2500 ≤ n) × (n ≤ 60000)

-- what every setter keeps: a proper limit, and a proper expiry
abbrev pub Keeps : Settings → Settings → Type 0
Keeps s t = (ProperLimit s.source_limit → ProperLimit t.source_limit) × (ProperExpiry s.discovery_expiry → ProperExpiry t.discovery_expiry)

abbrev pub Proper : Settings → Type 0
Proper s = ProperLimit s.source_limit × ProperExpiry s.discovery_expiry
