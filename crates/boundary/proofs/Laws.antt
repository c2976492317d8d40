-- What is turned over is the same: header, settings, reply; and each answer has the model's number and values.
-- Assumes nothing.
use Rattle.std.specs.Prelude.{Result, Ok, Err, ◌≡◌, refl, false, List, ℕ}
use Rattle.laws.specs.declared.After.{After}
use Rattle.settings.specs.declared.Settings.{Settings}
use Rattle.settings.specs.Settings.{settings, Proper}
use Rattle.settings.specs.declared.MergeChoice.{MergeChoice}
use Rattle.settings.specs.declared.SourceLimit.{SourceLimit}
use Rattle.settings_store.specs.declared.StoreSettingsError.{StoreSettingsError}
use Rattle.settings_store.specs.declared.StoreSettingsError.TheVariants as storing
use Rattle.settings_store.specs.declared.LoadSettingsError.{LoadSettingsError}
use Rattle.settings_store.specs.declared.LoadSettingsError.TheVariants as loading
use Rattle.settings_store.specs.Record.{merge_number, merge_of, limit_number, limit_of, zero_limit, store_number, store_values, load_number}
use Rattle.settings_store.proofs.Laws.{merge_back, limit_back, proper_limit}
use Rattle.model.specs.declared.StepAnswer.{StepAnswer}
use Rattle.model.specs.declared.StepAnswer.TheVariants as says
use Rattle.model.specs.declared.PollAnswer.{PollAnswer}
use Rattle.model.specs.declared.PollAnswer.TheVariants as polling
use Rattle.model.specs.declared.ExpiryAnswer.{ExpiryAnswer}
use Rattle.model.specs.declared.ExpiryAnswer.TheVariants as expiry
use Rattle.model.specs.declared.ListenAnswer.{ListenAnswer}
use Rattle.model.specs.declared.ListenAnswer.TheVariants as listen
use Rattle.model.specs.declared.MuteAnswer.{MuteAnswer}
use Rattle.model.specs.declared.MuteAnswer.TheVariants as muting
use Rattle.model.specs.declared.ClearAnswer.{ClearAnswer}
use Rattle.model.specs.declared.ClearAnswer.TheVariants as clearing
use Rattle.model.specs.Answer.{step_number, step_values, poll_number, poll_values, expiry_number, expiry_values, listen_number, listen_values, mute_number, mute_values, clear_number, clear_values}
use Rattle.receiver.specs.declared.Receiver.{Receiver}
use Rattle.boundary.specs.declared.Header.{Header}
use Rattle.boundary.specs.declared.Choices.{Choices}
use Rattle.boundary.specs.declared.Answer.{Answer}
use Rattle.boundary.specs.Boundary.{receiver_of, header_of, settings_of, choices_of, values_in, told_of, polled_of, swept_of, heard_of, muted_of, cleared_of, stored_of, loaded_of, reply_of}
use Rattle.boundary.specs.Laws.{Tells}

-- ── the header, the settings, the reply ──
-- nothing of the receiver is lost
pub there_and_back : (r : Receiver) → receiver_of (header_of r) ≡ r
there_and_back r = refl

pub settings_are : (c : Choices) (m : MergeChoice) (l : SourceLimit) → m ≡ merge_of c.merge → l ≡ limit_of c.source_limit
    → settings c.process_preview_data c.announce_source_discovery c.announce_stream_termination c.announce_timeout m l c.discovery_expiry ≡ settings_of c
settings_are c m l e f = λ i. settings c.process_preview_data c.announce_source_discovery c.announce_stream_termination c.announce_timeout (e i) (f i) c.discovery_expiry

pub choices_are : (s : Settings) (m l : ℕ) → m ≡ merge_number s.merge → l ≡ limit_number s.source_limit
    → record {
      process_preview_data = s.process_preview_data;
      announce_source_discovery = s.announce_source_discovery;
      announce_stream_termination = s.announce_stream_termination;
      announce_timeout = s.announce_timeout;
      merge = m;
      source_limit = l;
      discovery_expiry = s.discovery_expiry;
    }
    ≡ choices_of s
choices_are s m l e f = rw (e, f)

-- settings whose limit is not 0 cross to C and back alike
pub choices_back : (s : Settings) → zero_limit s.source_limit ≡ false → settings_of (choices_of s) ≡ s
choices_back s h = λ i. settings s.process_preview_data s.announce_source_discovery s.announce_stream_termination s.announce_timeout (merge_back s.merge i) (limit_back s.source_limit h i) s.discovery_expiry

pub reply_is : (h : After Receiver StepAnswer) (x : Header) (a : Answer) → x ≡ header_of h.left → a ≡ told_of h.answer → record { header = x; answer = a } ≡ reply_of h
reply_is h x a e f = λ i. record { header = e i; answer = f i }

-- ── a step ──
pub step_number_lem : (a : StepAnswer) → (told_of a).number ≡ step_number a
step_number_lem says.Nothing = refl
step_number_lem (says.Released r b) = refl
step_number_lem (says.TooLong n) = refl
step_number_lem (says.IllegalUniverse u) = refl
step_number_lem (says.UniverseTimeout c u) = refl
step_number_lem (says.UniverseTerminated c u) = refl
step_number_lem (says.SourcesExceeded n) = refl
step_number_lem (says.OutOfSequence a l d) = refl
step_number_lem says.DmxMergeError = refl
step_number_lem says.SourceDiscovered = refl
step_number_lem says.PairsFull = refl
step_number_lem says.ListenedFull = refl
step_number_lem says.WaitingFull = refl
step_number_lem says.PagesFull = refl
step_number_lem (says.TooShort n) = refl
step_number_lem (says.Repeated a l d) = refl

pub step_values_lem : (own : List ℕ) (a : StepAnswer) → values_in own (told_of a) ≡ step_values own a
step_values_lem own says.Nothing = refl
step_values_lem own (says.Released r b) = refl
step_values_lem own (says.TooLong n) = refl
step_values_lem own (says.IllegalUniverse u) = refl
step_values_lem own (says.UniverseTimeout c u) = refl
step_values_lem own (says.UniverseTerminated c u) = refl
step_values_lem own (says.SourcesExceeded n) = refl
step_values_lem own (says.OutOfSequence a l d) = refl
step_values_lem own says.DmxMergeError = refl
step_values_lem own says.SourceDiscovered = refl
step_values_lem own says.PairsFull = refl
step_values_lem own says.ListenedFull = refl
step_values_lem own says.WaitingFull = refl
step_values_lem own says.PagesFull = refl
step_values_lem own (says.TooShort n) = refl
step_values_lem own (says.Repeated a l d) = refl

pub tells_poll : (a : PollAnswer) → Tells poll_number poll_values a (polled_of a)
tells_poll polling.Polled = record { number_is = refl; values_are = λ own. refl }
tells_poll (polling.UniverseTimeout c u) = record { number_is = refl; values_are = λ own. refl }
tells_poll (polling.TooShort n) = record { number_is = refl; values_are = λ own. refl }

pub tells_expiry : (a : ExpiryAnswer) → Tells expiry_number expiry_values a (swept_of a)
tells_expiry expiry.Swept = record { number_is = refl; values_are = λ own. refl }
tells_expiry (expiry.TooShort n) = record { number_is = refl; values_are = λ own. refl }

pub tells_listen : (a : ListenAnswer) → Tells listen_number listen_values a (heard_of a)
tells_listen listen.Listening = record { number_is = refl; values_are = λ own. refl }
tells_listen (listen.IllegalUniverse u) = record { number_is = refl; values_are = λ own. refl }
tells_listen listen.ListenedFull = record { number_is = refl; values_are = λ own. refl }

pub tells_mute : (a : MuteAnswer) → Tells mute_number mute_values a (muted_of a)
tells_mute muting.Muted = record { number_is = refl; values_are = λ own. refl }
tells_mute (muting.IllegalUniverse u) = record { number_is = refl; values_are = λ own. refl }
tells_mute (muting.UniverseNotRegistered u) = record { number_is = refl; values_are = λ own. refl }

pub tells_clear : (a : ClearAnswer) → Tells clear_number clear_values a (cleared_of a)
tells_clear (clearing.Cleared b) = record { number_is = refl; values_are = λ own. refl }
tells_clear (clearing.TooShort n) = record { number_is = refl; values_are = λ own. refl }

pub tells_store : (a : Result Unit StoreSettingsError) → Tells store_number store_values a (stored_of a)
tells_store (Ok u) = record { number_is = refl; values_are = λ own. refl }
tells_store (Err (storing.TooShort n)) = record { number_is = refl; values_are = λ own. refl }
tells_store (Err storing.LimitZero) = record { number_is = refl; values_are = λ own. refl }
tells_store (Err storing.ExpiryOutOfRange) = record { number_is = refl; values_are = λ own. refl }

-- ── a settings record that was read ──
pub load_number_lem : (c : Choices) (a : Result Settings LoadSettingsError) → (loaded_of c a).number ≡ load_number a
load_number_lem c (Ok s) = refl
load_number_lem c (Err loading.NoSettingsRecord) = refl
load_number_lem c (Err loading.UnreadableSettingsRecord) = refl

-- on a stop the caller's settings are left field by field
pub load_left : (c : Choices) (a : Result Settings LoadSettingsError) → ((loaded_of c a).number ≡ 0 → ⊥) → (loaded_of c a).choices ≡ c
load_left c (Ok s) h = absurd (h refl)
load_left c (Err loading.NoSettingsRecord) h = refl
load_left c (Err loading.UnreadableSettingsRecord) h = refl

-- else they are those that were read
pub load_taken : (c : Choices) (a : Result Settings LoadSettingsError) (s : Settings) → a ≡ Ok s → Proper s → settings_of (loaded_of c a).choices ≡ s
load_taken c a s e p = rw e (choices_back s (proper_limit s.source_limit p.0))
