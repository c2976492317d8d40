-- What crosses the C boundary, as the receiver and the model have it.
-- Assumes nothing.
use Rattle.std.specs.Prelude.{Result, Ok, Err, cond, List, [], ◌∷◌, ℕ, eqb, ℤ, pos}
use Rattle.laws.specs.declared.After.{After}
use Rattle.rules.specs.declared.Cid.{Cid}
use Rattle.rules.specs.Answer.{Value, number, integer, source, name}
use Rattle.settings.specs.declared.Settings.{Settings}
use Rattle.settings.specs.Settings.{settings}
use Rattle.settings_store.specs.declared.StoreSettingsError.{StoreSettingsError}
use Rattle.settings_store.specs.declared.StoreSettingsError.TheVariants as storing
use Rattle.settings_store.specs.declared.LoadSettingsError.{LoadSettingsError}
use Rattle.settings_store.specs.declared.LoadSettingsError.TheVariants as loading
use Rattle.settings_store.specs.Record.{merge_number, merge_of, limit_number, limit_of}
use Rattle.model.specs.declared.StepAnswer.{StepAnswer}
use Rattle.model.specs.declared.StepAnswer.TheVariants as says
use Rattle.model.specs.declared.PollAnswer.{PollAnswer}
use Rattle.model.specs.declared.PollAnswer.TheVariants as polling
use Rattle.model.specs.declared.ExpiryAnswer.{ExpiryAnswer}
use Rattle.model.specs.declared.ExpiryAnswer.TheVariants as expiry
use Rattle.model.specs.declared.ListenAnswer.{ListenAnswer}
use Rattle.model.specs.declared.ListenAnswer.TheVariants as listen
use Rattle.model.specs.declared.MuteAnswer.{MuteAnswer}
use Rattle.model.specs.declared.MuteAnswer.TheVariants as muting
use Rattle.model.specs.declared.ClearAnswer.{ClearAnswer}
use Rattle.model.specs.declared.ClearAnswer.TheVariants as clearing
use Rattle.discovery.specs.Discovery.{Announcement}
use Rattle.rules.specs.Bytes.{bit}
use Rattle.model.specs.Packet.{DataPacket, SyncPacket}
use Rattle.receiver.specs.declared.Receiver.{Receiver}
use Rattle.boundary.specs.declared.Header.{Header}
use Rattle.boundary.specs.declared.Choices.{Choices}
use Rattle.boundary.specs.declared.Data.{Data}
use Rattle.boundary.specs.declared.Sync.{Sync}
use Rattle.boundary.specs.declared.Page.{Page}
use Rattle.boundary.specs.declared.Answer.{Answer}
use Rattle.boundary.specs.declared.Reply.{Reply}
use Rattle.boundary.specs.declared.Adjusted.{Adjusted}

-- ── the header ──
abbrev pub receiver_of : Header → Receiver
receiver_of h = record {
  sequences = record {
    «data» = record { table = record { count = h.data_pairs; source_count = h.data_sources; oldest = h.data_oldest; tidy = h.data_tidy }; kind = record {} };
    sync = record { table = record { count = h.sync_pairs; source_count = h.sync_sources; oldest = h.sync_oldest; tidy = h.sync_tidy }; kind = record {} };
  };
  waiting = record { count = h.waiting };
  listened = record { count = h.listened };
  discovery = record { source_count = h.sources; page_count = h.pages; used = h.page_universes };
}

abbrev pub header_of : Receiver → Header
header_of r = record {
  data_pairs = r.sequences.«data».table.count;
  data_sources = r.sequences.«data».table.source_count;
  data_oldest = r.sequences.«data».table.oldest;
  sync_pairs = r.sequences.sync.table.count;
  sync_sources = r.sequences.sync.table.source_count;
  sync_oldest = r.sequences.sync.table.oldest;
  waiting = r.waiting.count;
  listened = r.listened.count;
  sources = r.discovery.source_count;
  pages = r.discovery.page_count;
  page_universes = r.discovery.used;
  data_tidy = r.sequences.«data».table.tidy;
  sync_tidy = r.sequences.sync.table.tidy;
}

-- ── the settings ──
-- merge, 0 for the choice by priority and any other number for the highest values, and limit, 0 for none, as in a settings record; the expiry as it is
abbrev pub settings_of : Choices → Settings
settings_of c = settings c.process_preview_data c.announce_source_discovery c.announce_stream_termination c.announce_timeout (merge_of c.merge) (limit_of c.source_limit) c.discovery_expiry

abbrev pub choices_of : Settings → Choices
choices_of s = record {
  process_preview_data = s.process_preview_data;
  announce_source_discovery = s.announce_source_discovery;
  announce_stream_termination = s.announce_stream_termination;
  announce_timeout = s.announce_timeout;
  merge = merge_number s.merge;
  source_limit = limit_number s.source_limit;
  discovery_expiry = s.discovery_expiry;
}

-- ── the packets ──
abbrev pub packet_in : Data → List ℕ → DataPacket
packet_in d values = record {
  cid = record { hi = d.hi; lo = d.lo };
  universe = d.universe;
  address = d.address;
  priority = d.priority;
  sequence = d.sequence;
  preview = d.preview;
  terminated = d.terminated;
  force_synchronization = d.force_synchronization;
  values = values;
}

abbrev pub sync_in : Sync → SyncPacket
sync_in y = record { cid = record { hi = y.hi; lo = y.lo }; address = y.address; sequence = y.sequence }

abbrev pub announced_in : Page → List ℕ → List ℕ → Announcement
announced_in p called list = record { cid = record { hi = p.hi; lo = p.lo }; name = called; page = p.page; last_page = p.last_page; universes = list }

-- ── the answers ──
-- the values that an answer has; number 9 returns the name of the packet in hand
abbrev pub values_in : List ℕ → Answer → List Value
values_in own a =
    cond (eqb a.values 0) []
    (cond (eqb a.values 1) (number a.first ∷ [])
    (cond (eqb a.values 2) (number a.first ∷ number a.second ∷ [])
    (cond (eqb a.values 3) (source (record { hi = a.hi; lo = a.lo }) ∷ number a.first ∷ [])
    (cond (eqb a.values 4) (number a.first ∷ number a.second ∷ integer a.difference ∷ [])
    (name own ∷ [])))))

-- an answer made of a number and its values
abbrev pub bare_of : ℕ → Answer
bare_of n = record { first = 0; second = 0; hi = 0; lo = 0; number = n; values = 0; difference = pos 0 }

abbrev pub one_of : ℕ → ℕ → Answer
one_of n a = record { first = a; second = 0; hi = 0; lo = 0; number = n; values = 1; difference = pos 0 }

abbrev pub two_of : ℕ → ℕ → ℕ → Answer
two_of n a b = record { first = a; second = b; hi = 0; lo = 0; number = n; values = 2; difference = pos 0 }

abbrev pub pair_of : ℕ → Cid → ℕ → Answer
pair_of n c u = record { first = u; second = 0; hi = c.hi; lo = c.lo; number = n; values = 3; difference = pos 0 }

abbrev pub sequence_of : ℕ → ℕ → ℕ → ℤ → Answer
sequence_of n a l d = record { first = a; second = l; hi = 0; lo = 0; number = n; values = 4; difference = d }

abbrev pub discovered_of : Answer
discovered_of = record { first = 0; second = 0; hi = 0; lo = 0; number = 9; values = 5; difference = pos 0 }

abbrev pub told_of : StepAnswer → Answer
told_of says.Nothing = bare_of 0
told_of (says.Released r b) = two_of 0 r b
told_of (says.TooLong n) = one_of 1 n
told_of (says.IllegalUniverse u) = one_of 2 u
told_of (says.UniverseTimeout c u) = pair_of 4 c u
told_of (says.UniverseTerminated c u) = pair_of 5 c u
told_of (says.SourcesExceeded n) = one_of 6 n
told_of (says.OutOfSequence a l d) = sequence_of 7 a l d
told_of says.DmxMergeError = bare_of 8
told_of says.SourceDiscovered = discovered_of
told_of says.PairsFull = bare_of 10
told_of says.ListenedFull = bare_of 11
told_of says.WaitingFull = bare_of 12
told_of says.PagesFull = bare_of 13
told_of (says.TooShort n) = one_of 15 n
told_of (says.Repeated a l d) = sequence_of 21 a l d

abbrev pub polled_of : PollAnswer → Answer
polled_of polling.Polled = bare_of 0
polled_of (polling.UniverseTimeout c u) = pair_of 4 c u
polled_of (polling.TooShort n) = one_of 15 n

abbrev pub swept_of : ExpiryAnswer → Answer
swept_of expiry.Swept = bare_of 0
swept_of (expiry.TooShort n) = one_of 15 n

abbrev pub heard_of : ListenAnswer → Answer
heard_of listen.Listening = bare_of 0
heard_of (listen.IllegalUniverse u) = one_of 2 u
heard_of listen.ListenedFull = bare_of 11

abbrev pub muted_of : MuteAnswer → Answer
muted_of muting.Muted = bare_of 0
muted_of (muting.IllegalUniverse u) = one_of 2 u
muted_of (muting.UniverseNotRegistered u) = one_of 3 u

abbrev pub cleared_of : ClearAnswer → Answer
cleared_of (clearing.Cleared b) = one_of 0 (bit b)
cleared_of (clearing.TooShort n) = one_of 15 n

-- the writer of a settings record
abbrev pub stored_of : Result Unit StoreSettingsError → Answer
stored_of (Ok u) = bare_of 0
stored_of (Err (storing.TooShort n)) = one_of 15 n
stored_of (Err storing.LimitZero) = bare_of 14
stored_of (Err storing.ExpiryOutOfRange) = bare_of 20

-- its reader: the settings that were read, or the caller's as they were
abbrev pub refused_of : Choices → ℕ → Adjusted
refused_of c n = record { choices = c; number = n }

abbrev pub loaded_of : Choices → Result Settings LoadSettingsError → Adjusted
loaded_of c (Ok s) = record { choices = choices_of s; number = 0 }
loaded_of c (Err loading.NoSettingsRecord) = refused_of c 22
loaded_of c (Err loading.UnreadableSettingsRecord) = refused_of c 23

-- what a step leaves and answers
abbrev pub reply_of : After Receiver StepAnswer → Reply
reply_of h = record { header = header_of h.left; answer = told_of h.answer }
