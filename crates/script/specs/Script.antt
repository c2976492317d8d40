-- What a line says: its words and fields, in the order of docs/REPLAY.md's table.
-- Assumes nothing.
use Rattle.std.specs.Prelude.{◌≡◌, Option, Some, None, option_map, option_and_then, Bool, cond, List, [], ℕ, suc, ◌/◌, ◌%◌, ltb, eqb, length, take, drop}
use Rattle.rules.specs.declared.Cid.{Cid}
use Rattle.settings.specs.declared.MergeChoice.TheVariants.{DiscardLowestPriorityThenPrevious, HtpDmxMerge}
use Rattle.settings_store.specs.declared.Layouts.{Layouts}
use Rattle.settings_store.specs.declared.Layouts.TheVariants as layouts
use Rattle.packets.specs.declared.DataPacket.{DataPacket}
use Rattle.script.specs.declared.parse.Stamp.{Stamp}
use Rattle.script.specs.declared.parse.DataNumbers.{DataNumbers}
use Rattle.script.specs.declared.parse.Setting.{Setting}
use Rattle.script.specs.declared.parse.Setting.TheVariants as sets
use Rattle.script.specs.declared.parse.SettingsLine.TheVariants as asks
use Rattle.script.specs.declared.parse.Reset.TheVariants as resets
use Rattle.script.specs.declared.parse.Command.{Command}
use Rattle.script.specs.declared.parse.Command.TheVariants as says
use Rattle.script.specs.declared.parse.SettingWord.{SettingWord}
use Rattle.script.specs.declared.parse.SettingWord.TheVariants as setting
use Rattle.script.specs.declared.parse.RecordWord.{RecordWord}
use Rattle.script.specs.declared.parse.RecordWord.TheVariants as records
use Rattle.script.specs.declared.parse.UniverseWord.{UniverseWord}
use Rattle.script.specs.declared.parse.UniverseWord.TheVariants as universe
use Rattle.script.specs.declared.parse.ReadingWord.{ReadingWord}
use Rattle.script.specs.declared.parse.ReadingWord.TheVariants as reading
use Rattle.script.specs.declared.parse.Word.{Word}
use Rattle.script.specs.declared.parse.Word.TheVariants as word
use Rattle.laws.specs.Ascii.{ascii}
use Rattle.script.specs.Fields.{eql, ending, number_of, small_of, octet_of, options_of, flag_of, source_of, byte_string_of, list_of}

-- ── fields separated by one space ──
abbrev pub first_of : List ℕ → List ℕ
first_of s = take (ending 32 s) s

-- what stands behind the first space
abbrev pub rest_of : List ℕ → List ℕ
rest_of s = drop (suc (ending 32 s)) s

abbrev pub past_two : List ℕ → List ℕ
past_two s = rest_of (rest_of s)

abbrev pub past_five : List ℕ → List ℕ
past_five s = rest_of (rest_of (rest_of (rest_of (rest_of s))))

-- the largest 64-bit number
abbrev pub most : ℕ
most = 18446744073709551615

-- ── words ──
-- a line of one word
abbrev pub lone_of : List ℕ → Option Command
lone_of w =
    cond (eql w (ascii "fresh")) (Some says.Fresh)
    (cond (eql w (ascii "clear_all")) (Some says.ClearAll)
    (cond (eql w (ascii "reset")) (Some (says.Reset resets.Sources))
    (cond (eql w (ascii "reset_pairs")) (Some (says.Reset resets.Pairs))
    (cond (eql w (ascii "reset_discovery")) (Some (says.Reset resets.Discovery))
    (cond (eql w (ascii "dump")) (Some says.Dump)
    (cond (eql w (ascii "settings")) (Some (says.Settings asks.Show))
    None))))))

unfoldable pub record_word : List ℕ → Option Word
record_word w =
    cond (eql w (ascii "raw_limit")) (Some (word.Record records.RawLimit))
    (cond (eql w (ascii "raw_expiry")) (Some (word.Record records.RawExpiry))
    (cond (eql w (ascii "store_settings")) (Some (word.Record records.Store))
    (cond (eql w (ascii "load_settings")) (Some (word.Record records.Load))
    None)))

unfoldable pub setting_word : List ℕ → Option Word
setting_word w =
    cond (eql w (ascii "preview")) (Some (word.Setting setting.Preview))
    (cond (eql w (ascii "announce_discovery")) (Some (word.Setting setting.Discovery))
    (cond (eql w (ascii "announce_termination")) (Some (word.Setting setting.Termination))
    (cond (eql w (ascii "announce_timeout")) (Some (word.Setting setting.Timeout))
    (cond (eql w (ascii "merge")) (Some word.Merge)
    (cond (eql w (ascii "limit")) (Some word.Limit)
    (cond (eql w (ascii "expiry")) (Some word.Expiry)
    (record_word w)))))))

unfoldable pub call_word : List ℕ → Option Word
call_word w =
    cond (eql w (ascii "listen")) (Some word.Listen)
    (cond (eql w (ascii "mute")) (Some (word.Universe universe.Mute))
    (cond (eql w (ascii "listening")) (Some (word.Universe universe.Listening))
    (cond (eql w (ascii "clear")) (Some (word.Universe universe.Clear))
    (cond (eql w (ascii "poll")) (Some (word.Reading reading.Poll))
    (cond (eql w (ascii "sweep")) (Some (word.Reading reading.Sweep))
    (setting_word w))))))

abbrev pub word_of : List ℕ → Option Word
word_of w =
    cond (eql w (ascii "data")) (Some word.Data)
    (cond (eql w (ascii "sync")) (Some word.Sync)
    (cond (eql w (ascii "discovery")) (Some word.Discovery)
    (call_word w)))

-- ── one field ──
abbrev pub flagged : SettingWord → Bool → Setting
flagged setting.Preview on = sets.Preview on
flagged setting.Discovery on = sets.AnnounceDiscovery on
flagged setting.Termination on = sets.AnnounceTermination on
flagged setting.Timeout on = sets.AnnounceTimeout on

abbrev pub setting_of : SettingWord → List ℕ → Option Command
setting_of w s = option_map (λ on. says.Set (flagged w on)) (flag_of s)

abbrev pub aimed : UniverseWord → ℕ → Command
aimed universe.Mute u = says.Mute u
aimed universe.Listening u = says.Listening u
aimed universe.Clear u = says.Clear u

abbrev pub universe_of : UniverseWord → List ℕ → Option Command
universe_of w s = option_map (aimed w) (small_of s)

abbrev pub timed : ReadingWord → ℕ → Command
timed reading.Poll n = says.Poll n
timed reading.Sweep n = says.Sweep n

abbrev pub reading_of : ReadingWord → List ℕ → Option Command
reading_of w s = option_map (timed w) (number_of most s)

abbrev pub merge_of : List ℕ → Option Command
merge_of s =
    cond (eql s (ascii "priority")) (Some (says.Set (sets.Merge DiscardLowestPriorityThenPrevious)))
    (cond (eql s (ascii "highest")) (Some (says.Set (sets.Merge HtpDmxMerge)))
    None)

abbrev pub limit_of : List ℕ → Option Command
limit_of s = cond (eql s (ascii "none")) (Some (says.Set sets.NoLimit)) (option_map (λ n. says.Set (sets.Limit n)) (small_of s))

-- "the setter of the discovery expiry, N of 32 bits"
abbrev pub expiry_of : List ℕ → Option Command
expiry_of s = option_map (λ n. says.Set (sets.Expiry n)) (number_of 4294967295 s)

-- "puts a value into the settings past the setter", N as the setter's
abbrev pub raw_limit_of : List ℕ → Option Command
raw_limit_of s = option_map (λ n. says.Set (sets.RawLimit n)) (small_of s)

abbrev pub raw_expiry_of : List ℕ → Option Command
raw_expiry_of s = option_map (λ n. says.Set (sets.RawExpiry n)) (number_of 4294967295 s)

-- "`store_settings LEN`: .. LEN up to 64"
abbrev pub store_of : List ℕ → Option Command
store_of s = option_map (λ n. says.Settings (asks.Store n)) (number_of 64 s)

-- ── packets: field after field ──
-- what follows from a field, if it is read
abbrev pub given : {A B : Type 0} → Option A → (A → Option B) → Option B
given o f = option_and_then f o

-- NOW CID
unfoldable pub stamp_of : List ℕ → Option Stamp
stamp_of s =
    given (number_of most (first_of s)) (λ n.
    given (source_of (first_of (rest_of s))) (λ c.
    Some (record { «now» = n; cid = c })))

-- UNIVERSE ADDRESS PRIORITY SEQUENCE OPTIONS
unfoldable pub numbers_of : List ℕ → Option DataNumbers
numbers_of s =
    given (small_of (first_of s)) (λ u.
    given (small_of (first_of (rest_of s))) (λ a.
    given (octet_of (first_of (rest_of (rest_of s)))) (λ p.
    given (octet_of (first_of (rest_of (rest_of (rest_of s))))) (λ q.
    given (options_of (octet_of (first_of (rest_of (rest_of (rest_of (rest_of s))))))) (λ o.
    Some (record { universe = u; address = a; priority = p; sequence = q; options = o }))))))

-- "OPTIONS is the sum of 128 preview, 64 terminated, 32 force synchronisation"
abbrev pub data_packet : Cid → DataNumbers → DataPacket
data_packet c n = record {
  cid = c;
  universe = n.universe;
  address = n.address;
  priority = n.priority;
  sequence = record { 0 = n.sequence };
  preview = eqb (n.options / 128 % 2) 1;
  terminated = eqb (n.options / 64 % 2) 1;
  force_synchronization = eqb (n.options / 32 % 2) 1;
}

-- ── a line ──
-- a command, with the bytes and the numbers that it counts
pub record Reading : Type 0 where
  pub command : Command
  pub bytes : List ℕ
  pub numbers : List ℕ

-- a command that counts nothing
abbrev pub bare : Command → Reading
bare c = record { command = c; bytes = []; numbers = [] }

abbrev pub plain : Option Command → Option Reading
plain o = option_map bare o

-- "`data NOW CID UNIVERSE ADDRESS PRIORITY SEQUENCE OPTIONS VALUES`"
abbrev pub data_said : Stamp → DataNumbers → List ℕ → Reading
data_said t n l = record { command = says.Data (record { «now» = t.«now»; packet = data_packet t.cid n; count = length l }); bytes = l; numbers = [] }

unfoldable pub data_of : ℕ → List ℕ → Option Reading
data_of room s =
    given (stamp_of s) (λ t.
    given (numbers_of (past_two s)) (λ n.
    given (byte_string_of room (past_five (past_two s))) (λ l.
    Some (data_said t n l))))

-- "`sync NOW CID ADDRESS SEQUENCE`"
unfoldable pub sync_of : List ℕ → Option Command
sync_of s =
    given (stamp_of s) (λ t.
    given (small_of (first_of (past_two s))) (λ a.
    given (octet_of (rest_of (past_two s))) (λ q.
    Some (says.Sync (record { «now» = t.«now»; packet = record { cid = t.cid; address = a; sequence = record { 0 = q } } })))))

-- "`discovery NOW CID PAGE LAST NAME UNIVERSES`"
abbrev pub page_said : Stamp → ℕ → ℕ → List ℕ → List ℕ → Reading
page_said t p e l us = record {
  command = says.Discovery (record { «now» = t.«now»; packet = record { cid = t.cid; page = p; last_page = e }; name = length l; count = length us });
  bytes = l;
  numbers = us;
}

unfoldable pub discovery_of : ℕ → ℕ → List ℕ → Option Reading
discovery_of room places s =
    given (stamp_of s) (λ t.
    given (octet_of (first_of (past_two s))) (λ p.
    given (octet_of (first_of (rest_of (past_two s)))) (λ e.
    given (byte_string_of room (first_of (past_two (past_two s)))) (λ l.
    given (list_of places (rest_of (past_two (past_two s)))) (λ us.
    Some (page_said t p e l us))))))

abbrev pub listen_said : List ℕ → Reading
listen_said us = record { command = says.Listen (length us); bytes = []; numbers = us }

abbrev pub listen_of : ℕ → List ℕ → Option Reading
listen_of places s = option_map listen_said (list_of places s)

-- "`load_settings HEX`, `load_settings HEX 1`: the reader, and the reader that knows layout 1 alone"
abbrev pub layouts_of : List ℕ → Option Layouts
layouts_of s =
    cond (ltb (ending 32 s) (length s)) (cond (eql (rest_of s) (ascii "1")) (Some layouts.First) None)
    (Some layouts.Both)

abbrev pub load_said : Layouts → List ℕ → Reading
load_said k l = record { command = says.Settings (asks.Load (length l) k); bytes = l; numbers = [] }

abbrev pub load_of : ℕ → List ℕ → Option Reading
load_of room s =
    given (layouts_of s) (λ k.
    given (byte_string_of room (first_of s)) (λ l.
    Some (load_said k l)))

abbrev pub record_of : ℕ → RecordWord → List ℕ → Option Reading
record_of room records.RawLimit s = plain (raw_limit_of s)
record_of room records.RawExpiry s = plain (raw_expiry_of s)
record_of room records.Store s = plain (store_of s)
record_of room records.Load s = load_of room s

abbrev pub fields_of : ℕ → ℕ → Word → List ℕ → Option Reading
fields_of room places word.Data s = data_of room s
fields_of room places word.Sync s = plain (sync_of s)
fields_of room places word.Discovery s = discovery_of room places s
fields_of room places word.Listen s = listen_of places s
fields_of room places word.Merge s = plain (merge_of s)
fields_of room places word.Limit s = plain (limit_of s)
fields_of room places word.Expiry s = plain (expiry_of s)
fields_of room places (word.Setting w) s = plain (setting_of w s)
fields_of room places (word.Record w) s = record_of room w s
fields_of room places (word.Universe w) s = plain (universe_of w s)
fields_of room places (word.Reading w) s = plain (reading_of w s)

-- a line, read into memory that holds so many bytes and so many numbers
unfoldable pub line_of : ℕ → ℕ → List ℕ → Option Reading
line_of room places s = cond (ltb (ending 32 s) (length s)) (given (word_of (first_of s)) (λ w. fields_of room places w (rest_of s))) (plain (lone_of s))

-- the bytes and numbers lie at the front of the lent memory
pub record Lies (x : Reading) (bs us : List ℕ) : Type 0 where
  pub bytes_are : take (length x.bytes) bs ≡ x.bytes
  pub numbers_are : take (length x.numbers) us ≡ x.numbers

-- the command is the line's, and what it counts lies there; or the line says nothing
abbrev pub Reads : Option Reading → Option Command → List ℕ → List ℕ → Type 0
Reads None r bs us = r ≡ None
Reads (Some x) r bs us = (r ≡ Some x.command) × Lies x bs us
