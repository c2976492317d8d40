-- What a command does to settings and state and what it prints, by the model's definitions; and when the program's memory follows it.
-- Assumes nothing.
use Rattle.std.specs.Prelude.{◌≡◌, Option, Some, None, Result, Bool, cond, List, [], ℕ, ◌≤◌, length, take, replicate}
use Rattle.std.specs.Result.{result_unwrap_or}
use Rattle.rules.specs.Answer.{Value}
use Rattle.settings.specs.declared.Settings.{Settings}
use Rattle.settings.specs.declared.SettingError.{SettingError}
use Rattle.settings.specs.declared.SourceLimit.TheVariants.{AtMost}
use Rattle.settings.specs.Settings as setting
use Rattle.settings_store.specs.declared.Layouts.{Layouts}
use Rattle.settings_store.specs.declared.LoadSettingsError.{LoadSettingsError}
use Rattle.settings_store.specs.Record.{store_answer, store_bytes, loaded, load_number, load_values}
use Rattle.waiting.specs.Records.{records, over}
use Rattle.waiting.specs.Waiting.{store_length}
use Rattle.lengths.specs.Space.{bytes}
use Rattle.packets.specs.View.{packet_of, sync_of}
use Rattle.model.specs.Packet.{Packet, data_packet, sync_packet, discovery_packet}
use Rattle.model.specs.State.{State, listens}
use Rattle.model.specs.State as model
use Rattle.model.specs.Step.{Space, step}
use Rattle.model.specs.Calls.{poll_call, expiry_call, listen_call, mute_call, clear_call, clear_all_call, reset_pairs_call, reset_discovery_call, reset_call}
use Rattle.model.specs.Answer.{poll_number, poll_values, expiry_number, expiry_values, listen_number, listen_values, mute_number, mute_values, clear_number, clear_values}
use Rattle.receiver.specs.declared.Receiver.{Receiver}
use Rattle.discovery.specs.Discovery.{pool_length}
use Rattle.receiver.specs.View.{Memory, state_of, space_in, Kept}
use Rattle.packets.specs.View.{announcement_of}
use Rattle.script.specs.declared.parse.Reset.{Reset}
use Rattle.script.specs.declared.parse.Reset.TheVariants as resets
use Rattle.script.specs.declared.parse.Command.{Command}
use Rattle.script.specs.declared.parse.Command.TheVariants as says
use Rattle.script.specs.declared.parse.Setting.{Setting}
use Rattle.script.specs.declared.parse.Setting.TheVariants as sets
use Rattle.script.specs.declared.parse.SettingsLine.{SettingsLine}
use Rattle.script.specs.declared.parse.SettingsLine.TheVariants as asks
use Rattle.replay.specs.declared.calls.Session.{Session}
use Rattle.script.specs.declared.lines.Input.{Input}
use Rattle.laws.specs.Ascii.{ascii}
use Rattle.script.specs.Lines.{Unread, silent}
use Rattle.printing.specs.Text.{Ready, Tells}
use Rattle.printing.specs.Answers.{answer_line, flag_line, step_line, store_line, settings_line}
use Rattle.replay.specs.Dump.{dump_text}
use Rattle.script.specs.Script.{Reading, line_of}

-- ── what a command does ──
pub record Outcome : Type 0 where
  pub settings : Settings
  pub state : State
  pub text : List ℕ

abbrev pub outcome : Settings → State → List ℕ → Outcome
outcome S s text = record { settings = S; state = s; text = text }

-- "`fresh`: a fresh receiver with fresh settings"
abbrev pub begun : Outcome
begun = outcome setting.fresh model.fresh (answer_line 0 [])

-- a setter
abbrev pub set_to : Settings → State → Outcome
set_to S s = outcome S s (answer_line 0 [])

-- a setter that can refuse
abbrev pub answered : Result Settings SettingError → Settings → State → Outcome
answered r S s = outcome (setting.kept r S) s (answer_line (setting.number_of r) (setting.values_of r))

-- a call that answers
abbrev pub called : {A : Type 0} → (State → State × A) → (A → ℕ) → (A → List Value) → Settings → State → Outcome
called call number values S s = outcome S (call s).0 (answer_line (number (call s).1) (values (call s).1))

-- a call that nothing stops
abbrev pub changed : (State → State) → Settings → State → Outcome
changed call S s = outcome S (call s) (answer_line 0 [])

-- "`reset_pairs`, `reset_discovery`: the halves of `reset`"
abbrev pub resetting : Reset → State → State
resetting resets.Sources s = reset_call s
resetting resets.Pairs s = reset_pairs_call s
resetting resets.Discovery s = reset_discovery_call s

abbrev pub asked : ℕ → Settings → State → Outcome
asked u S s = outcome S s (flag_line (listens u s.listened))

-- a step, with the packet's own name; the released bytes lie at the front of the output that was lent
abbrev pub stepped : Space → List ℕ → List ℕ → ℕ → Packet → Settings → State → Outcome
stepped space output own now p S s =
    let o = step space S now p s in
    outcome S o.state (step_line own (over (records o.released) output) o.answer)

abbrev pub dumped : Settings → State → Outcome
dumped S s = outcome S s (dump_text s)

-- "A line that is none of these prints `error` and changes nothing."
abbrev pub refused : Settings → State → Outcome
refused S s = outcome S s (ascii "error\n")

abbrev pub adjusted : Setting → Settings → State → Outcome
adjusted (sets.Preview on) S s = set_to (setting.with_preview on S) s
adjusted (sets.AnnounceDiscovery on) S s = set_to (setting.with_discovery on S) s
adjusted (sets.AnnounceTermination on) S s = set_to (setting.with_termination on S) s
adjusted (sets.AnnounceTimeout on) S s = set_to (setting.with_timeout on S) s
adjusted (sets.Merge choice) S s = set_to (setting.with_merge choice S) s
adjusted sets.NoLimit S s = set_to (setting.without_limit S) s
adjusted (sets.Limit n) S s = answered (setting.limited n S) S s
adjusted (sets.Expiry n) S s = answered (setting.expiring n S) S s
-- "puts a value into the settings past the setter"
adjusted (sets.RawLimit n) S s = set_to (setting.with_limit (AtMost n) S) s
adjusted (sets.RawExpiry n) S s = set_to (setting.with_expiry n S) s

-- the writer on lent bytes; "after 0 all LEN bytes as a byte string"
abbrev pub stored : List ℕ → Settings → State → Outcome
stored lent S s = outcome S s (store_line (store_bytes S lent) (store_answer S (length lent)))

-- "after 0 the script's settings are those that were read"; else they stay
abbrev pub settings_read : Result Settings LoadSettingsError → Settings → Settings
settings_read r S = result_unwrap_or r S

-- "the reader, and the reader that knows layout 1 alone"
abbrev pub restored : Layouts → List ℕ → Settings → State → Outcome
restored layouts bytes S s =
    let a = loaded layouts bytes in
    outcome (settings_read a S) s (answer_line (load_number a) (load_values a))

-- "after 0: preview, announce_discovery, .., the expiry"
abbrev pub shown : Settings → State → Outcome
shown S s = outcome S s (settings_line S)

-- written into "LEN lent bytes that each hold cc (hexadecimal)", read, or shown; the state has no part in it
abbrev pub recorded : List ℕ → SettingsLine → Settings → State → Outcome
recorded bs (asks.Store n) S s = stored (replicate n 0xCC) S s
recorded bs (asks.Load n layouts) S s = restored layouts (take n bs) S s
recorded bs asks.Show S s = shown S s

-- each command, with the bytes and the numbers that its line put into lent memory
abbrev pub carried : Memory → List ℕ → List ℕ → List ℕ → Command → Settings → State → Outcome
carried m output bs us says.Fresh S s = begun
carried m output bs us (says.Set x) S s = adjusted x S s
carried m output bs us (says.Settings x) S s = recorded bs x S s
carried m output bs us (says.Listen n) S s = called (listen_call (take n us)) listen_number listen_values S s
carried m output bs us (says.Mute u) S s = called (mute_call u) mute_number mute_values S s
carried m output bs us (says.Listening u) S s = asked u S s
carried m output bs us (says.Poll now) S s = called (poll_call (length m.store) S now) poll_number poll_values S s
carried m output bs us (says.Sweep now) S s = called (expiry_call (bytes m.universes) S now) expiry_number expiry_values S s
carried m output bs us (says.Clear u) S s = called (clear_call (length m.store) u) clear_number clear_values S s
carried m output bs us says.ClearAll S s = changed clear_all_call S s
carried m output bs us (says.Reset x) S s = changed (resetting x) S s
carried m output bs us (says.Data l) S s =
    stepped (space_in m output) output [] l.now (data_packet (packet_of l.packet (take l.count bs))) S s
carried m output bs us (says.Sync l) S s = stepped (space_in m output) output [] l.now (sync_packet (sync_of l.packet)) S s
carried m output bs us (says.Discovery l) S s =
    stepped (space_in m output) output (take l.name bs) l.now (discovery_packet (announcement_of l.packet (take l.name bs) (take l.count us))) S s
carried m output bs us says.Dump S s = dumped S s

-- what was read of a line; "A line that is none of these prints `error` and changes nothing."
abbrev pub said : Memory → List ℕ → Option Reading → Settings → State → Outcome
said m output None S s = refused S s
said m output (Some x) S s = carried m output x.bytes x.numbers x.command S s

-- a line, read into memory that holds so many bytes and so many numbers; of a line that is too long this is the front
abbrev pub spoken : Memory → List ℕ → ℕ → ℕ → Bool → List ℕ → Settings → State → Outcome
spoken m output room places long line S s =
    cond (silent line) (outcome S s [])
    (cond long (refused S s) (said m output (line_of room places line) S s))

-- ── the program's memory ──
-- a receiver whose calls may be made, with stores of full length
pub record Fit (r : Receiver) (m : Memory) : Type 0 where
  pub kept : Kept r m
  pub store_room : store_length ≤ length m.store
  pub pool_room : pool_length ≤ length m.universes

-- settings, state and text are the outcome's, and the next call may be made
pub record Carries (s : Session) (m : Memory) (out : List ℕ) (o : Outcome) (s' : Session) (m' : Memory) (out' : List ℕ) : Type 0 where
  pub settings_are : s'.settings ≡ o.settings
  pub state_is : state_of s'.receiver m' ≡ o.state
  pub told : Tells o.text out s.at out' s'.at
  pub kept_on : Fit s.receiver m → Kept s'.receiver m'

-- what one line leaves for the next
pub record Runs (s : Session) (i : Input) (m : Memory) (chunk out : List ℕ) : Type 0 where
  pub fit : Fit s.receiver m
  pub ready : Ready s.at out
  pub unread : Unread i.at i.end chunk
