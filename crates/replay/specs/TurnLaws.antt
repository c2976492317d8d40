-- That a command's counts are those of its line, field by field: of each form, whatever its fields are, and from each of its fields on.
-- Assumes nothing.
use Rattle.std.specs.Prelude.{refl, Option, Some, option_map, Bool, List, [], ℕ}
use Rattle.settings_store.specs.declared.Layouts.{Layouts}
use Rattle.script.specs.declared.parse.Stamp.{Stamp}
use Rattle.script.specs.declared.parse.DataNumbers.{DataNumbers}
use Rattle.script.specs.declared.parse.Setting.TheVariants as sets
use Rattle.script.specs.declared.parse.SettingsLine.TheVariants as asks
use Rattle.script.specs.declared.parse.Command.{Command}
use Rattle.script.specs.declared.parse.Command.TheVariants as says
use Rattle.script.specs.declared.parse.SettingWord.{SettingWord}
use Rattle.script.specs.declared.parse.UniverseWord.{UniverseWord}
use Rattle.script.specs.declared.parse.ReadingWord.{ReadingWord}
use Rattle.script.specs.Fields.{octet_of, small_of, byte_string_of, list_of}
use Rattle.script.specs.Script.{plain, given, first_of, rest_of, past_five, flagged, aimed, timed, numbers_of, data_said, page_said, listen_said, load_said}
use Rattle.replay.specs.SpokenLaws as spoken
use Rattle.replay.specs.SpokenLaws.{Counts, given_counts, plain_counts, plainly, map_counts}

-- ── one field ──
pub set_counts : (w : SettingWord) (x : Option Bool) → Counts (plain (option_map (λ on. says.Set (flagged w on)) x))
set_counts w x = plain_counts x _ (λ on. tt)

pub aim_counts : (w : UniverseWord) (x : Option ℕ) → Counts (plain (option_map (aimed w) x))
aim_counts w x = plain_counts x (aimed w) (spoken.aim_counts w)

pub time_counts : (w : ReadingWord) (x : Option ℕ) → Counts (plain (option_map (timed w) x))
time_counts w x = plain_counts x (timed w) (spoken.time_counts w)

pub number_counts : (x : Option ℕ) → Counts (plain (option_map (λ n. says.Set (sets.Limit n)) x))
number_counts x = plain_counts x _ (λ n. tt)

pub expiry_counts : (x : Option ℕ) → Counts (plain (option_map (λ n. says.Set (sets.Expiry n)) x))
expiry_counts x = plain_counts x _ (λ n. tt)

pub raw_limit_counts : (x : Option ℕ) → Counts (plain (option_map (λ n. says.Set (sets.RawLimit n)) x))
raw_limit_counts x = plain_counts x _ (λ n. tt)

pub raw_expiry_counts : (x : Option ℕ) → Counts (plain (option_map (λ n. says.Set (sets.RawExpiry n)) x))
raw_expiry_counts x = plain_counts x _ (λ n. tt)

pub store_counts : (x : Option ℕ) → Counts (plain (option_map (λ n. says.Settings (asks.Store n)) x))
store_counts x = plain_counts x _ (λ n. tt)

pub listen_counts : (o : Option (List ℕ)) → Counts (option_map listen_said o)
listen_counts o = map_counts o listen_said (λ us. refl)

-- ── layouts and bytes ──
pub load_counts : (x : Option Layouts) (o : Option (List ℕ)) → Counts (given x (λ k. given o (λ l. Some (load_said k l))))
load_counts x o = given_counts x _ (λ k. given_counts o _ (λ l. refl))

-- ── ADDRESS SEQUENCE ──
abbrev pub sync_said : Stamp → ℕ → ℕ → Command
sync_said t a q = says.Sync (record { «now» = t.«now»; packet = record { cid = t.cid; address = a; sequence = record { 0 = q } } })

pub sequence_counts : (t : Stamp) (a : ℕ) (x : Option ℕ) → Counts (plain (given x (λ q. Some (sync_said t a q))))
sequence_counts t a x = plainly x _ (λ q. tt)

pub address_counts : (t : Stamp) (x : Option ℕ) (s : List ℕ) → Counts (plain (given x (λ a. given (octet_of s) (λ q. Some (sync_said t a q)))))
address_counts t x s = plainly x _ (λ a. sequence_counts t a (octet_of s))

pub sync_counts : (x : Option Stamp) (s : List ℕ) → Counts (plain (given x (λ t. given (small_of (first_of s)) (λ a. given (octet_of (rest_of s)) (λ q. Some (sync_said t a q))))))
sync_counts x s = plainly x _ (λ t. address_counts t (small_of (first_of s)) (rest_of s))

-- ── UNIVERSE ADDRESS PRIORITY SEQUENCE OPTIONS VALUES ──
pub values_counts : (t : Stamp) (n : DataNumbers) (o : Option (List ℕ)) → Counts (given o (λ l. Some (data_said t n l)))
values_counts t n o = given_counts o _ (λ l. refl)

pub numbers_counts : (room : ℕ) (t : Stamp) (x : Option DataNumbers) (s : List ℕ) → Counts (given x (λ n. given (byte_string_of room (past_five s)) (λ l. Some (data_said t n l))))
numbers_counts room t x s = given_counts x _ (λ n. values_counts t n (byte_string_of room (past_five s)))

pub data_counts : (room : ℕ) (x : Option Stamp) (s : List ℕ) → Counts (given x (λ t. given (numbers_of s) (λ n. given (byte_string_of room (past_five s)) (λ l. Some (data_said t n l)))))
data_counts room x s = given_counts x _ (λ t. numbers_counts room t (numbers_of s) s)

-- ── PAGE LAST NAME UNIVERSES ──
pub universes_counts : (t : Stamp) (p e : ℕ) (l : List ℕ) (o : Option (List ℕ)) → Counts (given o (λ us. Some (page_said t p e l us)))
universes_counts t p e l o = given_counts o _ (λ us. (refl, refl))

pub name_counts : (t : Stamp) (p e : ℕ) (o x : Option (List ℕ)) → Counts (given o (λ l. given x (λ us. Some (page_said t p e l us))))
name_counts t p e o x = given_counts o _ (λ l. universes_counts t p e l x)

pub last_counts : (room places : ℕ) (t : Stamp) (p : ℕ) (x : Option ℕ) (s : List ℕ)
    → Counts (given x (λ e. given (byte_string_of room (first_of s)) (λ l. given (list_of places (rest_of s)) (λ us. Some (page_said t p e l us)))))
last_counts room places t p x s = given_counts x _ (λ e. name_counts t p e (byte_string_of room (first_of s)) (list_of places (rest_of s)))

pub page_counts : (room places : ℕ) (t : Stamp) (x : Option ℕ) (s : List ℕ)
    → Counts (given x (λ p. given (octet_of (first_of s)) (λ e. given (byte_string_of room (first_of (rest_of s))) (λ l. given (list_of places (rest_of (rest_of s))) (λ us. Some (page_said t p e l us))))))
page_counts room places t x s = given_counts x _ (λ p. last_counts room places t p (octet_of (first_of s)) (rest_of s))

pub discovery_counts : (room places : ℕ) (x : Option Stamp) (s : List ℕ)
    → Counts (given x (λ t. given (octet_of (first_of s)) (λ p. given (octet_of (first_of (rest_of s))) (λ e.
    given (byte_string_of room (first_of (rest_of (rest_of s)))) (λ l. given (list_of places (rest_of (rest_of (rest_of s)))) (λ us. Some (page_said t p e l us)))))))
discovery_counts room places x s = given_counts x _ (λ t. page_counts room places t (octet_of (first_of s)) (rest_of s))
