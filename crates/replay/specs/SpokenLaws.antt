-- A command's counts are those of its line, so what the lent memory holds behind them plays no part.
-- Assumes nothing.
use Rattle.std.specs.Prelude.{◌≡◌, refl, Option, Some, None, option_map, Bool, true, false, List, [], ℕ, ltb, length, take}
use Rattle.std.proofs.Common.{sym, ap, ◌∙◌}
use Rattle.std.proofs.lemmas.Option.{none-some, same_Some}
use Rattle.std.proofs.Math.Seq.{take-length}
use Rattle.laws.specs.Cases.{split}
use Rattle.settings.specs.declared.Settings.{Settings}
use Rattle.packets.specs.View.{packet_of}
use Rattle.model.specs.Packet.{data_packet, discovery_packet}
use Rattle.model.specs.State.{State}
use Rattle.model.specs.Calls.{listen_call}
use Rattle.model.specs.Answer.{listen_number, listen_values}
use Rattle.receiver.specs.View.{Memory, space_in}
use Rattle.packets.specs.View.{announcement_of}
use Rattle.script.specs.declared.parse.SettingsLine.TheVariants as asks
use Rattle.script.specs.declared.parse.Command.{Command}
use Rattle.script.specs.declared.parse.Command.TheVariants as says
use Rattle.script.specs.declared.parse.UniverseWord.{UniverseWord}
use Rattle.script.specs.declared.parse.UniverseWord.TheVariants as universe
use Rattle.script.specs.declared.parse.ReadingWord.{ReadingWord}
use Rattle.script.specs.declared.parse.ReadingWord.TheVariants as reading
use Rattle.script.specs.declared.parse.RecordWord.{RecordWord}
use Rattle.script.specs.declared.parse.RecordWord.TheVariants as records
use Rattle.script.specs.declared.parse.Word.{Word}
use Rattle.script.specs.declared.parse.Word.TheVariants as word
use Rattle.laws.specs.Ascii.{ascii}
use Rattle.script.specs.Fields.{eql, ending, number_of, small_of, octet_of, flag_of, byte_string_of, list_of}
use Rattle.script.specs.Script.{most, Reading, Reads, bare, plain, given, first_of, rest_of, past_two, past_five, lone_of, word_of, flagged, aimed, timed, merge_of, limit_of, layouts_of, record_of, stamp_of, numbers_of, data_said, data_of, sync_of, page_said, discovery_of, listen_said, load_said, load_of, fields_of, line_of}
use Rattle.script.specs.Lines.{silent}
use Rattle.replay.specs.Session.{outcome, called, stepped, refused, restored, carried, said, spoken}

-- the counts of a command are the lengths of its bytes and numbers
abbrev pub Counted : Command → List ℕ → List ℕ → Type 0
Counted (says.Data l) bs us = l.count ≡ length bs
Counted (says.Discovery l) bs us = (l.name ≡ length bs) × (l.count ≡ length us)
Counted (says.Listen n) bs us = n ≡ length us
Counted (says.Settings (asks.Load n k)) bs us = n ≡ length bs
Counted says.Fresh bs us = Unit {0}
Counted (says.Set x) bs us = Unit {0}
Counted (says.Settings (asks.Store n)) bs us = Unit {0}
Counted (says.Settings asks.Show) bs us = Unit {0}
Counted (says.Mute u) bs us = Unit {0}
Counted (says.Listening u) bs us = Unit {0}
Counted (says.Poll n) bs us = Unit {0}
Counted (says.Sweep n) bs us = Unit {0}
Counted (says.Clear u) bs us = Unit {0}
Counted says.ClearAll bs us = Unit {0}
Counted (says.Reset x) bs us = Unit {0}
Counted (says.Sync l) bs us = Unit {0}
Counted says.Dump bs us = Unit {0}

abbrev pub Counts : Option Reading → Type 0
Counts None = Unit {0}
Counts (Some x) = Counted x.command x.bytes x.numbers

-- ── every line counts what it reads ──
-- what follows from a field, if it is read
pub given_counts : {A : Type 0} (o : Option A) (f : A → Option Reading) → ((x : A) → Counts (f x)) → Counts (given o f)
given_counts None f h = tt
given_counts (Some x) f h = h x

pub plain_counts : {A : Type 0} (o : Option A) (f : A → Command) → ((x : A) → Counted (f x) [] []) → Counts (plain (option_map f o))
plain_counts None f h = tt
plain_counts (Some x) f h = h x

pub map_counts : {A : Type 0} (o : Option A) (f : A → Reading) → ((x : A) → Counts (Some (f x))) → Counts (option_map f o)
map_counts None f h = tt
map_counts (Some x) f h = h x

pub aim_counts : (w : UniverseWord) (u : ℕ) → Counted (aimed w u) [] []
aim_counts universe.Mute u = tt
aim_counts universe.Listening u = tt
aim_counts universe.Clear u = tt

pub time_counts : (w : ReadingWord) (n : ℕ) → Counted (timed w n) [] []
time_counts reading.Poll n = tt
time_counts reading.Sweep n = tt

load_counts : (room : ℕ) (s : List ℕ) → Counts (load_of room s)
load_counts room s =
    given_counts (layouts_of s) (λ k. given (byte_string_of room (first_of s)) (λ l. Some (load_said k l)))
    (λ k. given_counts (byte_string_of room (first_of s)) (λ l. Some (load_said k l)) (λ l. refl))

record_counts : (room : ℕ) (w : RecordWord) (s : List ℕ) → Counts (record_of room w s)
record_counts room records.RawLimit s = plain_counts (small_of s) _ (λ n. tt)
record_counts room records.RawExpiry s = plain_counts (number_of 4294967295 s) _ (λ n. tt)
record_counts room records.Store s = plain_counts (number_of 64 s) _ (λ n. tt)
record_counts room records.Load s = load_counts room s

lone_counts : (s : List ℕ) → Counts (plain (lone_of s))
lone_counts s =
    split (eql s (ascii "fresh")) (λ e. rw e tt) (λ e.
    rw e (split (eql s (ascii "clear_all")) (λ f. rw f tt) (λ f.
    rw f (split (eql s (ascii "reset")) (λ g. rw g tt) (λ g.
    rw g (split (eql s (ascii "reset_pairs")) (λ h. rw h tt) (λ h.
    rw h (split (eql s (ascii "reset_discovery")) (λ i. rw i tt) (λ i.
    rw i (split (eql s (ascii "dump")) (λ j. rw j tt) (λ j.
    rw j (split (eql s (ascii "settings")) (λ k. rw k tt) (λ k. rw k tt)))))))))))))

-- the same of a command that counts nothing
pub plainly : {A : Type 0} (o : Option A) (f : A → Option Command) → ((x : A) → Counts (plain (f x))) → Counts (plain (given o f))
plainly None f h = tt
plainly (Some x) f h = h x

sync_counts : (s : List ℕ) → Counts (plain (sync_of s))
unfolding sync_of
sync_counts s = plainly (stamp_of s) _ (λ t. plainly (small_of (first_of (past_two s))) _ (λ a. plainly (octet_of (rest_of (past_two s))) _ (λ q. tt)))

data_counts : (room : ℕ) (s : List ℕ) → Counts (data_of room s)
unfolding data_of
data_counts room s =
    given_counts (stamp_of s) _ (λ t. given_counts (numbers_of (past_two s)) _ (λ n. given_counts (byte_string_of room (past_five (past_two s))) _ (λ l. refl)))

discovery_counts : (room places : ℕ) (s : List ℕ) → Counts (discovery_of room places s)
unfolding discovery_of
discovery_counts room places s =
    given_counts (stamp_of s) _ (λ t. given_counts (octet_of (first_of (past_two s))) _ (λ p. given_counts (octet_of (first_of (rest_of (past_two s)))) _ (λ e.
    given_counts (byte_string_of room (first_of (past_two (past_two s)))) _ (λ l. given_counts (list_of places (rest_of (past_two (past_two s)))) _ (λ us. (refl, refl))))))

fields_counts : (room places : ℕ) (w : Word) (s : List ℕ) → Counts (fields_of room places w s)
fields_counts room places word.Data s = data_counts room s
fields_counts room places word.Sync s = sync_counts s
fields_counts room places word.Discovery s = discovery_counts room places s
fields_counts room places word.Listen s = map_counts (list_of places s) listen_said (λ us. refl)
fields_counts room places word.Merge s =
    split (eql s (ascii "priority")) (λ e. rw e tt) (λ e. rw e (split (eql s (ascii "highest")) (λ f. rw f tt) (λ f. rw f tt)))
fields_counts room places word.Limit s = split (eql s (ascii "none")) (λ e. rw e tt) (λ e. rw e (plain_counts (small_of s) _ (λ n. tt)))
fields_counts room places word.Expiry s = plain_counts (number_of 4294967295 s) _ (λ n. tt)
fields_counts room places (word.Setting w) s = plain_counts (flag_of s) _ (λ on. tt)
fields_counts room places (word.Record w) s = record_counts room w s
fields_counts room places (word.Universe w) s = plain_counts (small_of s) (aimed w) (aim_counts w)
fields_counts room places (word.Reading w) s = plain_counts (number_of most s) (timed w) (time_counts w)

line_counts : (room places : ℕ) (s : List ℕ) → Counts (line_of room places s)
unfolding line_of
line_counts room places s =
    split (ltb (ending 32 s) (length s))
    (λ e. rw e (given_counts (word_of (first_of s)) _ (λ w. fields_counts room places w (rest_of s))))
    (λ e. rw e (lone_counts s))

-- ── so the command does what the line says ──
front_same : (n : ℕ) (bs cs : List ℕ) → n ≡ length cs → take (length cs) bs ≡ cs → take n bs ≡ take n cs
front_same n bs cs e h = ap (λ (k : ℕ). take k bs) e ∙ h ∙ sym (take-length cs) ∙ ap (λ (k : ℕ). take k cs) (sym e)

module _ (m : Memory) (output : List ℕ) (S : Settings) (s : State) where
  alike : (c : Command) (bs us cs vs : List ℕ) → Counted c cs vs → take (length cs) bs ≡ cs → take (length vs) us ≡ vs → carried m output bs us c S s ≡ carried m output cs vs c S s
  alike (says.Data l) bs us cs vs h p q =
      ap (λ (x : List ℕ). stepped (space_in m output) output [] l.«now» (data_packet (packet_of l.packet x)) S s) (front_same l.count bs cs h p)
  alike (says.Discovery l) bs us cs vs h p q =
      ap (λ (x : List ℕ). stepped (space_in m output) output x l.«now» (discovery_packet (announcement_of l.packet x (take l.count us))) S s) (front_same l.name bs cs h.0 p)
      ∙ ap (λ (x : List ℕ). stepped (space_in m output) output (take l.name cs) l.«now» (discovery_packet (announcement_of l.packet (take l.name cs) x)) S s) (front_same l.count us vs h.1 q)
  alike (says.Listen n) bs us cs vs h p q = ap (λ (x : List ℕ). called (listen_call x) listen_number listen_values S s) (front_same n us vs h q)
  alike (says.Settings (asks.Load n k)) bs us cs vs h p q = ap (λ (x : List ℕ). restored k x S s) (front_same n bs cs h p)
  alike says.Fresh bs us cs vs h p q = refl
  alike (says.Set x) bs us cs vs h p q = refl
  alike (says.Settings (asks.Store n)) bs us cs vs h p q = refl
  alike (says.Settings asks.Show) bs us cs vs h p q = refl
  alike (says.Mute u) bs us cs vs h p q = refl
  alike (says.Listening u) bs us cs vs h p q = refl
  alike (says.Poll n) bs us cs vs h p q = refl
  alike (says.Sweep n) bs us cs vs h p q = refl
  alike (says.Clear u) bs us cs vs h p q = refl
  alike says.ClearAll bs us cs vs h p q = refl
  alike (says.Reset x) bs us cs vs h p q = refl
  alike (says.Sync l) bs us cs vs h p q = refl
  alike says.Dump bs us cs vs h p q = refl

  -- what was read, as the command that the code has, or as nothing
  pub carried_said : (x : Option Reading) (r : Option Command) (c : Command) (bs us : List ℕ) → Counts x → Reads x r bs us → r ≡ Some c → carried m output bs us c S s ≡ said m output x S s
  carried_said None r c bs us k h e = absurd (none-some c (sym h ∙ e))
  carried_said (Some x) r c bs us k h e =
      ap (λ (d : Command). carried m output bs us d S s) (same_Some c x.command (sym e ∙ h.0))
      ∙ alike x.command bs us x.bytes x.numbers k h.1.bytes_are h.1.numbers_are

  pub refused_said : (x : Option Reading) (r : Option Command) (bs us : List ℕ) → Reads x r bs us → r ≡ None → refused S s ≡ said m output x S s
  refused_said None r bs us h e = refl
  refused_said (Some x) r bs us h e = absurd (none-some x.command (sym e ∙ h.0))

  pub carried_line : (room places : ℕ) (line : List ℕ) (r : Command) (bs us : List ℕ) → Reads (line_of room places line) (Some r) bs us
      → carried m output bs us r S s ≡ said m output (line_of room places line) S s
  carried_line room places line r bs us k = carried_said (line_of room places line) (Some r) r bs us (line_counts room places line) k refl

-- ── a line, by its tests ──
module _ (m : Memory) (output : List ℕ) (room places : ℕ) (long : Bool) (line : List ℕ) (S : Settings) (s : State) where
  pub spoken_silent : silent line ≡ true → outcome S s [] ≡ spoken m output room places long line S s
  spoken_silent h = sym (rw h)

  pub spoken_long : silent line ≡ false → long ≡ true → refused S s ≡ spoken m output room places long line S s
  spoken_long h l = sym (rw (h, l))

  module _ (h : silent line ≡ false) (l : long ≡ false) (r : Option Command) (bs us : List ℕ) (k : Reads (line_of room places line) r bs us) where
    pub spoken_said : (c : Command) → r ≡ Some c → carried m output bs us c S s ≡ spoken m output room places long line S s
    spoken_said c e = rw (h, l) (carried_said m output S s (line_of room places line) r c bs us (line_counts room places line) k e)

    pub spoken_none : r ≡ None → refused S s ≡ spoken m output room places long line S s
    spoken_none e = rw (h, l) (refused_said m output S s (line_of room places line) r bs us k e)
