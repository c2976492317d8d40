-- DEMAND 3, the statement. Its proof is `demand-3` in Proof.antt. Every step in it is the model's own, with every stop in it.
-- Each field below quotes the sentence of the demand, or of document 01's 'North and South', that it states.
-- Assumes nothing.
use Rattle.std.specs.Prelude.{◌≡◌, ◌≢◌, true, false, cond, List, [], ◌∷◌, map, ℕ, suc, ◌+◌, ◌≤◌, ◌<◌, eqb, length}
use Rattle.std.proofs.Math.Option.{Option, none, some}
use Rattle.std.proofs.Math.ListN.{get_elem?}
use Rattle.laws.specs.Table.{store}
use Rattle.rules.specs.declared.Cid.{Cid}
use Rattle.rules.specs.Cid.{before}
use Rattle.rules.specs.Answer.{Value}
use Rattle.settings.specs.declared.Settings.{Settings}
use Rattle.settings.specs.declared.MergeChoice.TheVariants.{HtpDmxMerge}
use Rattle.settings.specs.declared.SourceLimit.{SourceLimit}
use Rattle.settings.specs.declared.SourceLimit.TheVariants.{Unlimited, AtMost}
use Rattle.pairs.specs.Table.{itself}
use Rattle.waiting.specs.Records.{records}
use Rattle.discovery.specs.Discovery.{lookup}
use Rattle.model.specs.Answer.{step_number, step_values}
use Rattle.model.specs.Packet.{DataPacket, SyncPacket, Packet, data_packet, sync_packet, discovery_packet, sender}
use Rattle.model.specs.State.{State, fresh, listens}
use Rattle.model.specs.Step.{Space, Outcome, too_short, step}
use Rattle.model.specs.Calls.{listen_call, mute_call}

-- ── the two lists ──
-- "data, synchronisation and discovery packets, each with its reading"
pub record Timed : Type 0 where
  pub reading : ℕ
  pub packet : Packet

-- element number i of the list is x
abbrev pub At : {A : Type 0} → List A → ℕ → A → Type 0
At xs i x = get_elem? xs i ≡ some x

-- how often the number i stands in the list
unfoldable pub count : ℕ → List ℕ → ℕ
count i [] = 0
count i (j ∷ js) = cond (eqb i j) 1 0 + count i js

-- element number k of ys is the element of xs whose number is element k of `places`
abbrev pub Picks : {A : Type 0} → List ℕ → List A → List A → Type 0
Picks {A} places xs ys = map {A = A} {B = Option A} some ys ≡ map (get_elem? xs) places

-- "every reordering": South's packet number k is North's packet number places[k], and each packet of North is taken exactly once
pub record Reordering {A : Type 0} (places : List ℕ) (north south : List A) : Type 0 where
  pub picks : Picks places north south
  pub once : (i : ℕ) → i < length north → count i places ≡ 1

-- "Moved past: standing in opposite orders in the two lists." North's packets number i and j, i before j in North
pub record MovedPast (places : List ℕ) (i j : ℕ) : Type 0 where
  pub k : ℕ
  pub l : ℕ
  pub north_order : i < j
  pub south_order : k < l
  pub first : At places k j
  pub second : At places l i

-- "A packet is of an address if it is a synchronisation packet for it or a data packet that carries it":
-- neither is a synchronisation packet of the other's address. A synchronisation packet of address 0 may be moved past every packet: that asks less,
-- so the theorem holds whether or not 0 is taken for an address
abbrev pub Free : Packet → Packet → Type 0
Free (data_packet d) (data_packet e) = Unit {0}
Free (data_packet d) (sync_packet y) = y.address ≢ 0 → d.address ≢ y.address
Free (data_packet d) (discovery_packet a) = Unit {0}
Free (sync_packet y) (data_packet d) = y.address ≢ 0 → d.address ≢ y.address
Free (sync_packet y) (sync_packet z) = y.address ≢ 0 → y.address ≢ z.address
Free (sync_packet y) (discovery_packet a) = Unit {0}
Free (discovery_packet a) b = Unit {0}

-- ── the two runs ──
-- "listened universes": what a fresh receiver is told before its run
pub data Telling : Type 0 where
  listen : List ℕ → Telling
  mute : ℕ → Telling

unfoldable pub tell : List Telling → State → State
tell [] s = s
tell (listen us ∷ ts) s = tell ts (listen_call us s).0
tell (mute u ∷ ts) s = tell ts (mute_call u s).0

-- "each from a fresh receiver"
abbrev pub start : List Telling → State
start ts = tell ts fresh

-- the name that a packet carries; number 9 returns it
abbrev pub name_of : Packet → List ℕ
name_of (data_packet d) = []
name_of (sync_packet y) = []
name_of (discovery_packet a) = a.name

-- "Answers agree in number, returned values, record count and byte length; released bytes are the output within that length."
-- The record count and the byte length are values of a release
pub record Answered : Type 0 where
  pub number : ℕ
  pub values : List Value
  pub bytes : List ℕ

abbrev pub answered : Packet → Outcome → Answered
answered p o = record { number = step_number o.answer; values = step_values (name_of p) o.answer; bytes = records o.released }

-- "One step per packet, refused or not; one settings record for every step." "Each step gets the state and stores that the last one left";
-- step number i is lent the space `lent i`, and what the output holds before it does not matter
module _ (S : Settings) (lent : ℕ → Space) where
  abbrev pub outcome_of : ℕ → State → Timed → Outcome
  outcome_of i s p = step (lent i) S p.reading p.packet s

  -- the state after every packet of the list, and the answers, one for each packet
  unfoldable pub end : ℕ → State → List Timed → State
  end i s [] = s
  end i s (p ∷ ps) = end (suc i) (outcome_of i s p).state ps

  unfoldable pub answers : ℕ → State → List Timed → List Answered
  answers i s [] = []
  answers i s (p ∷ ps) = answered p.packet (outcome_of i s p) ∷ answers (suc i) (outcome_of i s p).state ps

-- ── what is asked of the lists and the settings ──
-- packet number i of the list is this data packet, this synchronisation packet
abbrev pub DataAt : List Timed → ℕ → ℕ → DataPacket → Type 0
DataAt ps i now d = At ps i (record { reading = now; packet = data_packet d })

abbrev pub SyncAt : List Timed → ℕ → ℕ → SyncPacket → Type 0
SyncAt ps i now y = At ps i (record { reading = now; packet = sync_packet y })

-- "readings never fall"
abbrev pub NeverFalls : List Timed → Type 0
NeverFalls ps = (k l : ℕ) (p q : Timed) → k < l → At ps k p → At ps l q → p.reading ≤ q.reading

-- "Sources are counted by the CIDs in data and synchronisation packets."
unfoldable pub counted : Packet → List Cid → List Cid
counted (data_packet d) cs = store before itself d.cid cs
counted (sync_packet y) cs = store before itself y.cid cs
counted (discovery_packet a) cs = cs

unfoldable pub sources_of : List Timed → List Cid
sources_of [] = []
sources_of (p ∷ ps) = counted p.packet (sources_of ps)

-- "sources number no more than the limit"
abbrev pub InLimit : SourceLimit → List Cid → Type 0
InLimit Unlimited cs = Unit {0}
InLimit (AtMost m) cs = length cs ≤ m

-- "neither run gives 10 to 13"
abbrev pub NoneFull : List Answered → Type 0
NoneFull rs = (i : ℕ) (a : Answered) → At rs i a → (10 ≤ a.number) × (a.number ≤ 13) → ⊥

-- "one settings record for every step": S serves both runs; each receiver has its own list of tellings
pub record Asked (S : Settings) (told_north told_south : List Telling) (places : List ℕ) (north south : List Timed)
    (lent_north lent_south : ℕ → Space) : Type 0 where
  pub reordering : Reordering places north south
  -- "each from a fresh receiver, with the same settings and listened universes"
  pub alike_told : (start told_north).listened ≡ (start told_south).listened
  -- "The reordering keeps each source's own order"
  pub own_order : (i j : ℕ) (p q : Timed) → MovedPast places i j → At north i p → At north j q → sender p.packet ≢ sender q.packet
  -- "and moves no synchronisation packet past another packet of its address"
  pub address_order : (i j : ℕ) (p q : Timed) → MovedPast places i j → At north i p → At north j q → Free p.packet q.packet
  -- "readings never fall in either run"
  pub north_rises : NeverFalls north
  pub south_rises : NeverFalls south
  -- "Timeout announcements are off"
  pub timeouts_off : S.announce_timeout ≡ false
  -- "merging is by highest value"
  pub highest_value : S.merge ≡ HtpDmxMerge
  -- "sources number no more than the limit"
  pub in_limit : InLimit S.source_limit (sources_of north)
  -- "enough lent space": "Lent space is enough if no rule for 15 applies."
  pub north_space : (i : ℕ) → i < length north → too_short (lent_north i) ≡ none
  pub south_space : (i : ℕ) → i < length south → too_short (lent_south i) ≡ none
  -- "Every universe and non-zero address in data and synchronisation packets is listened to from the start."
  -- The proof uses each of the three; no lists are known on which one of them alone decides
  pub universe_heard : (i now : ℕ) (d : DataPacket) → DataAt north i now d → listens d.universe (start told_north).listened ≡ true
  pub address_heard : (i now : ℕ) (d : DataPacket) → DataAt north i now d → d.address ≢ 0 → listens d.address (start told_north).listened ≡ true
  pub sync_heard : (i now : ℕ) (y : SyncPacket) → SyncAt north i now y → y.address ≢ 0 → listens y.address (start told_north).listened ≡ true
  -- "A universe's data are all unsynchronised, or all under one address" ("Unsynchronised: address 0.")
  pub one_address : (i j now then : ℕ) (d e : DataPacket) → DataAt north i now d → DataAt north j then e → d.universe ≡ e.universe → d.address ≡ e.address
  -- "never empty"
  pub not_empty : (i now : ℕ) (d : DataPacket) → DataAt north i now d → d.values ≢ []
  -- "and alike in their first value"
  pub one_first : (i j now then : ℕ) (d e : DataPacket) → DataAt north i now d → DataAt north j then e → d.universe ≡ e.universe
      → get_elem? d.values 0 ≡ get_elem? e.values 0

-- One premise stands apart from `Asked`, since it is asked of answers: of the definition's in `Demand3`, of those that the caller sees in the crate `reorder_code`
pub record NeitherFull (north south : List Answered) : Type 0 where
  -- "and neither run gives 10 to 13"
  pub north_fits : NoneFull north
  pub south_fits : NoneFull south

-- ── what follows ──
-- "both end with equal sequence records, waiting data and listened universes, and equal discovery records source by source"
pub record EndAlike (s t : State) : Type 0 where
  -- "Sequence records: both pair tables with sequences, readings and CID lists."
  pub same_data : s.data_pairs ≡ t.data_pairs
  pub same_sync : s.sync_pairs ≡ t.sync_pairs
  -- "Waiting data: all seven fields."
  pub same_waiting : s.waiting ≡ t.waiting
  pub same_listened : s.listened ≡ t.listened
  -- "Discovery records: each CID's partial and listed entry, with name, last page, reading and pages in order."
  pub same_partial : (c : Cid) → lookup c s.discovered.partial ≡ lookup c t.discovered.partial
  pub same_listed : (c : Cid) → lookup c s.discovered.listed ≡ lookup c t.discovered.listed

pub record Agreed (S : Settings) (told_north told_south : List Telling) (places : List ℕ) (north south : List Timed)
    (lent_north lent_south : ℕ → Space) : Type 0 where
  -- "Then each packet has the same answer and released bytes in North and South": South's answer number k is North's number places[k]
  pub same_answers : Picks places (answers S lent_north 0 (start told_north) north) (answers S lent_south 0 (start told_south) south)
  pub same_end : EndAlike (end S lent_south 0 (start told_south) south) (end S lent_north 0 (start told_north) north)

-- "This is one claim about the two lists, not one for each step."
abbrev pub Demand3 : Type 0
Demand3 =
    (S : Settings) (told_north told_south : List Telling) (places : List ℕ) (north south : List Timed) (lent_north lent_south : ℕ → Space)
    → Asked S told_north told_south places north south lent_north lent_south
    → NeitherFull (answers S lent_north 0 (start told_north) north) (answers S lent_south 0 (start told_south) south)
    → Agreed S told_north told_south places north south lent_north lent_south
