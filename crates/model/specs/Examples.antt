-- Computed examples that pin the definitions down: document 01's trial values that concern steps, its traps, and two desks with a sync.
-- Assumes nothing.
use Rattle.std.specs.Prelude.{◌≡◌, true, false, List, [], ◌∷◌, map, ℕ}
use Rattle.rules.specs.declared.Cid.{Cid}
use Rattle.rules.specs.Answer.{number}
use Rattle.settings.specs.declared.Settings.{Settings}
use Rattle.settings.specs.declared.MergeChoice.TheVariants.{HtpDmxMerge}
use Rattle.settings.specs.declared.SourceLimit.TheVariants.{AtMost}
use Rattle.settings.specs.Settings.{with_termination, with_merge, with_limit, with_discovery, with_timeout}
use Rattle.settings.specs.Settings as settings
use Rattle.pairs.specs.declared.Pair.{Pair}
use Rattle.merge.specs.declared.SourceCid.TheVariants.{Merged, Of}
use Rattle.merge.specs.Merge.{Dmx}
use Rattle.waiting.specs.Records.{records}
use Rattle.discovery.specs.Discovery.{Announcement, Source, Page}
use Rattle.model.specs.declared.MuteAnswer.TheVariants as muting
use Rattle.model.specs.Answer.{step_number, step_values}
use Rattle.model.specs.Packet.{DataPacket, SyncPacket, Packet, data_packet, sync_packet, discovery_packet}
use Rattle.model.specs.State.{State, fresh}
use Rattle.model.specs.Step.{Space, step}
use Rattle.model.specs.Calls.{listen_call, muted}

-- enough of everything
abbrev pub enough : Space
enough = record { output = 35072; waiting_values = 32832; page_universes = 65536 }

-- a fresh receiver that was told to listen
abbrev listening_to : List ℕ → State
listening_to us = (listen_call us fresh).0

-- packets with their readings, one after the other: the state after them, and each answer
abbrev Timed : Type 0
Timed = ℕ × Packet

unfoldable pub after : Settings → List Timed → State → State
after S [] s = s
after S (p ∷ ps) s = after S ps (step enough S p.0 p.1 s).state

unfoldable pub numbers : Settings → List Timed → State → List ℕ
numbers S [] s = []
numbers S (p ∷ ps) s = step_number (step enough S p.0 p.1 s).answer ∷ numbers S ps (step enough S p.0 p.1 s).state

unfoldable pub released : Settings → List Timed → State → List (List ℕ)
released S [] s = []
released S (p ∷ ps) s = records (step enough S p.0 p.1 s).released ∷ released S ps (step enough S p.0 p.1 s).state

-- sources
abbrev cid : ℕ → Cid
cid n = record { hi = 0; lo = n }

-- a data packet: source, universe, address, priority, sequence, values
abbrev data_of : ℕ → ℕ → ℕ → ℕ → ℕ → List ℕ → DataPacket
data_of c u a p q vs = record {
  cid = cid c;
  universe = u;
  address = a;
  priority = p;
  sequence = q;
  preview = false;
  terminated = false;
  force_synchronization = false;
  values = vs;
}

abbrev end_of : ℕ → ℕ → ℕ → DataPacket
end_of c u q = record {
  cid = cid c;
  universe = u;
  address = 0;
  priority = 100;
  sequence = q;
  preview = false;
  terminated = true;
  force_synchronization = false;
  values = 0 ∷ [];
}

abbrev sync_of : ℕ → ℕ → ℕ → SyncPacket
sync_of c a q = record { cid = cid c; address = a; sequence = q }

abbrev page_of : ℕ → ℕ → ℕ → List ℕ → Announcement
page_of c n l us = record { cid = cid c; name = 0x41 ∷ []; page = n; last_page = l; universes = us }

abbrev highest_wins : Settings
highest_wins = with_merge HtpDmxMerge settings.fresh

-- what stands in each part, as numbers
unfoldable pub waiting_values : State → List (List ℕ)
waiting_values s = map (λ (d : Dmx). d.values) s.waiting

unfoldable pub sync_universes : State → List ℕ
sync_universes s = map (λ (p : Pair). p.universe) s.sync_pairs.pairs

unfoldable pub data_sequences : State → List ℕ
data_sequences s = map (λ (p : Pair). p.sequence) s.data_pairs.pairs

unfoldable pub page_numbers : State → List (List ℕ)
page_numbers s = map (λ (x : Source). map (λ (p : Page). p.number) x.pages) s.discovered.listed

-- every example is a computation
pub record Pinned : Type 0 where
  -- ── trial values ──
  -- "From a fresh receiver told to listen to universe 1, a step prints .." (37 bytes)
  pub printed :
      released settings.fresh
      ((
        1000,
        data_packet (record {
          cid = record { hi = 0x1111111111111111; lo = 0x1111111111111111 };
          universe = 1;
          address = 0;
          priority = 100;
          sequence = 0;
          preview = false;
          terminated = false;
          force_synchronization = false;
          values = 0 ∷ 255 ∷ [];
        }),
      ) ∷ [])
      (listening_to (1 ∷ []))
      ≡ (0x55 ∷ 0x44 ∷ 0x00 ∷ 0x01 ∷ 0x00 ∷ 0x00 ∷ 0x64 ∷ 0x00 ∷ 0x01
      ∷ 0x11 ∷ 0x11 ∷ 0x11 ∷ 0x11 ∷ 0x11 ∷ 0x11 ∷ 0x11 ∷ 0x11 ∷ 0x11 ∷ 0x11 ∷ 0x11 ∷ 0x11 ∷ 0x11 ∷ 0x11 ∷ 0x11 ∷ 0x11
      ∷ 0x00 ∷ 0x00 ∷ 0x00 ∷ 0x00 ∷ 0x00 ∷ 0x00 ∷ 0x03 ∷ 0xE8 ∷ 0x00 ∷ 0x02 ∷ 0x00 ∷ 0xFF ∷ []) ∷ []
  -- "Limit 1, A known: B gets 6 with count 1; A aged 2,500: B accepted."
  pub limit :
      numbers (with_limit (AtMost 1) settings.fresh)
      ((0, data_packet (data_of 1 1 0 100 0 (0 ∷ []))) ∷ (2499, data_packet (data_of 2 1 0 100 0 (0 ∷ []))) ∷ (2500, data_packet (data_of 2 1 0 100 0 (0 ∷ []))) ∷ [])
      (listening_to (1 ∷ []))
      ≡ 0 ∷ 6 ∷ 0 ∷ []
  pub limit_count :
      step_values []
      (step enough (with_limit (AtMost 1) settings.fresh) 1 (data_packet (data_of 2 1 0 100 0 (0 ∷ [])))
      (after settings.fresh ((0, data_packet (data_of 1 1 0 100 0 (0 ∷ []))) ∷ []) (listening_to (1 ∷ [])))).answer
      ≡ number 1 ∷ []
  -- "Last page 1: pages 0,0,1 never list; 1,0 list."
  pub never_lists :
      numbers (with_discovery true settings.fresh)
      ((0, discovery_packet (page_of 1 0 1 (1 ∷ []))) ∷ (0, discovery_packet (page_of 1 0 1 (1 ∷ []))) ∷ (0, discovery_packet (page_of 1 1 1 (2 ∷ []))) ∷ [])
      fresh
      ≡ 0 ∷ 0 ∷ 0 ∷ []
  pub lists :
      numbers (with_discovery true settings.fresh)
      ((0, discovery_packet (page_of 1 1 1 (2 ∷ []))) ∷ (0, discovery_packet (page_of 1 0 1 (1 ∷ []))) ∷ [])
      fresh
      ≡ 0 ∷ 9 ∷ []
  -- ── traps ──
  -- a termination comes before the sequence rule: sequence 5 after 5 ends the stream
  pub ends_before_sequence :
      numbers (with_termination true settings.fresh)
      ((0, data_packet (data_of 1 1 0 100 5 (0 ∷ []))) ∷ (0, data_packet (end_of 1 1 5)) ∷ [])
      (listening_to (1 ∷ []))
      ≡ 0 ∷ 5 ∷ []
  -- a sync pair stays when the data pair is unknown, and goes with a known one
  pub sync_pair_stays :
      sync_universes
      (after settings.fresh ((0, sync_packet (sync_of 1 7 0)) ∷ (0, data_packet (end_of 1 7 0)) ∷ []) (listening_to (7 ∷ [])))
      ≡ 7 ∷ []
  pub sync_pair_goes :
      sync_universes
      (after settings.fresh ((0, data_packet (data_of 1 7 0 100 0 (0 ∷ []))) ∷ (0, sync_packet (sync_of 1 7 0)) ∷ (0, data_packet (end_of 1 7 1)) ∷ []) (listening_to (7 ∷ [])))
      ≡ []
  -- a source's own waiting packet is merged, not replaced
  pub own_packet_merges :
      waiting_values
      (after highest_wins ((0, data_packet (data_of 1 1 7 100 0 (0 ∷ 9 ∷ []))) ∷ (0, data_packet (data_of 1 1 7 100 1 (0 ∷ 4 ∷ 5 ∷ []))) ∷ []) (listening_to (1 ∷ [])))
      ≡ (0 ∷ 9 ∷ 5 ∷ []) ∷ []
  -- the first last_page value counts: page 0 of 1, then page 1 of 2
  pub first_last_page :
      numbers (with_discovery true settings.fresh)
      ((0, discovery_packet (page_of 1 0 1 (1 ∷ []))) ∷ (0, discovery_packet (page_of 1 1 2 (2 ∷ []))) ∷ [])
      fresh
      ≡ 0 ∷ 9 ∷ []
  -- a termination leaves the waiting data
  pub waiting_outlives_end :
      waiting_values
      (after settings.fresh ((0, data_packet (data_of 1 1 7 100 0 (0 ∷ 9 ∷ []))) ∷ (0, data_packet (end_of 1 1 1)) ∷ []) (listening_to (1 ∷ [])))
      ≡ (0 ∷ 9 ∷ []) ∷ []
  -- ── further rules ──
  -- a refused sequence leaves what was stored
  pub refused_leaves :
      data_sequences
      (after settings.fresh ((0, data_packet (data_of 1 1 0 100 10 (0 ∷ []))) ∷ (0, data_packet (data_of 1 1 0 100 247 (0 ∷ []))) ∷ []) (listening_to (1 ∷ [])))
      ≡ 10 ∷ []
  -- an illegal address gives 2, and the stored sequence stands
  pub illegal_address :
      numbers settings.fresh
      ((0, data_packet (data_of 1 1 64000 100 0 (0 ∷ []))) ∷ (0, data_packet (data_of 1 1 64000 100 0 (0 ∷ []))) ∷ [])
      (listening_to (1 ∷ []))
      ≡ 2 ∷ 21 ∷ []
  -- document 02, F-4, in both tables: the number again is a repeat, the one before it late; neither renews the reading, so at 2,500 the source is new
  pub data_repeats :
      numbers settings.fresh
      ((0, data_packet (data_of 1 1 0 100 10 (0 ∷ []))) ∷ (1, data_packet (data_of 1 1 0 100 10 (0 ∷ []))) ∷ (1, data_packet (data_of 1 1 0 100 9 (0 ∷ []))) ∷ (2499, data_packet (data_of 1 1 0 100 10 (0 ∷ []))) ∷ (2500, data_packet (data_of 1 1 0 100 10 (0 ∷ []))) ∷ [])
      (listening_to (1 ∷ []))
      ≡ 0 ∷ 21 ∷ 7 ∷ 21 ∷ 0 ∷ []
  pub sync_repeats :
      numbers settings.fresh
      ((0, sync_packet (sync_of 1 1 10)) ∷ (1, sync_packet (sync_of 1 1 10)) ∷ (1, sync_packet (sync_of 1 1 9)) ∷ (2499, sync_packet (sync_of 1 1 10)) ∷ (2500, sync_packet (sync_of 1 1 10)) ∷ [])
      (listening_to (1 ∷ []))
      ≡ 0 ∷ 21 ∷ 7 ∷ 21 ∷ 0 ∷ []
  -- a refused merge gives 8 and loses both
  pub refused_merge :
      numbers highest_wins
      ((0, data_packet (data_of 1 1 7 100 0 (0 ∷ 9 ∷ []))) ∷ (0, data_packet (data_of 2 1 7 100 0 (1 ∷ 9 ∷ []))) ∷ (0, sync_packet (sync_of 1 7 0)) ∷ [])
      (listening_to (1 ∷ []))
      ≡ 0 ∷ 8 ∷ 0 ∷ []
  -- an announced timeout ends the step; the packet may be offered again
  pub announced_timeout :
      numbers (with_timeout true settings.fresh)
      ((0, data_packet (data_of 1 1 0 100 0 (0 ∷ []))) ∷ (2500, data_packet (data_of 2 1 0 100 0 (0 ∷ []))) ∷ (2500, data_packet (data_of 2 1 0 100 0 (0 ∷ []))) ∷ [])
      (listening_to (1 ∷ []))
      ≡ 0 ∷ 4 ∷ 0 ∷ []
  -- pages 0, 5, 1 with last page 1 list, with all three
  pub three_pages :
      page_numbers
      (after settings.fresh ((0, discovery_packet (page_of 1 0 1 [])) ∷ (0, discovery_packet (page_of 1 5 1 [])) ∷ (0, discovery_packet (page_of 1 1 1 [])) ∷ []) fresh)
      ≡ (0 ∷ 1 ∷ 5 ∷ []) ∷ []
  -- two universes under one address are released together: 2 records, 74 bytes
  pub two_records :
      step_values []
      (step enough settings.fresh 6 (sync_packet (sync_of 1 7 0))
      (after settings.fresh ((5, data_packet (data_of 1 2 7 100 0 (0 ∷ 1 ∷ []))) ∷ (5, data_packet (data_of 1 1 7 100 0 (0 ∷ 2 ∷ []))) ∷ []) (listening_to (1 ∷ 2 ∷ [])))).answer
      ≡ number 2 ∷ number 74 ∷ []
  -- the second sync finds nothing left
  pub released_once :
      released settings.fresh
      ((5, data_packet (data_of 1 1 7 100 0 (0 ∷ []))) ∷ (5, sync_packet (sync_of 1 7 0)) ∷ (5, sync_packet (sync_of 1 7 1)) ∷ [])
      (listening_to (1 ∷ []))
      ≡ [] ∷ records (record {
        head = record { universe = 1; sync_uni = 7; priority = 100; src_cid = Of (cid 1); preview = false; recv_timestamp = 5 };
        values = 0 ∷ [];
      } ∷ []) ∷ [] ∷ []
  -- an announced termination is told for an unknown pair and a universe that is not listened to
  pub end_not_listened : numbers (with_termination true settings.fresh) ((0, data_packet (end_of 1 9 0)) ∷ []) fresh ≡ 5 ∷ []
  -- a universe that is not listened to changes nothing
  pub not_listened :
      data_sequences (after settings.fresh ((0, data_packet (data_of 1 2 0 100 0 (0 ∷ []))) ∷ []) (listening_to (1 ∷ [])))
      ≡ []
  -- ── two desks in one millisecond, and a sync: the same look in either order ──
  pub two_desks :
      released highest_wins
      ((5, data_packet (data_of 1 1 7 100 0 (0 ∷ 10 ∷ 200 ∷ []))) ∷ (5, data_packet (data_of 2 1 7 100 0 (0 ∷ 50 ∷ []))) ∷ (5, sync_packet (sync_of 1 7 0)) ∷ [])
      (listening_to (1 ∷ 7 ∷ []))
      ≡ [] ∷ [] ∷ records (record {
        head = record { universe = 1; sync_uni = 7; priority = 100; src_cid = Merged; preview = false; recv_timestamp = 5 };
        values = 0 ∷ 50 ∷ 200 ∷ [];
      } ∷ []) ∷ []
  pub two_desks_swapped :
      released highest_wins
      ((5, data_packet (data_of 2 1 7 100 0 (0 ∷ 50 ∷ []))) ∷ (5, data_packet (data_of 1 1 7 100 0 (0 ∷ 10 ∷ 200 ∷ []))) ∷ (5, sync_packet (sync_of 1 7 0)) ∷ [])
      (listening_to (1 ∷ 7 ∷ []))
      ≡ [] ∷ [] ∷ records (record {
        head = record { universe = 1; sync_uni = 7; priority = 100; src_cid = Merged; preview = false; recv_timestamp = 5 };
        values = 0 ∷ 50 ∷ 200 ∷ [];
      } ∷ []) ∷ []
  pub mutes : muted 64214 (3 ∷ 64214 ∷ []) ≡ (3 ∷ [], muting.Muted)
  -- "(2, then 3)"
  pub mutes_unknown : muted 5 (3 ∷ 64214 ∷ []) ≡ (3 ∷ 64214 ∷ [], muting.UniverseNotRegistered 5)
  pub mutes_illegal : muted 0 (3 ∷ 64214 ∷ []) ≡ (3 ∷ 64214 ∷ [], muting.IllegalUniverse 0)
