-- Document 02, F-4, of the whole receiver: a repeat renews neither sequence number nor reading, in the data table and in the sync table, so a
-- source that only repeats itself expires, whatever others send and whatever else is called.
-- Assumes nothing.
use Rattle.std.specs.Prelude.{◌≡◌, Bool, true, false, ℕ}
use mathlib.Core.List.{List, [], ◌∷◌}
use Rattle.settings.specs.declared.Settings.{Settings}
use Rattle.pairs.specs.declared.Pair.{Pair}
use Rattle.pairs.specs.Table as pairs
use Rattle.model.specs.Packet.{DataPacket, SyncPacket, Packet, data_packet, sync_packet, discovery_packet}
use Rattle.model.specs.State.{State}
use Rattle.model.specs.Step.{data_pair, sync_pair, terminated}
use Rattle.model.specs.Calls.{Call, on_packet, on_poll, on_expiry, on_listen, on_mute, on_ask, on_clear, on_clear_all, on_reset_pairs, on_reset_discovery, on_reset}
use Rattle.model.specs.Invariant.{Kept}

-- ── what may come while pair q only repeats itself ──
-- of data pair q a packet brings nothing but its number again, and not its end
abbrev pub DataAgain : Pair → Packet → Type 0
DataAgain q (data_packet d) = pairs.key d.cid d.universe ≡ pairs.key_of q → (d.terminated ≡ false) × (d.sequence ≡ q.sequence)
DataAgain q (sync_packet y) = Unit {0}
DataAgain q (discovery_packet a) = Unit {0}

-- the same of synchronisation pair q; a data packet that ends the universe of that number drops it too
abbrev pub SyncAgain : Pair → Packet → Type 0
SyncAgain q (data_packet d) = pairs.key d.cid d.universe ≡ pairs.key_of q → d.terminated ≡ false
SyncAgain q (sync_packet y) = pairs.key y.cid y.address ≡ pairs.key_of q → y.sequence ≡ q.sequence
SyncAgain q (discovery_packet a) = Unit {0}

-- such packets and polls, while q is live, and every other call but those that forget the pairs; with any settings and any lent lengths
abbrev pub CallAgain : (Pair → Packet → Type 0) → Pair → Call → Type 0
CallAgain Again q (on_packet m S now p) = (pairs.live now q ≡ true) × Again q p
CallAgain Again q (on_poll room S now) = pairs.live now q ≡ true
CallAgain Again q (on_expiry room S now) = Unit {0}
CallAgain Again q (on_listen us) = Unit {0}
CallAgain Again q (on_mute u) = Unit {0}
CallAgain Again q (on_ask u) = Unit {0}
CallAgain Again q (on_clear room u) = Unit {0}
CallAgain Again q on_clear_all = Unit {0}
CallAgain Again q on_reset_pairs = ⊥
CallAgain Again q on_reset_discovery = Unit {0}
CallAgain Again q on_reset = ⊥

abbrev pub CallsAgain : (Pair → Packet → Type 0) → Pair → List Call → Type 0
CallsAgain Again q [] = Unit {0}
CallsAgain Again q (c ∷ cs) = CallAgain Again q c × CallsAgain Again q cs

-- ── what is done to the tables, and leaves what At says of the data table and the sync table ──
pub record Stays (Again : Pair → Packet → Type 0) (q : Pair) (At : pairs.Table → pairs.Table → Type 0) : Type 0 where
  pub data_swept : (announce : Bool) (now : ℕ) (t u : pairs.Table) → pairs.Ordered t → pairs.live now q ≡ true → At t u → At (pairs.sweep announce now t).0 u
  pub sync_swept : (announce : Bool) (now : ℕ) (t u : pairs.Table) → pairs.Ordered u → pairs.live now q ≡ true → At t u → At t (pairs.sweep announce now u).0
  pub data_checked : (S : Settings) (now : ℕ) (d : DataPacket) (t u : pairs.Table) → pairs.Ordered t → pairs.live now q ≡ true → Again q (data_packet d)
      → At t u → At (pairs.check S.source_limit S.announce_timeout (data_pair now d) t).0 u
  pub sync_checked : (S : Settings) (now : ℕ) (y : SyncPacket) (t u : pairs.Table) → pairs.Ordered u → pairs.live now q ≡ true → Again q (sync_packet y)
      → At t u → At t (pairs.check S.source_limit S.announce_timeout (sync_pair now y) u).0
  pub ended : (d : DataPacket) (s : State) → Kept s → d.terminated ≡ true → Again q (data_packet d)
      → At s.data_pairs s.sync_pairs → At (terminated d s).data_pairs (terminated d s).sync_pairs
