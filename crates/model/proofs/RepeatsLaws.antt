-- Document 02, F-4, of the whole receiver: a repeat renews neither sequence number nor reading, in the data table and in the sync table, so a
-- source that only repeats itself expires, whatever others send and whatever else is called.
-- Assumes nothing.
use Rattle.std.specs.Prelude.{◌≡◌, true, false, ◌&&◌, ℕ, eqb}
use Rattle.std.proofs.Common.{sym, ◌∙◌}
use Rattle.std.proofs.Math.Bool.{not}
use Rattle.std.proofs.Math.Option.{Option, none, some}
use mathlib.Core.List.{List, [], ◌∷◌}
use Rattle.laws.specs.Cases.{clash, found}
use Rattle.rules.specs.Age.{expired}
use Rattle.settings.specs.declared.Settings.{Settings}
use Rattle.pairs.specs.declared.Pair.{Pair}
use Rattle.pairs.specs.Table as pairs
use Rattle.pairs.proofs.Laws.{pair_at_without_other}
use Rattle.pairs.specs.Repeats.{Stands}
use Rattle.pairs.proofs.RepeatsLaws.{sweep_live, swept_expired, check_repeated}
use Rattle.model.specs.Packet.{DataPacket, Packet, data_packet, sync_packet, discovery_packet, too_long}
use Rattle.model.specs.State.{State, listens}
use Rattle.model.specs.Step.{Outcome, too_short, short, waiting_bytes, page_bytes, poll_waiting, poll_sync, poll, data_pair, sync_pair, known, release, terminated, unsynchronised, stored, synchronised, accepted, data_arrival, data_step, synchronise, sync_arrival, sync_step, discovery_step, packet_step, polled, measured, step}
use Rattle.model.specs.Calls.{poll_call, expiry_call, listen_call, mute_call, clear_call, clear_all_call, reset_discovery_call, Call, on_packet, on_poll, on_expiry, on_listen, on_mute, on_ask, on_clear, on_clear_all, on_reset_pairs, on_reset_discovery, on_reset, call, run}
use Rattle.model.specs.Invariant.{Kept}
use Rattle.model.proofs.InvariantLaws.{cond_by, cond_either, release_state, if_accepted_either, heard_either, polled_by_state, poll_kept, call_kept, run_from}
use Rattle.model.specs.Repeats.{CallAgain, CallsAgain, DataAgain, Stays, SyncAgain}

data_stays : (q : Pair) → Stays DataAgain q (λ t u. Stands q t)
unfolding terminated
data_stays q = record {
  data_swept = λ announce now t u o l h. sweep_live announce now q t o l h;
  sync_swept = λ announce now t u o l h. h;
  data_checked = λ S now d t u o l a h. check_repeated S.source_limit S.announce_timeout (data_pair now d) q t o (λ e. (a e).1) l h;
  sync_checked = λ S now y t u o l a h. h;
  ended = λ d s k e a h. pair_at_without_other (pairs.key_of q) (pairs.key d.cid d.universe) s.data_pairs k.kept_data.ordered (λ f. clash e (a (sym f)).0) ∙ h;
}

sync_stays : (q : Pair) → Stays SyncAgain q (λ t u. Stands q u)
unfolding terminated
sync_stays q = record {
  data_swept = λ announce now t u o l h. h;
  sync_swept = λ announce now t u o l h. sweep_live announce now q u o l h;
  data_checked = λ S now d t u o l a h. h;
  sync_checked = λ S now y t u o l a h. check_repeated S.source_limit S.announce_timeout (sync_pair now y) q u o a l h;
  ended = λ d s k e a h. let j = pairs.key d.cid d.universe in
      cond_either (Stands q) (known (pairs.pair_at j s.data_pairs.pairs)) _ _
      (pair_at_without_other (pairs.key_of q) j s.sync_pairs k.kept_sync.ordered (λ f. clash e (a (sym f))) ∙ h) h;
}

-- ── so each call leaves it ──
module _ {Again : Pair → Packet → Type 0} {q : Pair} {At : pairs.Table → pairs.Table → Type 0} (stays : Stays Again q At) where
  abbrev Holds : State → Type 0
  Holds s = At s.data_pairs s.sync_pairs

  abbrev Left : Outcome → Type 0
  Left o = Holds o.state

  module _ (S : Settings) (now : ℕ) (l : pairs.live now q ≡ true) where
    poll_stays : (s : State) → Kept s → Holds s → Holds (poll S now s).0
    unfolding poll poll_sync poll_waiting
    poll_stays s k h =
        let announce = S.announce_timeout in
        let x = stays.data_swept announce now s.data_pairs s.sync_pairs k.kept_data.ordered l h in
        let y = stays.sync_swept announce now _ s.sync_pairs k.kept_sync.ordered l x in
        found (pairs.sweep announce now s.data_pairs).1
        (λ e. found (pairs.sweep announce now s.sync_pairs).1 (λ f. rw (e, poll, f, poll_sync) y) (λ j f. rw (e, poll, f, poll_sync) y))
        (λ j e. rw (e, poll) x)

    -- what follows an accepted arrival touches neither table
    accepted_stays : (d : DataPacket) (s : State) → Holds s → Left (accepted S now d s)
    unfolding accepted unsynchronised synchronised stored release
    accepted_stays d s h = cond_either Left (eqb d.address 0) _ _ h (heard_either Left _ _ s h (λ w. h))

    arrival_stays : (d : DataPacket) (s : State) → Kept s → Again q (data_packet d) → Holds s → Left (data_arrival S now d s)
    unfolding data_arrival
    arrival_stays d s k a h =
        let x = stays.data_checked S now d s.data_pairs s.sync_pairs k.kept_data.ordered l a h in
        if_accepted_either Left _ _ _ (accepted_stays d _ x) x

    packet_stays : (p : Packet) (s : State) → Kept s → Again q p → Holds s → Left (packet_step S now p s)
    unfolding packet_step data_step sync_step sync_arrival synchronise discovery_step
    packet_stays (data_packet d) s k a h =
        cond_either Left (d.preview && not S.process_preview_data) _ _ h
        (cond_by Left d.terminated _ _
        (λ e. stays.ended d s k e a h)
        (λ e. cond_either Left (listens d.universe s.listened) _ _ (arrival_stays d s k a h) h))
    packet_stays (sync_packet y) s k a h =
        let x = stays.sync_checked S now y s.data_pairs s.sync_pairs k.kept_sync.ordered l a h in
        cond_either Left (listens y.address s.listened) _ _ (if_accepted_either Left _ _ _ (rw (release_state _ _) x) x) h
    packet_stays (discovery_packet b) s k a h = h

    polled_stays : (p : Packet) (r : State × Option pairs.Key) → Kept r.0 → Again q p → Holds r.0 → Left (polled S now p r)
    unfolding polled
    polled_stays p (s, none) k a h = packet_stays p s k a h
    polled_stays p (s, some j) k a h = h

    measured_stays : (p : Packet) (s : State) (o : Option ℕ) → Kept s → Again q p → Holds s → Left (measured S now p s o)
    unfolding measured
    measured_stays p s none k a h = polled_stays p (poll S now s) (poll_kept S now s k) a (poll_stays s k h)
    measured_stays p s (some n) k a h = h

  call_stays : (c : Call) (s : State) → Kept s → CallAgain Again q c → Holds s → Holds (call c s)
  unfolding call step poll_call expiry_call listen_call mute_call clear_call clear_all_call reset_discovery_call
  call_stays (on_packet m S now p) s k (l, a) h =
      found (too_short m)
      (λ e. rw (e, call, step) (measured_stays S now l p s (too_long p) k a h))
      (λ n e. rw (e, call, step) h)
  call_stays (on_poll room S now) s k l h =
      found (short waiting_bytes room)
      (λ e. rw (e, call, poll_call, polled_by_state (poll S now s)) (poll_stays S now l s k h))
      (λ n e. rw (e, call, poll_call) h)
  call_stays (on_expiry room S now) s k a h = found (short page_bytes room) (λ e. rw (e, call, expiry_call) h) (λ n e. rw (e, call, expiry_call) h)
  call_stays (on_listen us) s k a h = h
  call_stays (on_mute u) s k a h = h
  call_stays (on_ask u) s k a h = h
  call_stays (on_clear room u) s k a h = found (short waiting_bytes room) (λ e. rw (e, call, clear_call) h) (λ n e. rw (e, call, clear_call) h)
  call_stays on_clear_all s k a h = h
  call_stays on_reset_pairs s k a h = absurd a
  call_stays on_reset_discovery s k a h = h
  call_stays on_reset s k a h = absurd a

  run_stays : (cs : List Call) (s : State) → Kept s → CallsAgain Again q cs → Holds s → Holds (run cs s)
  unfolding run
  run_stays [] s k a h = h
  run_stays (c ∷ cs) s k (a, b) h = run_stays cs (call c s) (call_kept c s k) b (call_stays c s k a h)

-- ── A REPEAT RENEWS NOTHING: q stays as its last accepted arrival left it ──
pub data_repeats_renew_nothing : (cs : List Call) (q : Pair) (s : State) → Kept s → CallsAgain DataAgain q cs → Stands q s.data_pairs → Stands q (run cs s).data_pairs
data_repeats_renew_nothing cs q s k a h = run_stays (data_stays q) cs s k a h

pub sync_repeats_renew_nothing : (cs : List Call) (q : Pair) (s : State) → Kept s → CallsAgain SyncAgain q cs → Stands q s.sync_pairs → Stands q (run cs s).sync_pairs
sync_repeats_renew_nothing cs q s k a h = run_stays (sync_stays q) cs s k a h

-- ── so it is expired 2,500 after that and goes with the first poll, announcements off; on, it goes when number 4 names it ──
-- a poll without announcement sweeps both tables
poll_off : (S : Settings) (now : ℕ) (s : State) → S.announce_timeout ≡ false
    → ((poll S now s).0.data_pairs ≡ pairs.swept now s.data_pairs) × ((poll S now s).0.sync_pairs ≡ pairs.swept now s.sync_pairs)
unfolding poll poll_sync poll_waiting pairs.sweep
poll_off S now s off = (rw off, rw off)

module _ (cs : List Call) (q : Pair) (s : State) (S : Settings) (now : ℕ) (k : Kept s) (off : S.announce_timeout ≡ false) (e : expired now q.reading ≡ true) where
  pub data_repeats_expire : CallsAgain DataAgain q cs → Stands q s.data_pairs → pairs.pair_at (pairs.key_of q) (poll S now (run cs s)).0.data_pairs.pairs ≡ none
  data_repeats_expire a h = rw (poll_off S now (run cs s) off).0 (swept_expired now q _ (run_from cs s k).kept_data.ordered e (data_repeats_renew_nothing cs q s k a h))

  pub sync_repeats_expire : CallsAgain SyncAgain q cs → Stands q s.sync_pairs → pairs.pair_at (pairs.key_of q) (poll S now (run cs s)).0.sync_pairs.pairs ≡ none
  sync_repeats_expire a h = rw (poll_off S now (run cs s) off).1 (swept_expired now q _ (run_from cs s k).kept_sync.ordered e (sync_repeats_renew_nothing cs q s k a h))
