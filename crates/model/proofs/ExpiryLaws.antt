-- Document 02, F-3, "Sources that stay on the list": the discovery sweep goes by the setting, nothing else does, and by a setting of 2,500 the sweep is what it was.
-- Assumes nothing.
use Rattle.std.specs.Prelude.{◌≡◌, List, [], ◌∷◌, ℕ, length}
use Rattle.std.proofs.Math.Path.{refl, ap}
use Rattle.std.proofs.Math.Option.{Option, some, none}
use Rattle.laws.specs.Cases.{found}
use Rattle.laws.specs.Table.{keep, any}
use Rattle.rules.specs.Age.{data_loss}
use Rattle.settings.specs.declared.Settings.{Settings}
use Rattle.settings.specs.Settings as settings
use Rattle.settings.specs.Settings.{with_expiry}
use Rattle.pairs.specs.Table as pairs
use Rattle.pairs.specs.Table.{Key}
use Rattle.discovery.specs.Discovery as discovery
use Rattle.discovery.proofs.ExpiryLaws.{swept_0}
use Rattle.discovery.specs.declared.PageAnswer.{PageAnswer}
use Rattle.discovery.specs.declared.PageAnswer.TheVariants as paging
use Rattle.model.specs.declared.StepAnswer.{StepAnswer}
use Rattle.model.specs.declared.ExpiryAnswer.TheVariants as expiry
use Rattle.model.specs.Packet.{Packet, data_packet, sync_packet, discovery_packet, over, too_long}
use Rattle.model.specs.State.{State, fresh}
use Rattle.model.specs.Step.{Space, outcome, short, waiting_bytes, page_bytes, too_short, poll_waiting, poll_sync, poll, stored, synchronised, accepted, data_arrival, data_step, sync_arrival, sync_step, listed, discovery_step, packet_step, polled, measured, step, with_discovered}
use Rattle.model.specs.Calls.{polled_by, poll_call, expiry_call, Call, call}
use Rattle.model.specs.Expiry.{heard_every_10000, was_expiry_call}

-- ── the sweep by what the settings hold, in the setter's range or not ──
pub sweep_by : (room : ℕ) (S : Settings) (now : ℕ) (s : State) → short page_bytes room ≡ none
    → expiry_call room S now s ≡ (with_discovered (discovery.swept S.discovery_expiry now s.discovered) s, expiry.Swept)
unfolding expiry_call
sweep_by room S now s h = rw (h, expiry_call)

-- by 0 every sweep drops all
pub sweep_by_0 : (room : ℕ) (S : Settings) (now : ℕ) (s : State) → short page_bytes room ≡ none → S.discovery_expiry ≡ 0
    → (expiry_call room S now s).0.discovered ≡ discovery.nothing_known
sweep_by_0 room S now s h e = rw (sweep_by room S now s h, e) (swept_0 now s.discovered)

pub sweep_as_was : (room : ℕ) (S : Settings) (now : ℕ) (s : State) → S.discovery_expiry ≡ data_loss → expiry_call room S now s ≡ was_expiry_call room now s
unfolding expiry_call was_expiry_call
sweep_as_was room S now s h = rw h

-- ── pair tables and waiting data keep 2,500: no step and no poll asks the setting ──
module _ (n : ℕ) (S : Settings) (now : ℕ) where
  poll_apart : (s : State) → poll (with_expiry n S) now s ≡ poll S now s
  unfolding poll poll_sync
  poll_apart s = refl

  listed_apart : (a : PageAnswer) → listed (with_expiry n S) a ≡ listed S a
  listed_apart paging.Taken = refl
  listed_apart paging.Listed = refl
  listed_apart paging.PagesFull = refl

  packet_apart : (p : Packet) (s : State) → packet_step (with_expiry n S) now p s ≡ packet_step S now p s
  unfolding packet_step data_step data_arrival accepted synchronised stored sync_step sync_arrival discovery_step
  packet_apart (data_packet d) s = refl
  packet_apart (sync_packet y) s = refl
  packet_apart (discovery_packet a) s =
      let r = discovery.arrived now a s.discovered in
      ap (λ (a : StepAnswer). outcome (with_discovered r.0 s) a) (listed_apart r.1)

  polled_apart : (p : Packet) (r : State × Option Key) → polled (with_expiry n S) now p r ≡ polled S now p r
  unfolding polled
  polled_apart p (s, none) = packet_apart p s
  polled_apart p (s, some k) = refl

  measured_apart : (p : Packet) (s : State) (o : Option ℕ) → measured (with_expiry n S) now p s o ≡ measured S now p s o
  unfolding measured
  measured_apart p s none = rw (poll_apart s) (polled_apart p (poll S now s))
  measured_apart p s (some l) = refl

  pub step_apart : (m : Space) (p : Packet) (s : State) → step m (with_expiry n S) now p s ≡ step m S now p s
  unfolding step
  step_apart m p s = found (too_short m) (λ e. rw (e, step) (measured_apart p s (too_long p))) (λ l e. rw (e, step))

  pub poll_call_apart : (room : ℕ) (s : State) → poll_call room (with_expiry n S) now s ≡ poll_call room S now s
  unfolding poll_call
  poll_call_apart room s = found (short waiting_bytes room) (λ e. rw (e, poll_call) (ap polled_by (poll_apart s))) (λ l e. rw (e, poll_call))

-- and the sweep touches nothing but the two lists
pub sweep_leaves : (room : ℕ) (S : Settings) (now : ℕ) (s : State)
    → ((expiry_call room S now s).0.data_pairs ≡ s.data_pairs) × ((expiry_call room S now s).0.sync_pairs ≡ s.sync_pairs)
    × ((expiry_call room S now s).0.waiting ≡ s.waiting) × ((expiry_call room S now s).0.listened ≡ s.listened)
unfolding expiry_call
sweep_leaves room S now s = found (short page_bytes room) (λ e. rw (e, expiry_call) (refl, refl, refl, refl)) (λ l e. rw (e, expiry_call) (refl, refl, refl, refl))

-- how many sources are listed after each call
pub listed_after : List Call → State → List ℕ
listed_after [] s = []
listed_after (c ∷ cs) s = length (call c s).discovered.listed ∷ listed_after cs (call c s)

-- the fresh 20,000 keeps it; by 2,500: "The monitor's list empties between announcements."
pub stays_listed : (listed_after (heard_every_10000 settings.fresh) fresh ≡ 1 ∷ 1 ∷ 1 ∷ 1 ∷ 1 ∷ 1 ∷ [])
    × (listed_after (heard_every_10000 (with_expiry 2500 settings.fresh)) fresh ≡ 1 ∷ 0 ∷ 1 ∷ 0 ∷ 1 ∷ 0 ∷ [])
unfolding listed_after call step too_short measured too_long over polled poll poll_sync poll_waiting pairs.sweep pairs.swept packet_step discovery_step discovery.arrived discovery.taken discovery.noted discovery.noting discovery.lookup discovery.drop_source discovery.relisted discovery.begun discovery.page_count discovery.swept expiry_call keep any
stays_listed = (refl, refl)
