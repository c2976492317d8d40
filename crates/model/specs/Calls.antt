-- Document 01, 'Further calls'; lists of calls, and what they reply (document 02, F-11).
-- Assumes nothing.
use Rattle.std.specs.Prelude.{Bool, cond, List, [], ◌∷◌, ℕ, ltb}
use Rattle.std.proofs.Math.Option.{Option, none, some}
use Rattle.laws.specs.Table.{remove}
use Rattle.rules.specs.Universe.{legal}
use Rattle.settings.specs.declared.Settings.{Settings}
use Rattle.pairs.specs.Table as pairs
use Rattle.merge.specs.Merge.{Dmx}
use Rattle.waiting.specs.Waiting as waiting
use Rattle.discovery.specs.Discovery as discovery
use Rattle.model.specs.declared.StepAnswer.{StepAnswer}
use Rattle.model.specs.declared.PollAnswer.{PollAnswer}
use Rattle.model.specs.declared.PollAnswer.TheVariants as polling
use Rattle.model.specs.declared.ExpiryAnswer.{ExpiryAnswer}
use Rattle.model.specs.declared.ExpiryAnswer.TheVariants as expiry
use Rattle.model.specs.declared.ListenAnswer.{ListenAnswer}
use Rattle.model.specs.declared.MuteAnswer.{MuteAnswer}
use Rattle.model.specs.declared.MuteAnswer.TheVariants as muting
use Rattle.model.specs.declared.ClearAnswer.{ClearAnswer}
use Rattle.model.specs.declared.ClearAnswer.TheVariants as clearing
use Rattle.model.specs.Packet.{Packet}
use Rattle.model.specs.State.{State, itself, listens}
use Rattle.model.specs.Step.{Space, short, waiting_bytes, page_bytes, poll, step, listen_all, with_data, with_sync, with_waiting, with_listened, with_discovered}

-- "poll": a call tests the stores that it is lent, as a step does; waiting is the length of the waiting values
unfoldable pub polled_by : State × Option pairs.Key → State × PollAnswer
polled_by (s, none) = (s, polling.Polled)
polled_by (s, some k) = (s, polling.UniverseTimeout k.cid k.universe)

unfoldable pub poll_call : ℕ → Settings → ℕ → State → State × PollAnswer
poll_call room S now s = elim (short waiting_bytes room) [ some n ↦ (s, polling.TooShort n) | none ↦ polled_by (poll S now s) ]

-- "The discovery sweep (`remove_expired_sources`) .. runs only when called." Document 02, F-3: the age at which an entry goes is the `discovery_expiry` of the call's settings, whatever it is.
unfoldable pub expiry_call : ℕ → Settings → ℕ → State → State × ExpiryAnswer
expiry_call room S now s = elim (short page_bytes room) [
  | some n ↦ (s, expiry.TooShort n)
  | none ↦ (with_discovered (discovery.swept S.discovery_expiry now s.discovered) s, expiry.Swept)
]

-- `listen_universes`
unfoldable pub listen_call : List ℕ → State → State × ListenAnswer
listen_call us s = let r = listen_all us s.listened in (with_listened r.0 s, r.1)

-- "`mute_universe` (2, then 3)", on the list alone
unfoldable pub muted : ℕ → List ℕ → List ℕ × MuteAnswer
muted u l =
    cond (legal u)
    (cond (listens u l)
    (remove ltb itself u l, muting.Muted)
    (l, muting.UniverseNotRegistered u))
    (l, muting.IllegalUniverse u)

unfoldable pub mute_call : ℕ → State → State × MuteAnswer
mute_call u s = let r = muted u s.listened in (with_listened r.0 s, r.1)

-- "`clear_waiting_data` (answers whether it held any)"
unfoldable pub clear_call : ℕ → ℕ → State → State × ClearAnswer
clear_call room u s = elim (short waiting_bytes room) [
  | some n ↦ (s, clearing.TooShort n)
  | none ↦ (let r = waiting.cleared u s.waiting in (with_waiting r.0 s, clearing.Cleared r.1))
]

-- `clear_all_waiting_data`
unfoldable pub clear_all_call : State → State
clear_all_call s = with_waiting [] s

-- Document 02, F-2, `reset_pairs`: "one for both pair tables"
unfoldable pub reset_pairs_call : State → State
reset_pairs_call s = with_sync pairs.empty (with_data pairs.empty s)

-- `reset_discovery`: "one for both discovery lists"
unfoldable pub reset_discovery_call : State → State
reset_discovery_call s = with_discovered discovery.nothing_known s

-- `reset_sources`: "The old call becomes the two in turn"
unfoldable pub reset_call : State → State
reset_call s = reset_discovery_call (reset_pairs_call s)

-- ── lists of calls ──
pub data Call : Type 0 where
  on_packet : Space → Settings → ℕ → Packet → Call
  on_poll : ℕ → Settings → ℕ → Call
  on_expiry : ℕ → Settings → ℕ → Call
  on_listen : List ℕ → Call
  on_mute : ℕ → Call
  on_ask : ℕ → Call
  on_clear : ℕ → ℕ → Call
  on_clear_all : Call
  on_reset_pairs : Call
  on_reset_discovery : Call
  on_reset : Call

unfoldable pub call : Call → State → State
call (on_packet m S now p) s = (step m S now p s).state
call (on_poll room S now) s = (poll_call room S now s).0
call (on_expiry room S now) s = (expiry_call room S now s).0
call (on_listen us) s = (listen_call us s).0
call (on_mute u) s = (mute_call u s).0
call (on_ask u) s = s
call (on_clear room u) s = (clear_call room u s).0
call on_clear_all s = clear_all_call s
call on_reset_pairs s = reset_pairs_call s
call on_reset_discovery s = reset_discovery_call s
call on_reset s = reset_call s

-- what a list of calls leaves of a state
unfoldable pub run : List Call → State → State
run [] s = s
run (c ∷ cs) s = run cs (call c s)

-- ── what calls reply ──
-- one case a kind of call; A: the answers of a step. Not the `Reply` of `boundary`, which is a header with an answer
pub data Reply (A : Type 0) : Type 0 where
  of_packet : A → List Dmx → Reply A
  of_poll : PollAnswer → Reply A
  of_expiry : ExpiryAnswer → Reply A
  of_listen : ListenAnswer → Reply A
  of_mute : MuteAnswer → Reply A
  of_ask : Bool → Reply A
  of_clear : ClearAnswer → Reply A
  of_clear_all : Reply A
  of_reset_pairs : Reply A
  of_reset_discovery : Reply A
  of_reset : Reply A

-- a step with its answer and what it releases
unfoldable pub reply : Call → State → Reply StepAnswer
reply (on_packet m S now p) s = of_packet (step m S now p s).answer (step m S now p s).released
reply (on_poll room S now) s = of_poll (poll_call room S now s).1
reply (on_expiry room S now) s = of_expiry (expiry_call room S now s).1
reply (on_listen us) s = of_listen (listen_call us s).1
reply (on_mute u) s = of_mute (mute_call u s).1
reply (on_ask u) s = of_ask (listens u s.listened)
reply (on_clear room u) s = of_clear (clear_call room u s).1
reply on_clear_all s = of_clear_all
reply on_reset_pairs s = of_reset_pairs
reply on_reset_discovery s = of_reset_discovery
reply on_reset s = of_reset

-- what the calls of a list reply, in order
unfoldable pub replies : List Call → State → List (Reply StepAnswer)
replies [] s = []
replies (c ∷ cs) s = reply c s ∷ replies cs (call c s)
