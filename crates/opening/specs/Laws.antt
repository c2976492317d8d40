-- One law for each return of the opening, and what it leaves for the packet.
-- Assumes nothing.
use Rattle.std.specs.Prelude.{◌≡◌, Bool, false, List, ℕ, ◌+◌, ◌≤◌, length}
use Rattle.std.proofs.Math.Path.{ap}
use Rattle.std.proofs.Common.{arith}
use Rattle.std.proofs.Math.Option.{Option, none}
use Rattle.settings.specs.declared.Settings.{Settings}
use Rattle.waiting.specs.Records.{most_bytes}
use Rattle.waiting.specs.Waiting.{store_length}
use Rattle.waiting_store.specs.Entries.{lent_none}
use Rattle.waiting_store.specs.Entries as waiting
use Rattle.discovery_calls.specs.View as discovery
use Rattle.lengths.specs.Space.{space_of}
use Rattle.model.specs.declared.StepAnswer.{StepAnswer}
use Rattle.model.specs.Step.{too_short, page_bytes}
use Rattle.lengths.specs.Finds.{room_for, first_none}
use Rattle.receiver.specs.declared.Receiver.{Receiver}
use Rattle.discovery.specs.Discovery.{pool_length}
use Rattle.receiver.specs.View.{Memory, Kept}
use Rattle.opening.specs.View.{Opens}

-- ── lengths ──
pub record Long (out store universes : List ℕ) : Type 0 where
  pub output : most_bytes ≤ length out
  pub held : store_length ≤ length store
  pub found : pool_length ≤ length universes

pub long_enough : (out store universes : List ℕ) → too_short (space_of out store universes) ≡ none → Long out store universes
unfolding too_short
long_enough out store universes e =
    let a = first_none _ _ e in
    let b = first_none _ _ a.1 in
    let c = room_for page_bytes (length universes + length universes) b.1 in
    record { output = room_for _ _ a.0; held = room_for _ _ b.0; found = omega arith }

-- what the parts of a step presuppose, where the opening let it go on
module _ (S : Settings) (now : ℕ) (long : Option ℕ) (r : Receiver) (m : Memory) (out : List ℕ) (r' : Receiver) (m' : Memory) (stopped : Bool) (a : StepAnswer)
    (k : Kept r m) (o : Opens S now long r m out r' m' stopped a) (e : stopped ≡ false) where
  enough : Long out m.store m.universes
  enough = long_enough out m.store m.universes (o.fits e).0

  pub ready_output : most_bytes ≤ length out
  ready_output = enough.output

  pub ready_held : waiting.Kept r'.waiting.count m'.rows m'.store
  ready_held = let h = enough.held in let l = o.lent_waiting.store_same in (o.kept k).kept_waiting (omega arith)

  pub ready_found : m'.universes ≡ m.universes → discovery.Kept r'.discovery m'.sources m'.names m'.pages m'.universes
  ready_found z = let h = enough.found in let l = ap (λ (x : List ℕ). length x) z in (o.kept k).kept_discovery (omega arith)
