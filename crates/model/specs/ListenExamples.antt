-- Computed examples of listening.
-- Assumes nothing.
use Rattle.std.specs.Prelude.{◌≡◌, List, [], ◌∷◌, ℕ, zero, suc}
use Rattle.model.specs.declared.ListenAnswer.TheVariants as listen
use Rattle.model.specs.State.{fresh}
use Rattle.model.specs.Step.{listen_all}

-- n universes from u on
unfoldable pub from : ℕ → ℕ → List ℕ
from u zero = []
from u (suc n) = u ∷ from (suc u) n

-- every example is a computation
pub record Pinned : Type 0 where
  -- in ascending order; a repeat, and a universe already listened to, is free
  pub joins : listen_all (9 ∷ 3 ∷ 9 ∷ 64214 ∷ []) fresh.listened ≡ (3 ∷ 9 ∷ 64214 ∷ [], listen.Listening)
  -- "all tested for 2 before any is added"; the first illegal one is returned
  pub stops : listen_all (9 ∷ 64000 ∷ 3 ∷ 0 ∷ []) fresh.listened ≡ (64214 ∷ [], listen.IllegalUniverse 64000)
  -- "then 11 if more than 1,024 would stand"
  pub room : (listen_all (9999 ∷ []) (from 1 1023)).1 ≡ listen.Listening
  pub no_room : (listen_all (9999 ∷ []) (from 1 1024)).1 ≡ listen.ListenedFull
  pub no_room_needed : (listen_all (7 ∷ 7 ∷ 1024 ∷ []) (from 1 1024)).1 ≡ listen.Listening
