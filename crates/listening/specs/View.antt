-- What the lent rows stand for, what every call keeps, and what each call promises of them.
-- Assumes nothing.
use Rattle.std.specs.Prelude.{◌≡◌, ◌≢◌, List, ℕ, ◌≤◌, ◌<◌, ltb, length, take, Result, Ok, Err, Some, None}
use Rattle.std.specs.Prelude as rust
use Rattle.std.proofs.Math.Option.{Option, none, some}
use Rattle.laws.specs.Table.{Ascending, find, store}
use Rattle.laws.specs.Place.{place}
use Rattle.laws.specs.declared.After.{After}
use Rattle.model.specs.declared.ListenAnswer.{ListenAnswer}
use Rattle.model.specs.declared.ListenAnswer.TheVariants as listen
use Rattle.model.specs.declared.MuteAnswer.{MuteAnswer}
use Rattle.model.specs.declared.MuteAnswer.TheVariants as muting
use Rattle.model.specs.State.{itself, fresh}
use Rattle.model.specs.Step.{most_listened, listen_all}
use Rattle.model.specs.Calls.{muted}
use Rattle.listening.specs.declared.Listened.{Listened}

-- ── the view ──
abbrev pub listened_of : Listened → List ℕ → List ℕ
listened_of l rows = take l.count rows

abbrev pub listened : ℕ → Listened
listened n = record { count = n }

-- what every call may presuppose, and leaves
pub record Kept (l : Listened) (rows : List ℕ) : Type 0 where
  pub room : length rows ≡ most_listened
  pub within : l.count ≤ most_listened
  pub ascending : Ascending ltb itself (listened_of l rows)

-- ── the parts of a call ──
abbrev pub spot : ℕ → Option ℕ → Result ℕ ℕ
spot i none = Err i
spot i (some u) = Ok i

-- where a universe stands, or would be put in
abbrev pub spot_of : ℕ → List ℕ → Result ℕ ℕ
spot_of u l = spot (place ltb itself u l) (find ltb itself u l)

abbrev pub illegal_of : Option ℕ → rust.Option ℕ
illegal_of none = None
illegal_of (some u) = Some u

-- the list l stands in the rows; or it is too long
abbrev pub Stands : rust.Option ℕ → List ℕ → List ℕ → Type 0
Stands (Some n) l rows = Kept (listened n) rows × (take n rows ≡ l)
Stands None l rows = most_listened < length l

pub record Joins (u n : ℕ) (rows : List ℕ) (r : rust.Option ℕ) (after : List ℕ) : Type 0 where
  pub stands : Stands r (store ltb itself u (take n rows)) after
  pub refused : r ≡ None → after ≡ rows

-- ── the calls ──
pub record Fresh (r : Listened) (after : List ℕ) : Type 0 where
  pub view : listened_of r after ≡ fresh.listened
  pub kept : Kept r after

-- `listen_universes`; a refused call leaves the rows as they were
pub record Listens (us : List ℕ) (l : Listened) (rows : List ℕ) (r : After Listened ListenAnswer) (after : List ℕ) : Type 0 where
  pub view : (listened_of r.left after, r.answer) ≡ listen_all us (listened_of l rows)
  pub kept : Kept r.left after
  pub refused : r.answer ≢ listen.Listening → after ≡ rows

-- `mute_universe`, too
pub record Mutes (u : ℕ) (l : Listened) (rows : List ℕ) (r : After Listened MuteAnswer) (after : List ℕ) : Type 0 where
  pub view : (listened_of r.left after, r.answer) ≡ muted u (listened_of l rows)
  pub kept : Kept r.left after
  pub refused : r.answer ≢ muting.Muted → after ≡ rows
