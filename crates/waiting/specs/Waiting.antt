-- Document 01, 'Waiting data': what each call makes of the data that waits, a list by ascending universe.
-- Assumes nothing.
use Rattle.std.specs.Prelude.{Bool, true, false, not, cond, List, [], ◌∷◌, ℕ, ◌≤◌, ltb, leb, eqb, length}
use Rattle.std.proofs.Math.Option.{Option, none, some}
use Rattle.laws.specs.Table.{keep, find, store, remove, Ascending}
use Rattle.rules.specs.Age.{expired}
use Rattle.rules.specs.Answer.{Value}
use Rattle.settings.specs.declared.MergeChoice.{MergeChoice}
use Rattle.settings.specs.declared.MergeChoice.TheVariants.{DiscardLowestPriorityThenPrevious, HtpDmxMerge}
use Rattle.merge.specs.Merge.{Dmx, htp_merge, preferred, most_values}
use Rattle.waiting.specs.declared.StoreAnswer.{StoreAnswer}
use Rattle.waiting.specs.declared.StoreAnswer.TheVariants.{Stored, MergeRefused, WaitingFull}

abbrev pub universe_of : Dmx → ℕ
universe_of d = d.head.universe

abbrev pub address_of : Dmx → ℕ
address_of d = d.head.sync_uni

-- what waits for this universe
abbrev pub waiting_for : ℕ → List Dmx → Option Dmx
waiting_for u ds = find ltb universe_of u ds

-- "At most 64 universes"
abbrev pub capacity : ℕ
capacity = 64

-- "A store with fewer bytes than its full table needs gives 15": 64 blocks of 513 bytes
abbrev pub store_length : ℕ
store_length = 32832

-- old with new, by the merge choice; nothing where it is refused
unfoldable pub merged : MergeChoice → Dmx → Dmx → Option Dmx
merged DiscardLowestPriorityThenPrevious e p = some (preferred e p)
merged HtpDmxMerge e p = htp_merge e p

-- "Storing onto a universe that waits merges old with new; a refused merge loses both (`store_waiting_data`)."
unfoldable pub joining : Dmx → List Dmx → Option Dmx → List Dmx × StoreAnswer
joining p ds none = (remove ltb universe_of (universe_of p) ds, MergeRefused)
joining p ds (some d) = (store ltb universe_of d ds, Stored)

-- "64 waiting, universe not among them | 12"
unfoldable pub stored : MergeChoice → Dmx → List Dmx → List Dmx × StoreAnswer
stored choice p ds = elim (waiting_for (universe_of p) ds) [
  | some e ↦ joining p ds (merged choice e p)
  | none ↦ cond (leb capacity (length ds)) (ds, WaitingFull) (store ltb universe_of p ds, Stored)
]

-- `clear_waiting_data` answers whether it held any
abbrev pub held : Option Dmx → Bool
held none = false
held (some d) = true

unfoldable pub cleared : ℕ → List Dmx → List Dmx × Bool
cleared u ds = (remove ltb universe_of u ds, held (waiting_for u ds))

-- the sweep by age
abbrev pub fresh : ℕ → Dmx → Bool
fresh now d = not (expired now d.head.recv_timestamp)

abbrev pub swept : ℕ → List Dmx → List Dmx
swept now ds = keep (fresh now) ds

-- "A release takes out all data of one address by ascending universe and drops those of age 2,500 or more."
abbrev pub of_address : ℕ → Dmx → Bool
of_address a d = eqb (address_of d) a

unfoldable pub released : ℕ → ℕ → List Dmx → List Dmx
released now a ds = keep (fresh now) (keep (of_address a) ds)

unfoldable pub left : ℕ → List Dmx → List Dmx
left a ds = keep (λ d. not (of_address a d)) ds

abbrev pub number_of : StoreAnswer → ℕ
number_of Stored = 0
number_of MergeRefused = 8
number_of WaitingFull = 12

abbrev pub values_of : StoreAnswer → List Value
values_of Stored = []
values_of MergeRefused = []
values_of WaitingFull = []

-- "tables in their order and within their counts"
abbrev pub Within : List Dmx → Type 0
Within [] = Unit {0}
Within (d ∷ ds) = (length d.values ≤ most_values) × Within ds

pub record Ordered (ds : List Dmx) : Type 0 where
  pub ascends : Ascending ltb universe_of ds
  pub fit : length ds ≤ capacity
  pub values_fit : Within ds
