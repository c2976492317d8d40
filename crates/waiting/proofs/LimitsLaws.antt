-- Document 01's limits in its own numbers: what a call answers at each limit, and one before or past it.
-- Assumes nothing.
use Rattle.std.specs.Prelude.{◌≡◌, refl, List, [], ◌∷◌, ℕ, ◌+◌, ◌*◌, ◌≤◌, ◌<◌, length}
use Rattle.std.proofs.Math.Option.{none}
use Rattle.std.proofs.Common.{arith}
use borrow.Author.Tests.{le-leb, lt-leb, lt-ltb, le-ltb}
use Rattle.rules.specs.Answer.{number}
use Rattle.settings.specs.declared.MergeChoice.{MergeChoice}
use Rattle.merge.specs.Merge.{Dmx, most_values}
use Rattle.waiting.specs.declared.StoreAnswer.TheVariants.{Stored}
use Rattle.waiting.specs.declared.StoreCall.TheVariants.{Taken}
use Rattle.waiting.specs.declared.ReleaseAnswer.TheVariants.{Released}
use Rattle.waiting.specs.Waiting.{universe_of, waiting_for, capacity, store_length, stored, number_of, values_of, released}
use Rattle.waiting.specs.Records.{records, most_bytes}
use Rattle.waiting.specs.Answers.{store_call, store_number_of, store_values_of, release_call, release_number_of, release_values_of}

module _ (choice : MergeChoice) (p : Dmx) (ds : List Dmx) where
  -- "64 waiting, universe not among them | 12 | nothing"
  pub full_at_64 : waiting_for (universe_of p) ds ≡ none → 64 ≤ length ds → (number_of (stored choice p ds).1 ≡ 12) × (values_of (stored choice p ds).1 ≡ [])
  unfolding stored
  full_at_64 w h = let f = le-leb capacity (length ds) (omega arith) in (cc, cc)

  -- "At most 64 universes": fewer than 64 wait, so one more is stored
  pub stored_below_64 : waiting_for (universe_of p) ds ≡ none → length ds < 64 → (stored choice p ds).1 ≡ Stored
  unfolding stored
  stored_below_64 w h = let f = lt-leb capacity (length ds) (omega arith) in cc

  -- "values over 513 | 1 | length"
  pub long_over_513 : 513 < length p.values → (store_number_of (store_call choice p ds).1 ≡ 1) × (store_values_of (store_call choice p ds).1 ≡ number (length p.values) ∷ [])
  unfolding store_call
  long_over_513 h = let f = lt-ltb most_values (length p.values) (omega arith) in (cc, cc)

  -- "0 to 513 values each"
  pub taken_within_513 : length p.values ≤ 513 → (store_call choice p ds).1 ≡ Taken (stored choice p ds).1
  unfolding store_call
  taken_within_513 h = let f = le-ltb most_values (length p.values) (omega arith) in cc

module _ (room now a : ℕ) (ds : List Dmx) where
  -- "Output under 35,072 bytes: 15", with the length needed
  pub short_under_35072 : room < 35072 → (release_number_of (release_call room now a ds).1 ≡ 15) × (release_values_of (release_call room now a ds).1 ≡ number 35072 ∷ [])
  unfolding release_call
  short_under_35072 h = let f = lt-ltb room most_bytes (omega arith) in (cc, cc)

  pub released_from_35072 : 35072 ≤ room → (release_call room now a ds).1 ≡ Released (length (released now a ds)) (length (records (released now a ds)))
  unfolding release_call
  released_from_35072 h = let f = le-ltb room most_bytes (omega arith) in cc

-- what a full table needs: 64 blocks of 513 bytes, and 64 records of 35 bytes and 513 values
pub blocks_64 : store_length ≡ 64 * 513
blocks_64 = refl

pub records_64 : most_bytes ≡ 64 * (35 + 513)
records_64 = refl
