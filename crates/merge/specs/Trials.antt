-- Document 01, 'Trial values', those marked *: one table, and one computed check over it.
-- Assumes nothing.
use Rattle.std.specs.Prelude.{Bool, true, false, not, ◌&&◌, List, [], ◌∷◌, ℕ, eqb, ℤ, pos, neg_ℤ}
use Rattle.std.proofs.Math.Option.{Option, none, some}
use Rattle.std.specs.Int.Signed.{le_z}
use Rattle.rules.specs.Universe.{legal}
use Rattle.rules.specs.Sequence.{difference, judged, number_of}
use Rattle.rules.specs.Age.{expired}
use Rattle.merge.specs.declared.SourceCid.TheVariants.{Of}
use Rattle.merge.specs.Merge.{Dmx, htp_merge}

-- what a row of the table says
pub data Trial : Type 0 where
  -- last, arriving, their difference: accepted, repeated or late
  accepts : ℕ → ℕ → ℤ → Trial
  repeats : ℕ → ℕ → ℤ → Trial
  lags : ℕ → ℕ → ℤ → Trial
  -- an age: live or expired
  live : ℕ → Trial
  lapsed : ℕ → Trial
  -- a universe: legal or illegal
  legal_universe : ℕ → Trial
  illegal_universe : ℕ → Trial
  -- merging by highest value: the older's priority and values, the newer's, and the values merged
  merges : ℕ → List ℕ → ℕ → List ℕ → List ℕ → Trial

-- the same integer
unfoldable pub equal_z : ℤ → ℤ → Bool
equal_z a b = le_z a b && le_z b a

-- the same values
unfoldable pub equal_values : List ℕ → List ℕ → Bool
equal_values [] [] = true
equal_values [] (y ∷ ys) = false
equal_values (x ∷ xs) [] = false
equal_values (x ∷ xs) (y ∷ ys) = eqb x y && equal_values xs ys

-- data of one universe and address, at this priority
abbrev pub data_of : ℕ → ℕ → List ℕ → Dmx
data_of source priority values = record {
  head = record {
    universe = 1;
    sync_uni = 0;
    priority = priority;
    src_cid = Of (record { hi = source; lo = 0 });
    preview = false;
    recv_timestamp = 0;
  };
  values = values;
}

unfoldable pub merged_values : Option Dmx → List ℕ → Bool
merged_values none values = false
merged_values (some d) values = equal_values d.values values

-- the difference, and the number that the sequence rule gives for it
unfoldable pub sequence_told : ℕ → ℕ → ℤ → ℕ → Bool
sequence_told last arriving d n = equal_z (difference arriving last) d && eqb (number_of (judged d)) n

unfoldable pub holds : Trial → Bool
holds (accepts last arriving d) = sequence_told last arriving d 0
holds (repeats last arriving d) = sequence_told last arriving d 21
holds (lags last arriving d) = sequence_told last arriving d 7
holds (live a) = not (expired a 0)
holds (lapsed a) = expired a 0
holds (legal_universe u) = legal u
holds (illegal_universe u) = not (legal u)
holds (merges p xs q ys values) = merged_values (htp_merge (data_of 1 p xs) (data_of 2 q ys)) values

unfoldable pub all : List Trial → Bool
all [] = true
all (t ∷ ts) = holds t && all ts

abbrev pub minus : ℕ → ℤ
minus n = neg_ℤ (pos n)

-- the table
unfoldable pub trials : List Trial
trials =
    accepts 10 11 (pos 1)
    ∷ accepts 10 246 (minus 20)
    ∷ accepts 10 138 (minus 128)
    ∷ accepts 10 137 (pos 127)
    ∷ repeats 10 10 (pos 0)
    ∷ lags 10 247 (minus 19)
    ∷ accepts 255 0 (pos 1)
    ∷ lags 0 255 (minus 1)
    ∷ live 2499
    ∷ lapsed 2500
    ∷ legal_universe 63999
    ∷ legal_universe 64214
    ∷ illegal_universe 0
    ∷ illegal_universe 64000
    ∷ merges 100 (0 ∷ 10 ∷ 200 ∷ []) 100 (0 ∷ 50 ∷ []) (0 ∷ 50 ∷ 200 ∷ [])
    ∷ merges 100 (0 ∷ 10 ∷ 200 ∷ []) 101 (0 ∷ 50 ∷ []) (0 ∷ 50 ∷ [])
    ∷ []
