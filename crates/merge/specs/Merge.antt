-- Document 01, 'Merging'.
-- Assumes nothing.
use Rattle.std.specs.Prelude.{Bool, false, not, cond, ◌&&◌, ◌||◌, List, [], ◌∷◌, ◌++◌, ℕ, max, ltb, eqb, length, drop, Option, Some, None}
use Rattle.std.proofs.Math.Option as option
use Rattle.std.proofs.Math.Option.{none, some}
use Rattle.rules.specs.Answer.{Value, number}
use Rattle.merge.specs.declared.DmxData.{DmxData}
use Rattle.merge.specs.declared.SourceCid.TheVariants.{Merged}
use Rattle.merge.specs.declared.HtpAnswer.{HtpAnswer}
use Rattle.merge.specs.declared.HtpAnswer.TheVariants as htp
use Rattle.merge.specs.declared.Choice.{Choice}
use Rattle.merge.specs.declared.Choice.TheVariants.{Older, Newer, TooLong}

-- "all seven fields": the six of the header, and the values
pub record Dmx : Type 0 where
  pub head : DmxData
  pub values : List ℕ

-- "0 to 513 values each": a start code and 512 slots
abbrev pub most_values : ℕ
most_values = 513

-- ── `htp_dmx_merge` ──
-- both have values, alike in the first
unfoldable pub same_start : List ℕ → List ℕ → Bool
same_start [] ys = false
same_start (x ∷ xs) [] = false
same_start (x ∷ xs) (y ∷ ys) = eqb x y

-- "refuses with 8 if either value list is empty or universe, first value or address differ"
unfoldable pub mergeable : Dmx → Dmx → Bool
mergeable e p =
    same_start e.values p.values
    && eqb e.head.universe p.head.universe
    && eqb e.head.sync_uni p.head.sync_uni

-- "the larger value at each place, the longer tail kept"
unfoldable pub highest : List ℕ → List ℕ → List ℕ
highest [] ys = ys
highest (x ∷ xs) [] = x ∷ xs
highest (x ∷ xs) (y ∷ ys) = max x y ∷ highest xs ys

-- "Equal priority: .. no CID, preview if either has it, the earlier-stored reading": the older's, even where it is larger
unfoldable pub blended : Dmx → Dmx → Dmx
blended e p = record {
  head = record {
    universe = e.head.universe;
    sync_uni = e.head.sync_uni;
    priority = e.head.priority;
    src_cid = Merged;
    preview = e.head.preview || p.head.preview;
    recv_timestamp = e.head.recv_timestamp;
  };
  values = highest e.values p.values;
}

-- "Higher priority wins with all seven fields."
unfoldable pub joined : Dmx → Dmx → Dmx
joined e p =
    cond (ltb p.head.priority e.head.priority) e
    (cond (ltb e.head.priority p.head.priority) p
    (blended e p))

-- the older e with the newer p; nothing where the merge is refused
unfoldable pub htp_merge : Dmx → Dmx → option.Option Dmx
htp_merge e p = cond (mergeable e p) (some (joined e p)) none

-- "Called directly, either merge gives 1 for a list over 513, the older tested first."
unfoldable pub too_long : List ℕ → List ℕ → Option ℕ
too_long xs ys =
    cond (ltb most_values (length xs)) (Some (length xs))
    (cond (ltb most_values (length ys)) (Some (length ys))
    None)

-- "The highest-value merge then gives 8, then 15 if the output lent for its values is shorter than the longer list"
unfoldable pub htp_with : ℕ → ℕ → option.Option Dmx → HtpAnswer
htp_with needed room none = htp.Refused
htp_with needed room (some d) = cond (ltb room needed) (htp.OutputShort needed) (htp.Merged d.head (length d.values))

unfoldable pub htp_answer : ℕ → Dmx → Dmx → HtpAnswer
htp_answer room e p = elim (too_long e.values p.values) [
  | Some n ↦ htp.TooLong n
  | None ↦ htp_with (max (length e.values) (length p.values)) room (htp_merge e p)
]

-- "output past its values is unchanged"; a stopped call writes nothing
unfoldable pub htp_output : HtpAnswer → Dmx → Dmx → List ℕ → List ℕ
htp_output (htp.Merged d n) e p out = (joined e p).values ++ drop (length (joined e p).values) out
htp_output (htp.TooLong n) e p out = out
htp_output htp.Refused e p out = out
htp_output (htp.OutputShort n) e p out = out

abbrev pub htp_number_of : HtpAnswer → ℕ
htp_number_of (htp.Merged d n) = 0
htp_number_of (htp.TooLong n) = 1
htp_number_of htp.Refused = 8
htp_number_of (htp.OutputShort n) = 15

abbrev pub htp_values_of : HtpAnswer → List Value
htp_values_of (htp.Merged d n) = []
htp_values_of (htp.TooLong n) = number n ∷ []
htp_values_of htp.Refused = []
htp_values_of (htp.OutputShort n) = number n ∷ []

-- "Called directly, either merge gives 1 for a list over 513, the older tested first. The highest-value merge then gives 8,
-- then 15 if the output lent for its values is shorter than the longer list": the number, and the length that 1 and 15 return
unfoldable pub htp_told : ℕ → Dmx → Dmx → ℕ × List Value
htp_told room e p =
    cond (ltb most_values (length e.values)) (1, number (length e.values) ∷ [])
    (cond (ltb most_values (length p.values)) (1, number (length p.values) ∷ [])
    (cond (not (mergeable e p)) (8, [])
    (cond (ltb room (max (length e.values) (length p.values))) (15, number (max (length e.values) (length p.values)) ∷ [])
    (0, []))))

-- ── `discard_lowest_priority_then_previous` ──
-- "the older wins only by higher priority"
unfoldable pub preferred : Dmx → Dmx → Dmx
preferred e p = cond (ltb p.head.priority e.head.priority) e p

unfoldable pub choice : Dmx → Dmx → Choice
choice e p = elim (too_long e.values p.values) [
  | Some n ↦ TooLong n
  | None ↦ cond (ltb p.head.priority e.head.priority) Older Newer
]

-- "the winner's values are handed on uncopied"; a stopped choice hands on none
unfoldable pub chosen : Choice → List ℕ → List ℕ → List ℕ
chosen Older xs ys = xs
chosen Newer xs ys = ys
chosen (TooLong n) xs ys = []

abbrev pub choice_number_of : Choice → ℕ
choice_number_of Older = 0
choice_number_of Newer = 0
choice_number_of (TooLong n) = 1

abbrev pub choice_values_of : Choice → List Value
choice_values_of Older = []
choice_values_of Newer = []
choice_values_of (TooLong n) = number n ∷ []

-- "Called directly, either merge gives 1 for a list over 513, the older tested first."
unfoldable pub choice_told : Dmx → Dmx → ℕ × List Value
choice_told e p =
    cond (ltb most_values (length e.values)) (1, number (length e.values) ∷ [])
    (cond (ltb most_values (length p.values)) (1, number (length p.values) ∷ [])
    (0, []))
