-- A packet joins the entry at its place: one law for each answer of the merge.
-- Assumes nothing.
use Rattle.std.specs.Prelude.{◌≡◌, refl, Bool, true, false, List, [], ℕ, ◌*◌, ◌≤◌, ◌<◌, length, take, drop, get_or, set}
use Rattle.std.proofs.Common.{sym, ◌∙◌, arith, length-take}
use Rattle.std.proofs.Math.Option.{Option, none, some}
use Rattle.std.proofs.lemmas.List.{set-get_or}
use Rattle.laws.specs.Lent.{Part}
use Rattle.settings.specs.declared.MergeChoice.TheVariants.{DiscardLowestPriorityThenPrevious, HtpDmxMerge}
use Rattle.merge.specs.declared.DmxData.{DmxData}
use Rattle.merge.specs.declared.HtpAnswer.{HtpAnswer}
use Rattle.merge.specs.declared.HtpAnswer.TheVariants as htp
use Rattle.merge.specs.declared.Choice.TheVariants.{Older, Newer, TooLong}
use Rattle.merge.specs.Merge.{Dmx, most_values, joined, htp_merge, preferred, htp_answer, htp_output, choice}
use Rattle.merge.proofs.Laws.{joined_fits}
use Rattle.merge.specs.Views.{dmx}
use Rattle.merge.proofs.AnswersLaws.{older_preferred, newer_preferred, choice_fits, htp_fits, htp_roomy, htp_refuses, htp_merges, htp_values}
use Rattle.waiting.specs.Waiting.{merged, held, capacity}
use Rattle.waiting_store.specs.Entries.{count_of, entries, nothing, Room, lent_none, entry_at}
use Rattle.waiting_store.specs.Posts.{Changed}

-- a merged packet stands at place i; a refused one changes nothing
abbrev pub joined_at : ℕ → List Dmx → Option Dmx → List Dmx
joined_at i ds none = ds
joined_at i ds (some d) = set ds i d

pub record Joined (rows : List (List ℕ)) (store : List ℕ) (rows' : List (List ℕ)) (store' : List ℕ) (i : ℕ) (o : Option Dmx) (r : Bool) : Type 0 where
  pub joins : r ≡ held o
  pub changed : Changed rows store rows' store' (joined_at i (entries rows store) o)

-- of lent rows and a lent store
abbrev pub JoinedIn : Part (List (List ℕ)) → Part (List ℕ) → ℕ → Option Dmx → Bool → Type 0
JoinedIn rows store i o r = Joined rows.entry.now store.entry.now rows.exit.now store.exit.now i o r

module _ (rows : List (List ℕ)) (store : List ℕ) (i : ℕ) (r : Room rows store) (h : i < capacity) where
  -- the entry at place i
  abbrev pub entry : Dmx
  entry = get_or (entries rows store) i nothing

  pub entry_fits : length entry.values ≤ most_values
  entry_fits =
      let a = r.rows_length in
      rw (entry_at rows store i nothing (omega arith)) (omega (arith, length-take (count_of (get_or rows i [])) (drop (i * most_values) store)))

  -- nothing changes
  same : Changed rows store rows store (entries rows store)
  same = record { lent = lent_none rows store; becomes = refl }

  module _ (p : Dmx) (f : length p.values ≤ most_values) where
    -- ── by priority ──
    pub chose_older : choice entry p ≡ Older → Changed rows store rows store (set (entries rows store) i (preferred entry p))
    chose_older e = rw (older_preferred entry p entry_fits f e, set-get_or (entries rows store) i nothing) same

    pub chose_newer : (rows' : List (List ℕ)) (store' : List ℕ) → choice entry p ≡ Newer → Changed rows store rows' store' (set (entries rows store) i p)
        → Changed rows store rows' store' (set (entries rows store) i (preferred entry p))
    chose_newer rows' store' e c = rw (newer_preferred entry p entry_fits f e) c

    pub chose_long : {n : ℕ} → choice entry p ≡ TooLong n → Changed rows store rows store (set (entries rows store) i (preferred entry p))
    chose_long e = choice_fits entry p entry_fits f e

    -- ── by highest value ──
    module _ (room : ℕ) where
      pub blend_refused : htp_answer room entry p ≡ htp.Refused → Joined rows store rows store i (htp_merge entry p) false
      blend_refused e = rw (htp_refuses entry p entry_fits f room e) (record { joins = refl; changed = same })

      pub blend_long : {n : ℕ} → htp_answer room entry p ≡ htp.TooLong n → Joined rows store rows store i (htp_merge entry p) false
      blend_long e = htp_fits entry p entry_fits f room e

      pub blend_short : {n : ℕ} → most_values ≤ room → htp_answer room entry p ≡ htp.OutputShort n → Joined rows store rows store i (htp_merge entry p) false
      blend_short k e = htp_roomy entry p entry_fits f room k e

      pub blend_count : (d : DmxData) (n : ℕ) → htp_answer room entry p ≡ htp.Merged d n → n ≤ most_values
      blend_count d n e =
          let m = htp_merges entry p entry_fits f room e in
          let c = m.count_is in
          omega (arith, joined_fits entry p entry_fits f)

      pub blend_merged : (rows' : List (List ℕ)) (store' : List ℕ) (d : DmxData) (n : ℕ) (a : HtpAnswer) (out out' : List ℕ) → a ≡ htp_answer room entry p → a ≡ htp.Merged d n
          → out' ≡ htp_output a entry p out → Changed rows store rows' store' (set (entries rows store) i (dmx d (take n out'))) → Joined rows store rows' store' i (htp_merge entry p) true
      blend_merged rows' store' d n a out out' e k o c =
          let m = htp_merges entry p entry_fits f room (sym e ∙ k) in
          let v = htp_values entry p d n a out out' k m.count_is o in
          let w : dmx d (take n out') ≡ joined entry p = rw (v, m.head_is) in
          rw m.merges (record { joins = refl; changed = rw (← w) c })

-- the choice's own merge
pub join_chosen : (rows rows' : List (List ℕ)) (store store' : List ℕ) (i : ℕ) (e p : Dmx) → Changed rows store rows' store' (set (entries rows store) i (preferred e p))
    → Joined rows store rows' store' i (merged DiscardLowestPriorityThenPrevious e p) true
unfolding merged
join_chosen rows rows' store store' i e p c = record { joins = refl; changed = c }

pub join_blended : (rows rows' : List (List ℕ)) (store store' : List ℕ) (i : ℕ) (e p : Dmx) (b : Bool) → Joined rows store rows' store' i (htp_merge e p) b
    → Joined rows store rows' store' i (merged HtpDmxMerge e p) b
unfolding merged
join_blended rows rows' store store' i e p b j = j
