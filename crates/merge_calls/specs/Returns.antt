-- The two merges by the tests that their code makes, in its order: one law for each return.
-- Assumes nothing.
use Rattle.std.specs.Prelude.{◌≡◌, true, false, ◌&&◌, List, [], ◌∷◌, ◌++◌, ℕ, zero, suc, ◌+◌, ◌≤◌, ◌<◌, max, eqb, length, take, get_or, set}
use Rattle.std.proofs.Math.Path.{refl, ap}
use Rattle.std.proofs.Common.{sym, ◌∙◌, subst, arith, add-one, zero-add, take-append-drop, length-take-le}
use Rattle.std.specs.Prelude.{Some, None}
use Rattle.std.proofs.Math.ListN.{drop}
use Rattle.std.proofs.Math.Seq.{paste, paste-suc}
use borrow.Author.Tests.{lt-ltb, le-ltb, eq-eqb, ne_eqb}
use Rattle.laws.specs.Parts.{pasted, pasted_append, pasted_front}
use Rattle.merge.specs.declared.DmxData.{DmxData}
use Rattle.merge.specs.declared.HtpAnswer.{HtpAnswer}
use Rattle.merge.specs.declared.HtpAnswer.TheVariants as htp
use Rattle.merge.specs.declared.Choice.TheVariants.{Older, Newer, TooLong}
use Rattle.merge.specs.Merge.{Dmx, same_start, mergeable, highest, blended, joined, htp_merge, too_long, htp_with, htp_answer, htp_output, choice}
use Rattle.merge.proofs.Laws.{length_highest, highest_comm}

-- ── the highest values, place by place ──
-- a place of both lists, where the first is not the longer
pub highest_at : (xs ys : List ℕ) (i : ℕ) → i < length xs → length xs ≤ length ys → get_or (highest xs ys) i 0 ≡ max (get_or xs i 0) (get_or ys i 0)
unfolding highest
highest_at [] ys i h l = absurd (omega arith)
highest_at (x ∷ xs) [] i h l = absurd (omega arith)
highest_at (x ∷ xs) (y ∷ ys) zero h l = refl
highest_at (x ∷ xs) (y ∷ ys) (suc i) h l = highest_at xs ys i (omega arith) (omega arith)

-- past the shorter list stands the longer one's tail
pub highest_tail : (xs ys : List ℕ) → length xs ≤ length ys → drop (length xs) (highest xs ys) ≡ drop (length xs) ys
unfolding highest
highest_tail [] ys l = refl
highest_tail (x ∷ xs) [] l = absurd (omega arith)
highest_tail (x ∷ xs) (y ∷ ys) l = highest_tail xs ys (omega arith)

-- a store of the loop over the shorter list
pub highest_turn : (xs ys out out₀ : List ℕ) (i v : ℕ) → i < length xs → length xs ≤ length ys → length ys ≤ length out₀
    → out ≡ paste out₀ 0 (highest xs ys) i → v ≡ max (get_or xs i 0) (get_or ys i 0) → set out i v ≡ paste out₀ 0 (highest xs ys) (i + 1)
highest_turn xs ys out out₀ i v h l m e f =
    let n = length_highest xs ys in
    let p = paste-suc out₀ 0 (highest xs ys) i 0 (omega arith) (omega arith) in
    rw (e, f, add-one i, ← highest_at xs ys i h l)
    (subst (λ (k : ℕ). set (paste out₀ 0 (highest xs ys) i) k (get_or (highest xs ys) i 0) ≡ paste out₀ 0 (highest xs ys) (suc i)) (zero-add i) p)

-- and the tail laid after it
pub highest_laid : (xs ys out out₀ : List ℕ) (n : ℕ) → n ≡ length xs → length xs ≤ length ys → length ys ≤ length out₀
    → out ≡ paste out₀ 0 (highest xs ys) n → pasted out n (drop n ys) ≡ pasted out₀ 0 (highest xs ys)
highest_laid xs ys out out₀ n h l m e =
    let k = length_highest xs ys in
    let t : length (take n (highest xs ys)) ≡ n = length-take-le n (highest xs ys) (omega arith) in
    let z : 0 + length (take n (highest xs ys)) ≡ n = zero-add (length (take n (highest xs ys))) ∙ t in
    let q : out ≡ pasted out₀ 0 (take n (highest xs ys)) = e ∙ (rw t) in
    let d : drop n (highest xs ys) ≡ drop n ys = rw h (highest_tail xs ys l) in
    let p = pasted_append out₀ 0 (take n (highest xs ys)) (omega arith) (drop n ys) in
    ap (λ (r : List ℕ). pasted r n (drop n ys)) q
    ∙ subst (λ (k : ℕ). pasted (pasted out₀ 0 (take n (highest xs ys))) k (drop n ys) ≡ pasted out₀ 0 (take n (highest xs ys) ++ drop n ys)) z p
    ∙ ap (pasted out₀ 0) (ap (λ (r : List ℕ). take n (highest xs ys) ++ r) (sym d) ∙ take-append-drop n (highest xs ys))

-- either list may be the first
pub highest_other : (xs ys out out' : List ℕ) → out' ≡ pasted out 0 (highest ys xs) → out' ≡ highest xs ys ++ drop (length (highest xs ys)) out
highest_other xs ys out out' e = e ∙ pasted_front out (highest ys xs) ∙ ap (λ (x : List ℕ). x ++ drop (length x) out) (highest_comm ys xs)

-- ── may the two merge ──
first_of : (xs : List ℕ) → (length xs ≡ 0 → ⊥) → xs ≡ get_or xs 0 0 ∷ drop 1 xs
first_of [] h = absurd (h refl)
first_of (x ∷ xs) h = refl

empty : (xs : List ℕ) → length xs ≡ 0 → xs ≡ []
empty [] h = refl
empty (x ∷ xs) h = absurd (omega arith)

module _ (e p : Dmx) where
  pub not_older_empty : length e.values ≡ 0 → false ≡ mergeable e p
  unfolding mergeable same_start
  not_older_empty h = let z = empty e.values h in cc

  pub not_newer_empty : (length e.values ≡ 0 → ⊥) → length p.values ≡ 0 → false ≡ mergeable e p
  unfolding mergeable same_start
  not_newer_empty g h = let f = first_of e.values g in let z = empty p.values h in cc

  module _ (g : length e.values ≡ 0 → ⊥) (h : length p.values ≡ 0 → ⊥) where
    mergeable_first : mergeable e p
        ≡ (eqb (get_or e.values 0 0) (get_or p.values 0 0) && eqb e.head.universe p.head.universe && eqb e.head.sync_uni p.head.sync_uni)
    unfolding mergeable same_start
    mergeable_first = let f = first_of e.values g in let k = first_of p.values h in cc

    pub not_first : (get_or e.values 0 0 ≡ get_or p.values 0 0 → ⊥) → false ≡ mergeable e p
    not_first n = let f = ne_eqb (get_or e.values 0 0) (get_or p.values 0 0) n in cc (mergeable_first)

    module _ (x : get_or e.values 0 0 ≡ get_or p.values 0 0) where
      pub not_universe : (e.head.universe ≡ p.head.universe → ⊥) → false ≡ mergeable e p
      not_universe n =
          let f = eq-eqb (get_or e.values 0 0) (get_or p.values 0 0) x in
          let k = ne_eqb e.head.universe p.head.universe n in
          cc (mergeable_first)

      pub by_address : e.head.universe ≡ p.head.universe → eqb e.head.sync_uni p.head.sync_uni ≡ mergeable e p
      by_address u =
          let f = eq-eqb (get_or e.values 0 0) (get_or p.values 0 0) x in
          let k = eq-eqb e.head.universe p.head.universe u in
          cc (mergeable_first)

  -- ── the choice by priority ──
  pub choice_long : {n : ℕ} → too_long e.values p.values ≡ Some n → TooLong n ≡ choice e p
  unfolding choice
  choice_long h = cc

  pub choice_older : too_long e.values p.values ≡ None → p.head.priority < e.head.priority → Older ≡ choice e p
  unfolding choice
  choice_older h l = let f = lt-ltb p.head.priority e.head.priority l in cc

  pub choice_newer : too_long e.values p.values ≡ None → e.head.priority ≤ p.head.priority → Newer ≡ choice e p
  unfolding choice
  choice_newer h l = let f = le-ltb p.head.priority e.head.priority l in cc

  -- ── the highest-value merge: its answer and its output ──
  -- what a return shows
  pub record Answered (out : List ℕ) (r : HtpAnswer) (out' : List ℕ) : Type 0 where
    pub answers : r ≡ htp_answer (length out) e p
    pub outputs : out' ≡ htp_output r e p out

  module _ (out : List ℕ) where
    pub htp_long : {n : ℕ} → too_long e.values p.values ≡ Some n → Answered out (htp.TooLong n) out
    unfolding htp_answer htp_output
    htp_long h = record { answers = cc; outputs = refl }

    module _ (t : too_long e.values p.values ≡ None) where
      pub htp_refused : mergeable e p ≡ false → Answered out htp.Refused out
      unfolding htp_answer htp_output htp_merge htp_with
      htp_refused h = record { answers = cc; outputs = refl }

      module _ (m : mergeable e p ≡ true) where
        pub htp_short : {n : ℕ} → n ≡ max (length e.values) (length p.values) → length out < n → Answered out (htp.OutputShort n) out
        unfolding htp_answer htp_output htp_merge htp_with
        htp_short {n} h l = record { answers = let f = lt-ltb (length out) n l in cc; outputs = refl }

        module _ (room : max (length e.values) (length p.values) ≤ length out) where
          htp_done : (d : Dmx) → joined e p ≡ d → Answered out (htp.Merged d.head (length d.values)) (pasted out 0 d.values)
          unfolding htp_answer htp_output htp_merge htp_with
          htp_done d h = record {
            answers = let f = le-ltb (length out) (max (length e.values) (length p.values)) room in cc;
            outputs = pasted_front out d.values ∙ ap (λ (x : Dmx). x.values ++ drop (length x.values) out) (sym h);
          }

          pub htp_older : p.head.priority < e.head.priority → Answered out (htp.Merged e.head (length e.values)) (pasted out 0 e.values)
          unfolding joined
          htp_older l = htp_done e (let f = lt-ltb p.head.priority e.head.priority l in cc)

          pub htp_newer : e.head.priority < p.head.priority → Answered out (htp.Merged p.head (length p.values)) (pasted out 0 p.values)
          unfolding joined
          htp_newer l =
              htp_done p (let f = le-ltb p.head.priority e.head.priority (omega arith) in let g = lt-ltb e.head.priority p.head.priority l in cc)

          -- at equal priority; the values laid in either order of the two lists
          pub htp_equal : (n : ℕ) (d : DmxData) (xs : List ℕ) → n ≡ max (length e.values) (length p.values) → d ≡ (blended e p).head
              → p.head.priority ≤ e.head.priority → e.head.priority ≤ p.head.priority → xs ≡ highest e.values p.values
              → Answered out (htp.Merged d n) (pasted out 0 xs)
          unfolding joined blended
          htp_equal n d xs h k a b x =
              let f = le-ltb p.head.priority e.head.priority b in
              let g = le-ltb e.head.priority p.head.priority a in
              let r = htp_done (blended e p) (cc) in
              let l = length_highest e.values p.values in
              rw (k, h, ← l, x) r
