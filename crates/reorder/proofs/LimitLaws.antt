-- Sources and the limit: where every CID that has a pair is one of a list that the limit allows, 6 is never given.
-- Assumes nothing.
use Rattle.std.proofs.Math.Path.{◌≡◌}
use Rattle.std.specs.Prelude.{refl, Bool, true, ℕ, suc, ◌≤◌, length}
use Rattle.std.proofs.Common.{sym, ◌∙◌}
use Rattle.std.proofs.Math.Option.{none, some}
use Rattle.std.proofs.Math.Bool.{false}
use mathlib.Core.List.{List, [], ◌∷◌}
use native.Mathlib.Omega.{arith}
use Rattle.std.proofs.lemmas.Bool.{lt-leb}
use Rattle.laws.specs.Cases.{split, clash}
use Rattle.laws.specs.Order.{Order, tri, keyed}
use Rattle.laws.specs.Table.{find, store, Ascending, find_under, under_trans, find_store_other, ascending_store, length_store_new, remove_keep, other_than}
use Rattle.rules.specs.declared.Cid.{Cid}
use Rattle.rules.specs.Cid.{before}
use Rattle.rules.proofs.CidLaws.{cid_order, same_path}
use Rattle.rules.specs.Cid as cid
use Rattle.settings.specs.declared.SourceLimit.{SourceLimit}
use Rattle.settings.specs.declared.SourceLimit.TheVariants.{Unlimited, AtMost}
use Rattle.pairs.specs.Table.{Table, itself, has, swept, recorded, key_before, key_of}
use Rattle.pairs.proofs.TableLaws.{key_order}
use Rattle.pairs.specs.Laws.{GoodTable}
use Rattle.pairs.proofs.Laws.{find_cids, ascending_cids, has_keep, has_store, without_pairs}
use Rattle.reorder.specs.Demand.{InLimit}
use Rattle.reorder.specs.Ideal.{Change, same, put, drop, change, Local}
use Rattle.reorder.proofs.AgreeLaws.{Room}

-- an ascending list whose members all stand in another is not longer
module _ {K : Type 0} (lt : K → K → Bool) (O : Order lt) where
  abbrev pub In : K → List K → Type 0
  In k ks = find lt (λ j. j) k ks ≡ some k

  pub subset_length : (xs ys : List K) → Ascending lt (λ j. j) xs → Ascending lt (λ j. j) ys → ((c : K) → In c xs → In c ys) → length xs ≤ length ys
  unfolding find
  subset_length [] ys a b h = omega arith
  subset_length (x ∷ xs) [] a b h =
      let i = O.irrefl x in
      let g : none ≡ some x = h x (cc) in
      let z : ◌≡◌ {A = ℕ} 0 1 = cc in
      absurd (omega arith)
  subset_length (x ∷ xs) (y ∷ ys) a b h =
      tri lt O x y
      (λ p q.
      let i = O.irrefl x in
      let g : In x (y ∷ ys) = h x (cc) in
      let z : none ≡ some x = cc in
      let w : ◌≡◌ {A = ℕ} 0 1 = cc in
      absurd (omega arith))
      (λ e.
      let r = subset_length xs ys a.1 b.1
      (λ c k. tri lt O c x
      (λ p q.
      let u = find_under lt (λ (j : K). j) O c xs (under_trans lt (λ (j : K). j) O c x xs p a.0) in
      let z : none ≡ some c = cc in let w : ◌≡◌ {A = ℕ} 0 1 = cc in absurd (omega arith))
      (λ f.
      let u = find_under lt (λ (j : K). j) O x xs a.0 in
      let z : none ≡ some c = cc in let w : ◌≡◌ {A = ℕ} 0 1 = cc in absurd (omega arith))
      (λ p q. let g : In c (y ∷ ys) = h c (cc) in cc)) in
      omega arith)
      (λ p q.
      let r = subset_length (x ∷ xs) ys a b.1
      (λ c k. tri lt O c y
      (λ p' q'.
      let t = O.trans c y x p' q in
      let s : lt x c ≡ false = split (lt x c) (λ v. clash (O.trans x c x v t) (O.irrefl x)) (λ v. v) in
      let z : none ≡ some c = cc in let w : ◌≡◌ {A = ℕ} 0 1 = cc in absurd (omega arith))
      (λ f.
      let z : none ≡ some c = cc in let w : ◌≡◌ {A = ℕ} 0 1 = cc in absurd (omega arith))
      (λ p' q'. let g = h c k in cc)) in
      omega arith)

-- every CID that has a pair is one of the list's
abbrev pub Within : List Cid → Table → Type 0
Within D t = (c : Cid) → has t.pairs c ≡ true → In before cid_order c D

-- the listed sources and one more
one_more : (D : List Cid) (c : Cid) (t : Table) → GoodTable t → Within D t → Ascending before itself D → In before cid_order c D
    → has t.pairs c ≡ false → suc (length t.sources) ≤ length D
one_more D c t g w a k n =
    let q = g.counted in
    let f = find_cids c t.pairs in
    let u : find before itself c t.sources ≡ none = rw q (f ∙ (rw n)) in
    let b = length_store_new before itself cid_order c t.sources u in
    let s : Ascending before itself t.sources = rw q (ascending_cids t.pairs) in
    let r = subset_length before cid_order (store before itself c t.sources) D (ascending_store before itself cid_order c t.sources s) a
    (λ d y. keyed before cid_order d c
    (λ p. rw p k)
    (λ p.
    let o = find_store_other before itself cid_order d c t.sources p in
    let e = find_cids d t.pairs in
    w d (split (has t.pairs d) (λ z. z) (λ z.
    let v : none ≡ some d = cc in let x : ◌≡◌ {A = ℕ} 0 1 = cc in absurd (omega arith))))) in
    omega arith

pub room : (limit : SourceLimit) (D : List Cid) (c : Cid) (t : Table) → GoodTable t → Within D t → Ascending before itself D → In before cid_order c D
    → InLimit limit D → Room limit c t
room Unlimited D c t g w a k l n = refl
room (AtMost m) D c t g w a k l n = lt-leb m (length t.sources) (omega (arith, one_more D c t g w a k n))

pub within_swept : (D : List Cid) (now : ℕ) (t : Table) → Within D t → Within D (swept now t)
unfolding swept
within_swept D now t w c h = w c (has_keep c _ t.pairs h)

pub within_change : (D : List Cid) (d : Cid) (a : Change) (t : Table) → GoodTable t → Within D t → Local d a → In before cid_order d D → Within D (change a t)
unfolding change recorded
within_change D d same t g w l k c h = w c h
within_change D d (put p) t g w l k c h =
    let r = has_store c p t.pairs in
    split (cid.same p.cid c)
    (λ x. let e : d ≡ c = sym l ∙ same_path p.cid c x in rw (← e) k)
    (λ x. w c (cc))
within_change D d (drop j) t g w l k c h =
    let r = without_pairs j t ∙ remove_keep key_before key_of key_order j t.pairs g.ascending in
    w c (has_keep c (other_than key_before key_of j) t.pairs (rw r at h))
