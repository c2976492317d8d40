-- What a header notes of its rows, `older` and `lonely`, after each change of the rows.
-- Assumes nothing.
use Rattle.std.specs.Prelude.{◌≡◌, Bool, true, not, ℕ, ◌≤◌, ltb}
use Rattle.std.proofs.Math.Path.{refl}
use Rattle.std.proofs.Common.{ap, arith, ltb-false, le-ltb}
use Rattle.std.proofs.Math.Bool.{false}
use mathlib.Core.List.{List, [], ◌∷◌}
use Rattle.laws.specs.Cases.{split, clash}
use Rattle.laws.specs.Order.{Order, tri, keyed}
use Rattle.laws.specs.Table.{keep, any, store, remove, Ascending, other_than, remove_keep}
use Rattle.rules.specs.declared.Cid.{Cid}
use Rattle.rules.specs.Cid.{same, before}
use Rattle.rules.proofs.CidLaws.{cid_order, same_refl}
use Rattle.pairs.specs.declared.Pair.{Pair}
use Rattle.pairs.specs.Table.{Key, key_of, key_before, itself, has, leave}
use Rattle.pairs.proofs.TableLaws.{key_order}
use Rattle.pairs.proofs.Laws.{has_store, has_remove}
use Rattle.pair_rows.specs.View.{older, lonely}

-- ── a test that no entry passes ──
module _ {E : Type 0} (t u v : E → Bool) where
  -- also none of those that are kept, where the two tests agree
  pub any_keep : (es : List E) → ((e : E) → v e ≡ true → t e ≡ u e) → any u es ≡ false → any t (keep v es) ≡ false
  unfolding any keep
  any_keep [] h a = refl
  any_keep (e ∷ es) h a =
      split (u e)
      (λ p. clash (rw p) a)
      (λ p. let r = any_keep es h (cc) in split (v e) (λ q. let g = h e q in cc) (λ q. cc))

pub any_agree : {E : Type 0} (t u : E → Bool) (es : List E) → ((e : E) → u e ≡ false → t e ≡ false) → any u es ≡ false → any t es ≡ false
unfolding any
any_agree t u [] h a = refl
any_agree t u (e ∷ es) h a = split (u e) (λ p. clash (rw p) a) (λ p. let r = any_agree t u es h (cc) in let g = h e p in cc)

module _ {K E : Type 0} (lt : K → K → Bool) (key : E → K) (O : Order lt) (t : E → Bool) where
  pub any_remove : (k : K) (es : List E) → any t es ≡ false → any t (remove lt key k es) ≡ false
  unfolding any remove
  any_remove k [] a = refl
  any_remove k (e ∷ es) a =
      split (t e)
      (λ p. clash (rw p) a)
      (λ p. let b : any t es ≡ false = cc in let r = any_remove k es b in tri lt O (key e) k (λ f g. cc) (λ f. let i = O.irrefl k in cc) (λ f g. cc))

  pub any_store : (x : E) (es : List E) → t x ≡ false → any t es ≡ false → any t (store lt key x es) ≡ false
  unfolding any store
  any_store x [] h a = rw h
  any_store x (e ∷ es) h a =
      split (t e)
      (λ p. clash (rw p) a)
      (λ p. let b : any t es ≡ false = cc in let r = any_store x es h b in tri lt O (key e) (key x) (λ f g. cc) (λ f. let i = O.irrefl (key x) in cc) (λ f g. cc))

-- ── the header's notes after each call ──
pub older_less : (o l : ℕ) (ps : List Pair) → l ≤ o → older o ps ≡ false → older l ps ≡ false
older_less o l ps h a = any_agree (λ p. ltb p.reading l) (λ p. ltb p.reading o) ps (λ p e. le-ltb p.reading l (omega (arith, ltb-false p.reading o e))) a

pub older_stored : (o l : ℕ) (p : Pair) (ps : List Pair) → l ≤ o → l ≤ p.reading → older o ps ≡ false → older l (store key_before key_of p ps) ≡ false
older_stored o l p ps h g a = any_store key_before key_of key_order (λ q. ltb q.reading l) p ps (le-ltb p.reading l g) (older_less o l ps h a)

pub older_removed : (o : ℕ) (k : Key) (ps : List Pair) → older o ps ≡ false → older o (remove key_before key_of k ps) ≡ false
older_removed o k ps a = any_remove key_before key_of key_order (λ q. ltb q.reading o) k ps a

pub lonely_swept : (ps : List Pair) (cs : List Cid) → lonely ps (keep (has ps) cs) ≡ false
unfolding any keep
lonely_swept ps [] = refl
lonely_swept ps (c ∷ cs) = let r = lonely_swept ps cs in split (has ps c) (λ e. cc) (λ e. cc)

pub lonely_recorded : (p : Pair) (ps : List Pair) (cs : List Cid) → lonely ps cs ≡ false → lonely (store key_before key_of p ps) (store before itself p.cid cs) ≡ false
lonely_recorded p ps cs a =
    any_store before itself cid_order (λ c. not (has (store key_before key_of p ps) c)) p.cid cs
    (rw (has_store p.cid p ps, same_refl p.cid))
    (any_agree (λ c. not (has (store key_before key_of p ps) c)) (λ c. not (has ps c)) cs
    (λ c e. let f : has ps c ≡ true = split (has ps c) (λ g. g) (λ g. clash (rw g) e) in rw (has_store c p ps, f) (split (same p.cid c) (λ g. rw g) (λ g. rw g)))
    a)

pub lonely_without : (k : Key) (ps : List Pair) (cs : List Cid) → Ascending before itself cs → lonely ps cs ≡ false
    → lonely (remove key_before key_of k ps) (leave k.cid (remove key_before key_of k ps) cs) ≡ false
lonely_without k ps cs o a =
    let rest : List Pair = remove key_before key_of k ps in
    split (has rest k.cid)
    (λ h. rw h (any_agree (λ c. not (has rest c)) (λ c. not (has ps c)) cs
    (λ c e. keyed before cid_order c k.cid (λ f. rw (f, h)) (λ n. rw (has_remove c k ps n) e))
    a))
    (λ h. rw (h, remove_keep before itself cid_order k.cid cs o) (any_keep (λ c. not (has rest c)) (λ c. not (has ps c)) (other_than before itself k.cid) cs
    (λ c e. ap not (has_remove c k ps (λ f. clash e (rw (f, cid_order.irrefl k.cid)))))
    a))
