-- Walks over rows: the turns of a loop that writes behind what it has read, and where a walk begins and ends.
-- Assumes nothing.
use Rattle.std.specs.Prelude.{◌≡◌, refl, Bool, true, false, not, List, [], ◌∷◌, ◌++◌, ℕ, ◌+◌, ◌≤◌, ◌<◌, eqb, length, take, drop, get_or, set}
use Rattle.std.proofs.Common.{sym, ap, ◌∙◌, arith, add-one, length-take, take-suc-set, drop-set-lt, drop-drop, get_or-drop}
use Rattle.laws.specs.Cases.{split, clash}
use Rattle.laws.specs.Place.{prefix, prefix_le, prefix_sooner}
use Rattle.rules.specs.declared.Cid.{Cid}
use Rattle.rules.specs.Cid.{same}
use Rattle.discovery_rows.specs.Rows.{cid_at, owned}

module _ {A : Type 0} where
  -- an element written behind those already there
  pub pushed : (a l : List A) (w : ℕ) (x : A) → w < length a → take w a ≡ l → take (w + 1) (set a w x) ≡ l ++ x ∷ []
  pushed a l w x h e = rw (add-one, take-suc-set a w x h, e)

  -- what is still to be looked at, one further and with a store before it
  pub further : (a b : List A) (w r : ℕ) (x : A) → w ≤ r → drop r a ≡ drop r b → drop (r + 1) (set a w x) ≡ drop (r + 1) b
  further a b w r x h e =
      drop-set-lt (r + 1) a w x (omega arith) ∙ sym (drop-drop 1 r a) ∙ ap (drop 1) e ∙ drop-drop 1 r b

  pub further_read : (a b : List A) (r : ℕ) → drop r a ≡ drop r b → drop (r + 1) a ≡ drop (r + 1) b
  further_read a b r e = sym (drop-drop 1 r a) ∙ ap (drop 1) e ∙ drop-drop 1 r b

  -- the element read is the one that stood there at first
  pub read_first : (a b : List A) (r : ℕ) (d : A) → drop r a ≡ drop r b → get_or a r d ≡ get_or b r d
  read_first a b r d e =
      let z : r + 0 ≡ r = omega arith in
      let f : get_or a (r + 0) d ≡ get_or b (r + 0) d = sym (get_or-drop r a 0 d) ∙ ap (λ (l : List A). get_or l 0 d) e ∙ get_or-drop r b 0 d in
      rw z at f

-- ── where a walk ends ──
pub place_within : (p : List ℕ → Bool) (count : ℕ) (P : List (List ℕ)) → prefix p (take count P) ≤ count
place_within p count P = omega (arith, prefix_le p (take count P), length-take count P)

-- ── a walk that begins further on ──
-- a row that has not the CID has not the owner
pub place_sooner : (m : ℕ) (c : Cid) (rs : List (List ℕ)) → prefix (λ r. not (same (cid_at r) c)) rs ≤ prefix (λ r. not (owned m c r)) rs
place_sooner m c rs =
    prefix_sooner (λ r. not (same (cid_at r) c)) (λ r. not (owned m c r)) rs
    (λ r e. split (same (cid_at r) c)
    (λ f. let z : false ≡ true = rw f at e in clash z refl)
    (λ f. split (eqb (get_or r 0 0) m) (λ g. rw (g, f)) (λ g. rw g)))
