-- A turn passes over the universe that ends, or pushes another behind those kept.
-- Assumes nothing.
use mathlib.Core.Path.{◌≡◌, refl, sym, ap, ◌∙◌}
use mathlib.Core.Bool.{Bool, true, false, not}
use mathlib.Core.List.{List, ◌++◌, ◌∷◌, [], append_assoc, append-nil}
use Prim.Native.Nat.{ℕ, ◌<◌, ◌+◌}
use native.Mathlib.Omega.{arith}
use lib.Dec.{eqb}
use lib.ListN.{length, take, drop, get_or, length-set, length-append}
use borrow.Author.Tests.{eq-eqb, ne_eqb}
use Rattle.laws.specs.Table.{keep}
use Rattle.discovery_rows.specs.Walks.{pushed, further, further_read, read_first}
use Rattle.discovery_pages.specs.Pool.{kept_more, kept_passed}
use Rattle.discovery_pages.proofs.pool.cut_down.Goals as goal
use Rattle.discovery_pages.proofs.pool.cut_down.Goals.{then-u-universe, else-u-universe}

pub loop-i-init : goal.loop-i-init
unfolding keep
loop-i-init c =
    let v = c.args in
    let e : v.to + 0 ≡ v.to = omega arith in
    (refl, refl, rw e (sym (append-nil (take v.to v.universes.now))), refl, omega arith)

pub loop-i-preserved : goal.loop-i-preserved
loop-i-preserved c =
    let w = c.loop-i in
    let v = c.args in
    let u = v.universes.now in
    let p : ℕ → Bool = λ k. not (eqb k v.universe) in
    let x = get_or w.universes (v.from + w.i) 0 in
    let l : v.from + w.i < length u = omega arith in
    let e : x ≡ get_or u (v.from + w.i) 0 = read_first w.universes u (v.from + w.i) 0 w.invariant.3 in
    let j : v.from + w.i + 1 ≡ v.from + (w.i + 1) = omega arith in
    elim c.if-u-universe.branch [
      | then-u-universe b ↦
          let f : p (get_or u (v.from + w.i) 0) ≡ true = rw (← e) (simp (ne_eqb x v.universe b.if-u-universe.true)) in
          let m : keep p (take (w.i + 1) (drop v.from u)) ≡ keep p (take w.i (drop v.from u)) ++ get_or u (v.from + w.i) 0 ∷ [] = kept_more p u v.from w.i 0 l f in
          let g : v.to + w.kept + 1 ≡ v.to + (w.kept + 1) = omega arith in
          let q = pushed w.universes (take v.to u ++ keep p (take w.i (drop v.from u))) (v.to + w.kept) x (omega arith) w.invariant.2 in
          let r = further w.universes u (v.to + w.kept) (v.from + w.i) x (omega arith) w.invariant.3 in
          rw (b.universes-is, b.kept-is) (
            simp length-set w.invariant.0,
            omega (arith, ap length m, length-append (keep p (take w.i (drop v.from u))) (get_or u (v.from + w.i) 0 ∷ []), w.invariant.1),
            (rw g at q)
                ∙ append_assoc (take v.to u) (keep p (take w.i (drop v.from u))) (x ∷ [])
                ∙ ap (λ (y : ℕ). take v.to u ++ (keep p (take w.i (drop v.from u)) ++ y ∷ [])) e
                ∙ ap (λ (k : List ℕ). take v.to u ++ k) (sym m),
            (rw j at r),
            omega arith,
          )
      | else-u-universe b ↦
          let f : p (get_or u (v.from + w.i) 0) ≡ false = rw (← e) (simp (eq-eqb x v.universe b.if-u-universe.false)) in
          let m : keep p (take (w.i + 1) (drop v.from u)) ≡ keep p (take w.i (drop v.from u)) = kept_passed p u v.from w.i 0 l f in
          let r = further_read w.universes u (v.from + w.i) w.invariant.3 in
          rw (b.universes-is, b.kept-is) (
            w.invariant.0,
            w.invariant.1 ∙ ap length (sym m),
            w.invariant.2 ∙ ap (λ (k : List ℕ). take v.to u ++ k) (sym m),
            (rw j at r),
            omega arith,
          )
    ]
