-- What stands at its place stays. Otherwise each turn pushes the next of the part behind those moved; what is still to be looked at is as it was.
-- Assumes nothing.
use Rattle.std.proofs.Common.{◌≡◌, sym, ap, ◌∙◌, refl, arith, ℕ, ◌+◌, List, ◌++◌, ◌∷◌, [], take, drop, get_or, length-set, take-add}
use mathlib.Core.List.{append_assoc}
use Rattle.discovery_rows.specs.Walks.{pushed, further, read_first}
use Rattle.discovery_pages.specs.Pool.{part_more}
use Rattle.discovery_pages.proofs.pool.move_down.Goals as goal

pub loop-i-preserved : goal.loop-i-preserved
loop-i-preserved c =
    let w = c.loop-i in
    let v = c.args in
    let u = v.universes.now in
    let x = read_first w.universes u (v.from + w.i) 0 w.invariant.2 in
    let e : v.to + w.i + 1 ≡ v.to + (w.i + 1) = omega arith in
    let f : v.from + w.i + 1 ≡ v.from + (w.i + 1) = omega arith in
    let p = pushed w.universes (take v.to u ++ take w.i (drop v.from u)) (v.to + w.i) (get_or w.universes (v.from + w.i) 0) (omega arith) w.invariant.1 in
    let q = further w.universes u (v.to + w.i) (v.from + w.i) (get_or w.universes (v.from + w.i) 0) (omega arith) w.invariant.2 in
    let m = part_more u v.from w.i 0 (omega arith) in (
      simp length-set w.invariant.0,
      (rw e at p)
          ∙ append_assoc (take v.to u) (take w.i (drop v.from u)) (get_or w.universes (v.from + w.i) 0 ∷ [])
          ∙ ap (λ (y : ℕ). take v.to u ++ (take w.i (drop v.from u) ++ y ∷ [])) x
          ∙ ap (λ (l : List ℕ). take v.to u ++ l) (sym m),
      (rw f at q),
    )

pub returns-else-to-from : goal.returns-else-to-from
returns-else-to-from c =
    let v = c.args in
    (refl, take-add v.to v.n v.universes.now ∙ ap (λ (k : ℕ). take v.to v.universes.now ++ take v.n (drop k v.universes.now)) c.if-to-from.false, refl)
