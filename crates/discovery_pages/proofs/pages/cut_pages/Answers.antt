-- One law for each turn of the pass: the page is cut, or it is moved down as it is.
-- Assumes nothing.
use mathlib.Core.Path.{◌≡◌, refl, sym, ap, ◌∙◌}
use mathlib.Core.Bool.{true, false, not}
use mathlib.Core.List.{List, ◌++◌, ◌∷◌, [], map}
use Prim.Native.Nat.{ℕ, ◌<◌, ◌+◌}
use native.Mathlib.Omega.{arith}
use lib.Dec.{eqb}
use lib.ListN.{length, take, drop, get_or, length-take}
use lib.Seq.{set-get_or, take_all}
use Rattle.laws.specs.Table.{keep, length_keep}
use Rattle.discovery_rows.specs.Store.{Leaf}
use Rattle.discovery_pages.specs.Leaves.{cut_leaf}
use Rattle.discovery_rows.specs.Rows.{leaves, leaf_at, amount, owned}
use Rattle.discovery_pages.specs.Passes.{pass_start, pass_row, pass_room, pass_put, pass_end, image_whole, image_less}
use Rattle.discovery_pages.proofs.pages.cut_pages.Goals as goal
use Rattle.discovery_pages.proofs.pages.cut_pages.Goals.{then-is_owned, else-is_owned}

pub loop-i-init : goal.loop-i-init
unfolding leaves
loop-i-init c = pass_start c.args.count c.args.pages.now c.args.universes.now c.requires

pub cut_down-kept-requires : goal.cut_down-kept-requires
cut_down-kept-requires c =
    let w = c.loop-i in
    let v = c.args in
    let A₀ = v.pages.now in
    let B₀ = v.universes.now in
    let image : List Leaf = map (cut_leaf v.cid v.universe) (leaves (take w.i A₀) B₀) in
    let h : w.i < v.count = c.loop-i-test.true in
    let room = pass_room v.count A₀ B₀ c.requires image w.pages w.universes w.i w.to w.from w.i w.invariant h in
    (w.invariant.below, omega (arith, room, w.invariant.pool, c.requires.pool))

pub move_down-requires : goal.move_down-requires
move_down-requires c =
    let w = c.loop-i in
    let v = c.args in
    let A₀ = v.pages.now in
    let B₀ = v.universes.now in
    let image : List Leaf = map (cut_leaf v.cid v.universe) (leaves (take w.i A₀) B₀) in
    let h : w.i < v.count = c.loop-i-test.true in
    let room = pass_room v.count A₀ B₀ c.requires image w.pages w.universes w.i w.to w.from w.i w.invariant h in
    (w.invariant.below, omega (arith, room, w.invariant.pool, c.requires.pool))

pub overflow_add-to-else-is_owned : goal.overflow_add-to-else-is_owned
overflow_add-to-else-is_owned c =
    let w = c.loop-i in
    let v = c.args in
    let A₀ = v.pages.now in
    let B₀ = v.universes.now in
    let image : List Leaf = map (cut_leaf v.cid v.universe) (leaves (take w.i A₀) B₀) in
    let h : w.i < v.count = c.loop-i-test.true in
    let room = pass_room v.count A₀ B₀ c.requires image w.pages w.universes w.i w.to w.from w.i w.invariant h in
    omega (arith, room, w.invariant.below)

pub overflow_add-from : goal.overflow_add-from
overflow_add-from c =
    let w = c.loop-i in
    let v = c.args in
    let A₀ = v.pages.now in
    let B₀ = v.universes.now in
    let image : List Leaf = map (cut_leaf v.cid v.universe) (leaves (take w.i A₀) B₀) in
    let h : w.i < v.count = c.loop-i-test.true in
    let room = pass_room v.count A₀ B₀ c.requires image w.pages w.universes w.i w.to w.from w.i w.invariant h in
    omega (arith, room)

pub loop-i-preserved : goal.loop-i-preserved
loop-i-preserved c =
    let w = c.loop-i in
    let v = c.args in
    let A₀ = v.pages.now in
    let B₀ = v.universes.now in
    let image : List Leaf = map (cut_leaf v.cid v.universe) (leaves (take w.i A₀) B₀) in
    let h : w.i < v.count = c.loop-i-test.true in
    let row = get_or w.pages w.i [] in
    let B = w.universes in
    let n = amount row in
    let same : row ≡ get_or A₀ w.i [] = pass_row v.count A₀ B₀ c.requires image w.pages w.universes w.i w.to w.from w.i w.invariant h in
    let short : w.i < length A₀ = omega (arith, c.requires.rows, c.requires.within) in
    elim c.if-is_owned.branch [
      | then-is_owned b ↦
          let d = b.cut_down-kept in
          let x : List ℕ = keep (λ x. not (eqb x v.universe)) (take n (drop w.from B)) in
          let k = d.result in
          let new : List ℕ = get_or row 0 0 ∷ get_or row 1 0 ∷ get_or row 2 0 ∷ get_or row 3 0 ∷ k ∷ [] in
          let t : owned 1 v.cid row ≡ true = sym c.is_owned.ensures ∙ b.if-is_owned.true in
          let y : x ≡ keep (λ x. not (eqb x v.universe)) (take (amount (get_or A₀ w.i [])) (drop w.from B₀)) = rw (same, w.invariant.rest_pool) in
          let e = image_less A₀ B₀ w.i w.from short w.invariant.from_total v.cid v.universe x k (rw same at t) y d.ensures.1 in
          rw (b.pages-is, b.universes-is, b.to-is)
          (pass_put v.count A₀ B₀ c.requires image w.pages w.universes w.i w.to w.from w.i w.invariant h (map (cut_leaf v.cid v.universe) (leaves (take (w.i + 1) A₀) B₀))
          new d.new.universes x k refl (omega (arith, d.ensures.1, length_keep (λ x. not (eqb x v.universe)) (take n (drop w.from B)), length-take n (drop w.from B)))
          d.ensures.0
          (d.ensures.2 ∙ ap (λ (z : List ℕ). take w.to B ++ z) (sym (take_all k x (omega (arith, d.ensures.1)))))
          d.ensures.3
          (e ∙ ap (λ (r : List ℕ). image ++ leaf_at (get_or r 0 0 ∷ get_or r 1 0 ∷ get_or r 2 0 ∷ get_or r 3 0 ∷ k ∷ []) x ∷ []) (sym same)))
      | else-is_owned b ↦
          let d = b.move_down in
          let t : owned 1 v.cid row ≡ false = sym c.is_owned.ensures ∙ b.if-is_owned.false in
          let e : leaf_at (get_or A₀ w.i []) (drop w.from B₀) ≡ leaf_at row (drop w.from B) = rw (same, w.invariant.rest_pool) in
          let p = pass_put v.count A₀ B₀ c.requires image w.pages w.universes w.i w.to w.from w.i w.invariant h (map (cut_leaf v.cid v.universe) (leaves (take (w.i + 1) A₀) B₀))
          row d.new.universes (drop w.from B) n refl (omega arith) d.ensures.0 d.ensures.1 d.ensures.2
          (image_whole A₀ B₀ w.i w.from short w.invariant.from_total v.cid v.universe (rw same at t) ∙ ap (λ (l : Leaf). image ++ l ∷ []) e) in
          rw (b.pages-is, b.universes-is, b.to-is) (rw (set-get_or w.pages w.i []) at p)
    ]

pub returns : goal.returns
returns c =
    let w = c.loop-i in
    let v = c.args in
    let A₀ = v.pages.now in
    let B₀ = v.universes.now in
    let e : w.i ≡ v.count = omega arith in
    rw e at (pass_end v.count A₀ B₀ c.requires (map (cut_leaf v.cid v.universe) (leaves (take w.i A₀) B₀)) w.pages w.universes w.i w.to w.from w.i w.invariant)
