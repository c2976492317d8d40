-- One law for each turn of the pass: the page goes, or it is moved down.
-- Assumes nothing.
use mathlib.Core.Path.{◌≡◌, refl, sym, ap, ◌∙◌}
use mathlib.Core.Bool.{true, false, not}
use mathlib.Core.List.{List, ◌++◌, ◌∷◌, []}
use Prim.Native.Nat.{◌<◌, ◌+◌}
use native.Mathlib.Omega.{arith}
use lib.ListN.{length, take, drop, get_or}
use Rattle.laws.specs.Table.{keep}
use Rattle.discovery_rows.specs.Store.{Leaf, held_by}
use Rattle.discovery_rows.specs.Rows.{leaves, leaf_at, amount, owned}
use Rattle.discovery_pages.specs.Passes.{pass_start, pass_row, pass_room, pass_skip, pass_put, pass_end, image_gone, image_kept}
use Rattle.discovery_pages.proofs.pages.drop_pages.Goals as goal
use Rattle.discovery_pages.proofs.pages.drop_pages.Goals.{then-not-is_owned, else-not-is_owned}

pub loop-i-init : goal.loop-i-init
unfolding keep leaves
loop-i-init c = pass_start c.args.count c.args.pages.now c.args.universes.now c.requires

pub move_down-requires : goal.move_down-requires
move_down-requires c =
    let w = c.loop-i in
    let v = c.args in
    let A₀ = v.pages.now in
    let B₀ = v.universes.now in
    let image : List Leaf = keep (λ l. not (held_by v.mark v.cid l)) (leaves (take w.i A₀) B₀) in
    let h : w.i < v.count = c.loop-i-test.true in
    let room = pass_room v.count A₀ B₀ c.requires image w.pages w.universes w.kept w.to w.from w.i w.invariant h in
    (w.invariant.below, omega (arith, room, w.invariant.pool, c.requires.pool))

pub overflow_add-to : goal.overflow_add-to
overflow_add-to c =
    let w = c.loop-i in
    let v = c.args in
    let A₀ = v.pages.now in
    let B₀ = v.universes.now in
    let image : List Leaf = keep (λ l. not (held_by v.mark v.cid l)) (leaves (take w.i A₀) B₀) in
    let h : w.i < v.count = c.loop-i-test.true in
    let room = pass_room v.count A₀ B₀ c.requires image w.pages w.universes w.kept w.to w.from w.i w.invariant h in
    omega (arith, room, w.invariant.below)

pub overflow_add-from : goal.overflow_add-from
overflow_add-from c =
    let w = c.loop-i in
    let v = c.args in
    let A₀ = v.pages.now in
    let B₀ = v.universes.now in
    let image : List Leaf = keep (λ l. not (held_by v.mark v.cid l)) (leaves (take w.i A₀) B₀) in
    let h : w.i < v.count = c.loop-i-test.true in
    let room = pass_room v.count A₀ B₀ c.requires image w.pages w.universes w.kept w.to w.from w.i w.invariant h in
    omega (arith, room)

pub loop-i-preserved : goal.loop-i-preserved
loop-i-preserved c =
    let w = c.loop-i in
    let v = c.args in
    let A₀ = v.pages.now in
    let B₀ = v.universes.now in
    let image : List Leaf = keep (λ l. not (held_by v.mark v.cid l)) (leaves (take w.i A₀) B₀) in
    let h : w.i < v.count = c.loop-i-test.true in
    let row = get_or w.pages w.i [] in
    let same : row ≡ get_or A₀ w.i [] = pass_row v.count A₀ B₀ c.requires image w.pages w.universes w.kept w.to w.from w.i w.invariant h in
    let short : w.i < length A₀ = omega (arith, c.requires.rows, c.requires.within) in
    elim c.if-not-is_owned.branch [
      | then-not-is_owned b ↦
          let d = b.move_down in
          let B = w.universes in
          let t : owned v.mark v.cid row ≡ false = sym c.is_owned.ensures ∙ b.if-not-is_owned.true in
          let e : leaf_at (get_or A₀ w.i []) (drop w.from B₀) ≡ leaf_at row (drop w.from B) = rw (same, w.invariant.rest_pool) in
          rw (b.pages-is, b.universes-is, b.kept-is, b.to-is)
          (pass_put v.count A₀ B₀ c.requires image w.pages w.universes w.kept w.to w.from w.i w.invariant h (keep (λ l. not (held_by v.mark v.cid l)) (leaves (take (w.i + 1) A₀) B₀))
          row d.new.universes (drop w.from B) (amount row) refl (omega arith) d.ensures.0 d.ensures.1 d.ensures.2
          (image_kept A₀ B₀ w.i w.from short w.invariant.from_total v.mark v.cid (rw same at t) ∙ ap (λ (l : Leaf). image ++ l ∷ []) e))
      | else-not-is_owned b ↦
          let t : owned v.mark v.cid row ≡ true = sym c.is_owned.ensures ∙ b.if-not-is_owned.false in
          rw (b.pages-is, b.universes-is, b.kept-is, b.to-is)
          (pass_skip v.count A₀ B₀ c.requires image w.pages w.universes w.kept w.to w.from w.i w.invariant h (keep (λ l. not (held_by v.mark v.cid l)) (leaves (take (w.i + 1) A₀) B₀))
          (image_gone A₀ B₀ w.i w.from short w.invariant.from_total v.mark v.cid (rw same at t)))
    ]

pub returns : goal.returns
returns c =
    let w = c.loop-i in
    let v = c.args in
    let A₀ = v.pages.now in
    let B₀ = v.universes.now in
    let e : w.i ≡ v.count = omega arith in
    rw e at (pass_end v.count A₀ B₀ c.requires (keep (λ l. not (held_by v.mark v.cid l)) (leaves (take w.i A₀) B₀)) w.pages w.universes w.kept w.to w.from w.i w.invariant)
