-- One walk along both ascending lists: pairs whose CID is before the one looked at are passed, and the first that is left decides.
-- Assumes nothing.
use mathlib.Core.Path.{◌≡◌, sym, ap, ◌∙◌}
use mathlib.Core.List.{[]}
use Prim.Native.Nat.{◌<◌, ◌+◌}
use native.Mathlib.Omega.{arith}
use lib.ListN.{length, take, drop, get_or, set, length-set}
use Rattle.laws.specs.Arrays.{spent}
use Rattle.laws.specs.Place.{prefix}
use Rattle.rules.specs.declared.Cid.{Cid}
use Rattle.pair_rows.specs.View.{cid_of, row_before, starts}
use Rattle.pair_sweeps.specs.Sweep.{stays, Walk, owner, walk_starts, walk_skip, walk_has, walk_drop, walk_keep, walk_done}
use borrow.Author.Rules.{rules}
use Rattle.pair_sweeps.proofs.keep_sources.Goals as goal
use Rattle.pair_sweeps.proofs.keep_sources.Goals.{then-starts_with, else-starts_with, then-kept-i, else-kept-i}

pub loop-i-init : goal.loop-i-init
loop-i-init c =
    let v = c.args in
    (search rules, search rules, search rules, search rules, walk_starts (take v.n v.pairs.now) v.m v.sources.now c.requires.sources_ascend)

pub loop-i-preserved : goal.loop-i-preserved
loop-i-preserved c =
    let v = c.args in
    let h = c.loop-i in
    let inside : (h.i < v.m) × (h.i < length h.sources) = omega arith in
    let reached : c.skip_before-j.result ≡ h.j + prefix (row_before (cid_of (get_or h.sources h.i []))) (drop h.j (take v.n v.pairs.now)) = c.skip_before-j.ensures.1
    ∙ ap (λ (d : Cid). h.j + prefix (row_before d) (drop h.j (take v.n v.pairs.now))) c.cid_of-cid.ensures in
    let skipped : Walk (take v.n v.pairs.now) (take v.m v.sources.now) v.m h.sources h.kept h.i c.skip_before-j.result = walk_skip h.invariant.4 inside.0 inside.1 c.skip_before-j.result reached in
    let test : owner (drop c.skip_before-j.result (take v.n v.pairs.now)) (get_or h.sources h.i []) ≡ c.starts_with.result = walk_has h.invariant.4 inside.0 inside.1 c.skip_before-j.result reached c.requires.pairs_ascend
    ∙ ap (λ (d : Cid). starts d (drop c.skip_before-j.result (take v.n v.pairs.now))) (sym c.cid_of-cid.ensures)
    ∙ sym c.starts_with.ensures in
    elim c.if-starts_with.branch [
      | then-starts_with w ↦
          let stored : w.if-kept-i.sources ≡ set h.sources h.kept (get_or h.sources h.i []) = elim w.if-kept-i.branch [
            | then-kept-i u ↦ u.sources-is
            | else-kept-i u ↦ u.sources-is ∙ stays h.sources h.kept h.i (omega arith)
          ] in
          rw (w.sources-is, w.kept-is, stored) (omega arith, omega arith, omega arith, simp length-set h.invariant.3, walk_keep skipped inside.0 inside.1 (omega arith) (test ∙ w.if-starts_with.true))
      | else-starts_with w ↦ rw (w.sources-is, w.kept-is) (omega arith, omega arith, omega arith, h.invariant.3, walk_drop skipped inside.0 inside.1 (test ∙ w.if-starts_with.false))
    ]

pub returns : goal.returns
returns c =
    let h = c.loop-i in
    let v = c.args in
    (omega arith, walk_done h.invariant.4 (spent h.sources v.m h.i (omega arith)))
