-- The walk of keep_sources, as long as every CID stays.
-- Assumes nothing.
use mathlib.Core.Path.{◌≡◌, sym, ap, ◌∙◌}
use mathlib.Core.Bool.{not}
use mathlib.Core.List.{[]}
use Prim.Native.Nat.{◌<◌, ◌+◌}
use native.Mathlib.Omega.{arith}
use lib.ListN.{length, take, drop, get_or}
use Rattle.laws.specs.Place.{prefix}
use Rattle.rules.specs.declared.Cid.{Cid}
use Rattle.pair_rows.specs.View.{cid_of, row_before, starts}
use Rattle.pair_sweeps.specs.Sweep.{Walk, owner, walk_starts, walk_skip, walk_has, walk_on, walk_paired, walk_lonely}
use borrow.Author.Rules.{rules}
use Rattle.pair_sweeps.proofs.all_paired.Goals as goal

pub loop-i-init : goal.loop-i-init
loop-i-init c =
    let v = c.args in
    (search rules, search rules, walk_starts (take v.n v.pairs.now) v.m v.sources.now c.requires.sources_ascend)

pub loop-i-preserved : goal.loop-i-preserved
loop-i-preserved c =
    let inside : (c.loop-i.i < c.args.m) × (c.loop-i.i < length c.args.sources.now) = omega arith in
    let reached : c.skip_before-j.result ≡ c.loop-i.j + prefix (row_before (cid_of (get_or c.args.sources.now c.loop-i.i []))) (drop c.loop-i.j (take c.args.n c.args.pairs.now)) = c.skip_before-j.ensures.1
    ∙ ap (λ (d : Cid). c.loop-i.j + prefix (row_before d) (drop c.loop-i.j (take c.args.n c.args.pairs.now))) c.cid_of-cid.ensures in
    let skipped : Walk (take c.args.n c.args.pairs.now) (take c.args.m c.args.sources.now) c.args.m c.args.sources.now c.loop-i.i c.loop-i.i c.skip_before-j.result = walk_skip c.loop-i.invariant.2 inside.0 inside.1 c.skip_before-j.result reached in
    let test : owner (drop c.skip_before-j.result (take c.args.n c.args.pairs.now)) (get_or c.args.sources.now c.loop-i.i []) ≡ c.starts_with.result = walk_has c.loop-i.invariant.2 inside.0 inside.1 c.skip_before-j.result reached c.requires.pairs_ascend
    ∙ ap (λ (d : Cid). starts d (drop c.skip_before-j.result (take c.args.n c.args.pairs.now))) (sym c.cid_of-cid.ensures)
    ∙ sym c.starts_with.ensures in
    (omega arith, omega arith, walk_on skipped inside.0 inside.1 (test ∙ c.if-not-starts_with.false))

pub returns-then-not-starts_with : goal.returns-then-not-starts_with
returns-then-not-starts_with c =
    let inside : (c.loop-i.i < c.args.m) × (c.loop-i.i < length c.args.sources.now) = omega arith in
    let reached : c.skip_before-j.result ≡ c.loop-i.j + prefix (row_before (cid_of (get_or c.args.sources.now c.loop-i.i []))) (drop c.loop-i.j (take c.args.n c.args.pairs.now)) = c.skip_before-j.ensures.1
    ∙ ap (λ (d : Cid). c.loop-i.j + prefix (row_before d) (drop c.loop-i.j (take c.args.n c.args.pairs.now))) c.cid_of-cid.ensures in
    let skipped : Walk (take c.args.n c.args.pairs.now) (take c.args.m c.args.sources.now) c.args.m c.args.sources.now c.loop-i.i c.loop-i.i c.skip_before-j.result = walk_skip c.loop-i.invariant.2 inside.0 inside.1 c.skip_before-j.result reached in
    let test : owner (drop c.skip_before-j.result (take c.args.n c.args.pairs.now)) (get_or c.args.sources.now c.loop-i.i []) ≡ c.starts_with.result = walk_has c.loop-i.invariant.2 inside.0 inside.1 c.skip_before-j.result reached c.requires.pairs_ascend
    ∙ ap (λ (d : Cid). starts d (drop c.skip_before-j.result (take c.args.n c.args.pairs.now))) (sym c.cid_of-cid.ensures)
    ∙ sym c.starts_with.ensures in
    ap not (sym (walk_lonely skipped inside.0 (omega arith) (test ∙ c.if-not-starts_with.true)))

pub returns : goal.returns
returns c = ap not (sym (walk_paired c.loop-i.invariant.2 (omega arith)))
