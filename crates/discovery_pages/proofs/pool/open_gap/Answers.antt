-- From the last to the first each is moved up by n; those before it are as they were.
-- Assumes nothing.
use Rattle.std.proofs.Common.{◌≡◌, ◌∙◌, arith, ◌+◌, ◌-◌, get_or, length-set}
use lib.Seq.{take-set-le, drop-set-lt}
use Rattle.discovery_pages.specs.Pool.{take_less, moved_up}
use Rattle.discovery_pages.proofs.pool.open_gap.Goals as goal

pub loop-i-preserved : goal.loop-i-preserved
loop-i-preserved c =
    let w = c.loop-i in
    let v = c.args in
    let u = v.universes.now in
    let i = w.i - 1 in
    let e : w.i ≡ i + 1 = omega arith in
    let x = get_or w.universes i 0 in (
      omega arith,
      simp length-set w.invariant.1,
      take-set-le i w.universes (i + v.n) x (omega arith) ∙ take_less w.universes u w.i i (omega arith) w.invariant.2,
      moved_up w.universes u v.used v.n i 0 (omega arith) (omega arith) (omega arith) (rw e at w.invariant.2) (rw e at w.invariant.3),
      drop-set-lt (v.used + v.n) w.universes (i + v.n) x (omega arith) ∙ w.invariant.4,
    )

pub returns : goal.returns
returns c =
    let w = c.loop-i in
    let e : w.i ≡ c.args.at = omega arith in
    (w.invariant.1, (rw e at w.invariant.2), (rw e at w.invariant.3), w.invariant.4)
