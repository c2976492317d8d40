-- A compacting pass: those kept so far, and what is kept of those that are left, are what is kept of all.
-- Assumes nothing.
use mathlib.Core.Path.{◌≡◌, sym, ap, ◌∙◌}
use mathlib.Core.List.{[]}
use native.Mathlib.Omega.{arith}
use lib.ListN.{get_or, set, length-set}
use Rattle.laws.specs.Arrays.{spent, compact_keep, compact_drop}
use Rattle.pairs.specs.declared.Pair.{Pair}
use Rattle.pairs.specs.Table.{live}
use Rattle.pair_sweeps.specs.Sweep.{stays, live_row, live_done}
use Rattle.pair_sweeps.proofs.keep_live.Goals as goal
use Rattle.pair_sweeps.proofs.keep_live.Goals.{then-is_live, else-is_live, then-kept-i, else-kept-i}

pub loop-i-preserved : goal.loop-i-preserved
loop-i-preserved c =
    let v = c.args in
    let h = c.loop-i in
    let test : live_row v.reading (get_or h.pairs h.i []) ≡ c.is_live.result = ap (λ (p : Pair). live v.reading p) (sym c.pair_of.ensures) ∙ sym c.is_live.ensures in
    elim c.if-is_live.branch [
      | then-is_live w ↦
          let stored : w.if-kept-i.pairs ≡ set h.pairs h.kept (get_or h.pairs h.i []) = elim w.if-kept-i.branch [
            | then-kept-i u ↦ u.pairs-is
            | else-kept-i u ↦ u.pairs-is ∙ stays h.pairs h.kept h.i (omega arith)
          ] in
          rw (w.pairs-is, w.kept-is, stored) (omega arith, omega arith, simp length-set h.invariant.2, compact_keep h.pairs v.n (live_row v.reading) h.kept h.i [] (omega arith) (omega arith) (omega arith) (test ∙ w.if-is_live.true) ∙ h.invariant.3)
      | else-is_live w ↦ rw (w.pairs-is, w.kept-is) (omega arith, omega arith, h.invariant.2, compact_drop h.pairs v.n (live_row v.reading) h.kept h.i [] (omega arith) (omega arith) (test ∙ w.if-is_live.false) ∙ h.invariant.3)
    ]

pub returns : goal.returns
returns c =
    let h = c.loop-i in
    let v = c.args in
    (omega arith, live_done v.reading v.pairs.now h.pairs v.n h.kept h.i h.invariant.3 (spent h.pairs v.n h.i (omega arith)))
