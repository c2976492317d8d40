-- The place is what is passed and what is left of the walk, whatever the test.
-- Assumes nothing.
use Rattle.std.proofs.Common.{◌≡◌, refl, true, ℕ, suc, ◌≤◌, ◌<◌, ◌-◌, ◌+◌, length, drop, get_or, sym, ap, ◌∙◌, arith, rules, drop_of_length-le}
use Rattle.std.proofs.Math.Seq.{take-length}
use Rattle.discovery_reads.specs.Reads.{nth}
use Rattle.discovery_reads.proofs.ReadsLaws.{nth_here, nth_past, nth_over}
use Rattle.discovery_reads.proofs.nth_row.Goals as goal
use Rattle.discovery_reads.proofs.nth_row.Goals.{then-test+else-left-eq0, else-test}

pub returns-then-left-eq0 : goal.returns-then-left-eq0
returns-then-left-eq0 g c =
    λ p h.
    let w = c.loop-i in
    let a = c.args.rows.now in
    let x = c.index-rows-i.result in
    let l : w.i < length a = omega arith in
    let t : p (get_or a w.i x) ≡ true = ap p (sym c.index-rows-i.is) ∙ sym (h x c.test.result (record { shown = _; shows = refl; says = record { met = c.test.ensures } })) ∙ c.if-test.true in
    sym (rw (take-length a) at (nth_here p a (length a) w.i x l l t))
    ∙ ap (λ (j : ℕ). w.i + nth p j (drop w.i a)) (sym c.if-left-eq0.true)
    ∙ w.invariant p h

pub loop-i-preserved : goal.loop-i-preserved
loop-i-preserved g c =
    λ p h.
    let w = c.loop-i in
    let a = c.args.rows.now in
    let x = c.index-rows-i.result in
    let l : w.i < length a = omega arith in
    let told : p (get_or a w.i x) ≡ c.test.result = ap p (sym c.index-rows-i.is) ∙ sym (h x c.test.result (record { shown = _; shows = refl; says = record { met = c.test.ensures } })) in
    elim c.if-test.branch [
      | then-test+else-left-eq0 b ↦
          let z : 1 ≤ w.left = search rules in
          let e : suc (w.left - 1) ≡ w.left = omega arith in
          rw b.left-is
          ((rw (take-length a) at (nth_past p a (length a) w.i x l l (w.left - 1) (told ∙ b.if-test.true)))
          ∙ ap (λ (j : ℕ). w.i + nth p j (drop w.i a)) e
          ∙ w.invariant p h)
      | else-test b ↦ rw b.left-is ((rw (take-length a) at (nth_over p a (length a) w.i x l l w.left (told ∙ b.if-test.false))) ∙ w.invariant p h)
    ]

pub returns : goal.returns
unfolding nth
returns g c =
    λ p h.
    let w = c.loop-i in
    let a = c.args.rows.now in
    let e : w.i ≡ length a = omega arith in
    let s = drop_of_length-le a {i = w.i} (omega arith) in
    let n = rw s at (w.invariant p h) in
    omega (arith, n)
