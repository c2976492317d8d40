-- The output is the copy of the highest values of the places passed; past the shorter list they are the longer one's tail.
-- Assumes nothing.
use mathlib.Core.Path.{◌≡◌, refl, ap, ◌∙◌}
use mathlib.Core.List.{List}
use Prim.Native.Nat.{ℕ}
use native.Mathlib.Omega.{arith}
use lib.ListN.{length, length-set}
use Rattle.laws.specs.Parts.{pasted, part_rest}
use Rattle.merge_calls.specs.Returns.{highest_turn, highest_laid}
use Rattle.merge_calls.proofs.write_highest.Goals as goal

pub loop-i-preserved : goal.loop-i-preserved
loop-i-preserved c =
    let l = c.loop-i in
    let v = c.args in
    (simp length-set l.invariant.0, highest_turn v.shorter.now v.longest.now l.out v.out.now l.i c.max.result (omega arith) (omega arith) (omega arith) l.invariant.1 c.max.ensures)

pub returns : goal.returns
returns c =
    let l = c.loop-i in
    let v = c.args in
    let n = length v.shorter.now in
    let e : l.i ≡ n = omega arith in
    c.paste.ensures
    ∙ ap (λ (x : List ℕ). pasted l.out n x) (part_rest v.longest.now n)
    ∙ highest_laid v.shorter.now v.longest.now l.out v.out.now n refl (omega arith) (omega arith) (rw e at l.invariant.1)
