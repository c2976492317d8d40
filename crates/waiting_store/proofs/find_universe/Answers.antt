-- The place is the number of universes below; the row there has the universe, or no row has.
-- Assumes nothing.
use mathlib.Core.Path.{sym, ap, ◌∙◌}
use native.Mathlib.Omega.{arith}
use lib.ListN.{take}
use Rattle.laws.specs.Library.{prefix_is}
use Rattle.merge.specs.declared.DmxData.{DmxData}
use Rattle.waiting_store.specs.Entries.{head_of}
use Rattle.waiting_store.specs.Posts.{below}
use Rattle.waiting_store.proofs.find_universe.Goals.{else-i-n-via-then-i-n+else-head_of-universe, else-i-n-via-else-i-n}
use Rattle.waiting_store.proofs.find_universe.Goals as goal

pub returns-then-head_of-universe : goal.returns-then-head_of-universe
returns-then-head_of-universe c =
    let v = c.args in
    (c.place_of-i.ensures ∙ sym (prefix_is (λ row. below v.universe (head_of row)) (take v.n v.rows.now)), c.if-i-n.true, ap (λ (x : DmxData). x.universe) (sym c.head_of.ensures) ∙ c.if-head_of-universe.true)

pub returns-else-i-n : goal.returns-else-i-n
returns-else-i-n c =
    let v = c.args in (
      c.place_of-i.ensures ∙ sym (prefix_is (λ row. below v.universe (head_of row)) (take v.n v.rows.now)),
      λ h e. elim c.else-i-n.branch [
        | else-i-n-via-then-i-n+else-head_of-universe w ↦ w.if-head_of-universe.false (ap (λ (x : DmxData). x.universe) w.head_of.ensures ∙ e)
        | else-i-n-via-else-i-n w ↦ let g = w.if-i-n.false in omega arith
      ],
    )
