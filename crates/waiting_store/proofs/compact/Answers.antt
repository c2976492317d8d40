-- Between two turns the entries kept stand at the front, and the rest is still to be looked at.
-- Assumes nothing.
use mathlib.Core.Path.{◌≡◌, sym, ap, ◌∙◌}
use mathlib.Core.Bool.{Bool}
use mathlib.Core.List.{[]}
use native.Mathlib.Omega.{arith}
use lib.ListN.{get_or}
use Rattle.merge.specs.declared.DmxData.{DmxData}
use Rattle.waiting_store.specs.Entries.{head_of, lent_then}
use Rattle.waiting_store.specs.Posts.{Computes}
use Rattle.waiting_store.specs.Passes.{keeping_drop, keeping_keep, keeping_end}
use Rattle.waiting_store.proofs.compact.Goals.{then-keeps, else-keeps}
use Rattle.waiting_store.proofs.compact.Goals as goal

pub loop-i-preserved : goal.loop-i-preserved
loop-i-preserved g c =
    let l = c.loop-i in
    let v = c.args in
    let behind = l.invariant.0 in
    let told : (t : DmxData → Bool) → Computes g.F.Fn t v.keeps → t (head_of (get_or l.rows l.i [])) ≡ c.keeps.result =
    λ t h. ap t (sym c.head_of.ensures) ∙ sym (h c.head_of.result c.keeps.result c.keeps.ensures) in
    elim c.if-keeps.branch [
      | then-keeps w ↦ rw (w.rows-is, w.store-is, w.kept-is) (
        omega arith,
        lent_then l.invariant.1 w.keep_entry.ensures.lent,
        λ t h. keeping_keep v.rows.now v.store.now v.n t l.rows l.store l.kept l.i c.requires.0 c.requires.1 (l.invariant.2 t h)
            w.keep_entry.new.rows w.keep_entry.new.store c.loop-i-test.true (told t h ∙ w.if-keeps.true) w.keep_entry.ensures,
      )
      | else-keeps w ↦ rw (w.rows-is, w.store-is, w.kept-is) (
        omega arith,
        l.invariant.1,
        λ t h. keeping_drop v.rows.now v.store.now v.n t l.rows l.store l.kept l.i c.requires.0 c.requires.1 (l.invariant.2 t h) c.loop-i-test.true (told t h ∙ w.if-keeps.false),
      )
    ]

pub returns : goal.returns
returns g c =
    let l = c.loop-i in
    let v = c.args in
    let behind = l.invariant.0 in
    (omega (arith, c.loop-i-test.false), l.invariant.1, λ t h. keeping_end v.rows.now v.store.now v.n t l.rows l.store l.kept l.i c.requires.0 c.requires.1 (l.invariant.2 t h) c.loop-i-test.false)
