-- Between two turns the entries kept stand at the front, and the rest is still to be looked at.
-- Assumes nothing.
use Rattle.std.specs.Prelude.{Bool, ◌≤◌}
use Rattle.merge.specs.declared.DmxData.{DmxData}
use Rattle.waiting_store.specs.Entries.{Lent}
use Rattle.waiting_store.specs.Posts.{Computes}
use Rattle.waiting_store.specs.Passes.{Keeping}
use Rattle.waiting_store.proofs.compact.Given as goal

abbrev pub invariant-loop-i : goal.invariant-loop-i
invariant-loop-i g l = (l.kept ≤ l.i) × Lent l.initial.rows l.initial.store l.rows l.store
    × ((t : DmxData → Bool) → Computes g.F.Fn t l.keeps → Keeping l.initial.rows l.initial.store l.n t l.rows l.store l.kept l.i)
