-- The first n ascend, so the library's partition point is the universe's place; the row there tells whether it stands.
-- Assumes nothing.
use Rattle.std.proofs.Common.{rules, tests, arith}
use lib.Dec.{ltb}
use lib.ListN.{take, length-take}
use mathlib.Core.Path.{◌≡◌}
use lib.ListN.{length}
use Prim.Native.Nat.{◌≤◌}
use Rattle.std.proofs.lemmas.List.Sorted.{IsPartitionPoint-from_clause}
use Rattle.model.specs.State.{itself}
use Rattle.laws.specs.Place.{place}
use Rattle.listening.specs.Laws.{parted, place_parted, spot_hit, spot_miss, spot_end}
use Rattle.listening.proofs.find.Goals.{else-at-n-via-then-at-n+else-rows-at, else-at-n-via-else-at-n}
use Rattle.listening.proofs.find.Goals as goal

pub returns-then-rows-at : goal.returns-then-rows-at
returns-then-rows-at c =
    let v = c.args in
    let i = c.partition_point-at.result in
    let fits : v.n ≤ length v.rows.now = omega (arith, c.requires.within, c.requires.room) in
    let point = IsPartitionPoint-from_clause (λ y. ltb y v.universe) (take v.n v.rows.now) i c.partition_point-at.ensures.partitioned (parted v.universe v.n v.rows.now fits c.requires.ascending) (λ a r q k. search (rules, tests)) in
    let at : i ≡ place ltb itself v.universe (take v.n v.rows.now) = place_parted v.universe v.n v.rows.now fits c.requires.ascending i (omega (arith, c.partition_point-at.ensures.bound, length-take v.n v.rows.now)) point in
    spot_hit v.universe v.n v.rows.now fits i at c.if-at-n.true c.if-rows-at.true

pub returns-else-at-n : goal.returns-else-at-n
returns-else-at-n c =
    let v = c.args in
    let i = c.partition_point-at.result in
    let fits : v.n ≤ length v.rows.now = omega (arith, c.requires.within, c.requires.room) in
    let point = IsPartitionPoint-from_clause (λ y. ltb y v.universe) (take v.n v.rows.now) i c.partition_point-at.ensures.partitioned (parted v.universe v.n v.rows.now fits c.requires.ascending) (λ a r q k. search (rules, tests)) in
    let at : i ≡ place ltb itself v.universe (take v.n v.rows.now) = place_parted v.universe v.n v.rows.now fits c.requires.ascending i (omega (arith, c.partition_point-at.ensures.bound, length-take v.n v.rows.now)) point in
    elim c.else-at-n.branch [
      | else-at-n-via-then-at-n+else-rows-at w ↦ spot_miss v.universe v.n v.rows.now fits i at w.if-at-n.true w.if-rows-at.false
      | else-at-n-via-else-at-n w ↦ spot_end v.universe v.n v.rows.now fits i at w.if-at-n.false
    ]
