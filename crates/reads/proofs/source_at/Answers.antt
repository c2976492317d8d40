-- The row is found and read.
-- Assumes nothing.
use mathlib.Core.List.{[]}
use Prim.Native.Nat.{◌<◌}
use native.Mathlib.Omega.{arith}
use borrow.Author.Rules.{rules}
use Rattle.reads.proofs.source_at.Goals as goal

pub offset_bounds-sources-place : goal.offset_bounds-sources-place
offset_bounds-sources-place c =
    let row-there : c.source_place-place.result < 64 = omega (arith, c.told-sources, (c.source_place-place.ensures [] [] []).inside c.if-discovery-place.false) in
    let h = row-there in search rules

pub bounds-sources-place : goal.bounds-sources-place
bounds-sources-place c = omega (arith, c.told-sources, (c.source_place-place.ensures [] [] []).inside c.if-discovery-place.false)
