-- The sum so far is that of the rows passed; each adds at most 512.
-- Assumes nothing.
use Rattle.std.proofs.Common.{◌<◌, [], length-take-le, get_or-take, arith, rules}
use Rattle.discovery_rows.specs.Rows.{total, total_more, few_at}
use Rattle.discovery_rows.proofs.owners.offset.Goals as goal

pub loop-row-init : goal.loop-row-init
unfolding total
loop-row-init c = search rules

pub overflow_add-sum : goal.overflow_add-sum
overflow_add-sum c =
    let p = c.args.pages.now in
    let i = c.loop-row.row-index in
    let h : i < c.args.at = omega (arith, length-take-le c.args.at p) in
    rw (get_or-take c.args.at p i [] h) (omega (arith, few_at p c.args.at i c.requires.1 h (omega arith)))

pub loop-row-preserved : goal.loop-row-preserved
loop-row-preserved c =
    let p = c.args.pages.now in
    let i = c.loop-row.row-index in
    let h : i < c.args.at = omega (arith, length-take-le c.args.at p) in
    let m = total_more p i (omega arith) in
    let f = few_at p c.args.at i c.requires.1 h (omega arith) in
    rw (get_or-take c.args.at p i [] h) (omega (arith, m), omega (arith, f))
