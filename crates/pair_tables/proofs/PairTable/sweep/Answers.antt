-- By the announcement one sweep or the other.
-- Assumes nothing.
use mathlib.Core.Path.{sym, subst}
use mathlib.Core.Bool.{Bool}
use Rattle.pairs.specs.Table.{sweep}
use Rattle.pair_tables.specs.View.{table_of, answered, Follows}
use Rattle.pair_tables.proofs.PairTable.sweep.Goals as goal

pub returns-then-announce : goal.returns-then-announce
returns-then-announce c =
    let v = c.args in
    let u = c.sweep_announced.ensures.quiet in
    record { view = subst (λ (b : Bool). Follows c.sweep_announced.result.left c.sweep_announced.new.pairs c.sweep_announced.new.sources c.sweep_announced.result.answer (answered (sweep b v.reading (table_of v.self v.pairs.now v.sources.now)))) (sym c.if-announce.true) c.sweep_announced.ensures.view; quiet = u }

pub returns-else-announce : goal.returns-else-announce
returns-else-announce c =
    let v = c.args in
    let u = c.sweep_expired.ensures.quiet in
    record { view = subst (λ (b : Bool). Follows c.sweep_expired.result.left c.sweep_expired.new.pairs c.sweep_expired.new.sources c.sweep_expired.result.answer (answered (sweep b v.reading (table_of v.self v.pairs.now v.sources.now)))) (sym c.if-announce.false) c.sweep_expired.ensures.view; quiet = u }
