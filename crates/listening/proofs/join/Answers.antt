-- The universe stands there, or is put in at its place, or finds no room.
-- Assumes nothing.
use mathlib.Core.Path.{sym, ◌∙◌}
use native.Mathlib.Omega.{arith}
use Rattle.listening.specs.Laws.{free_within, join_known, join_new, join_full}
use Rattle.listening.proofs.join.Goals as goal

pub returns-in_default : goal.returns-in_default
returns-in_default c =
    join_known c.args.universe c.args.n c.args.rows.now c.requires _ (sym c.find.ensures ∙ c.in_default.is)

pub insert_at-requires : goal.insert_at-requires
insert_at-requires c =
    let w = free_within c.args.universe c.in-Err.at c.args.n c.args.rows.now (sym c.find.ensures ∙ c.in-Err.is) in
    (omega (arith, c.requires.room), omega arith)

pub returns-then-n-lt-LISTENED : goal.returns-then-n-lt-LISTENED
returns-then-n-lt-LISTENED c =
    join_new c.args.universe c.args.n c.args.rows.now c.requires c.in-Err.at c.insert_at.new.elements (sym c.find.ensures ∙ c.in-Err.is) (omega arith) (c.insert_at.ensures.kept ∙ c.requires.room) c.insert_at.ensures.put_in

pub returns-else-n-lt-LISTENED : goal.returns-else-n-lt-LISTENED
returns-else-n-lt-LISTENED c =
    join_full c.args.universe c.args.n c.args.rows.now c.requires _ (sym c.find.ensures ∙ c.in-Err.is) c.if-n-lt-LISTENED.false
