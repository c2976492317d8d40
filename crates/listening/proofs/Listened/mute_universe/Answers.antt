-- The universe is illegal, or not listened to, or taken out of its place; each return has its law.
-- Assumes nothing.
use mathlib.Core.Path.{sym, ◌∙◌}
use Prim.Native.Nat.{◌-◌}
use native.Mathlib.Omega.{arith}
use Rattle.listening.specs.Laws.{taken_within, mutes_illegal, mutes_unknown, mutes_known}
use Rattle.listening.proofs.Listened.mute_universe.Goals as goal

pub returns-in-Err : goal.returns-in-Err
returns-in-Err c =
    mutes_unknown c.args.universe c.args.self c.args.rows.now c.requires _ (sym c.is_universe_in_range.ensures ∙ c.if-not-is_universe_in_range.false) (sym c.find.ensures ∙ c.in-Err.is)

pub remove_at-requires : goal.remove_at-requires
remove_at-requires c =
    let w = taken_within c.args.universe c.in-Ok.at c.args.self.count c.args.rows.now (sym c.find.ensures ∙ c.in-Ok.is) in
    (omega (arith, c.requires.within, c.requires.room), omega arith)

pub overflow_sub-result : goal.overflow_sub-result
overflow_sub-result c =
    let w = taken_within c.args.universe c.in-Ok.at c.args.self.count c.args.rows.now (sym c.find.ensures ∙ c.in-Ok.is) in
    omega arith

pub returns-in-Ok : goal.returns-in-Ok
returns-in-Ok c =
    let n = c.args.self.count in
    mutes_known c.args.universe c.args.self c.args.rows.now c.requires c.in-Ok.at (n - 1) c.remove_at.new.elements (sym c.is_universe_in_range.ensures ∙ c.if-not-is_universe_in_range.false) (sym c.find.ensures ∙ c.in-Ok.is) (omega (arith, c.requires.within)) (c.remove_at.ensures.kept ∙ c.requires.room) c.remove_at.ensures.taken_out

pub returns-then-not-is_universe_in_range : goal.returns-then-not-is_universe_in_range
returns-then-not-is_universe_in_range c =
    mutes_illegal c.args.universe c.args.self c.args.rows.now c.requires (sym c.is_universe_in_range.ensures ∙ c.if-not-is_universe_in_range.true)
