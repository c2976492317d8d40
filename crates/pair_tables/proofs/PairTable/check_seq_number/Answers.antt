-- The sweep gives number 4, or the arrival goes on with the table as swept.
-- Assumes nothing.
use mathlib.Core.Path.{refl, sym, ap, subst, ◌∙◌}
use Rattle.pairs.specs.declared.Checked.{Checked}
use Rattle.pairs.specs.Table.{Table, sweep, admit}
use Rattle.pair_tables.specs.View.{table_of, Follows}
use Rattle.pair_tables.proofs.CallsLaws.{check_timeout, check_goes}
use Rattle.pair_tables.proofs.PairTable.check_seq_number.Goals as goal

pub returns-in-Quiet : goal.returns-in-Quiet
returns-in-Quiet c =
    let v = c.args in
    let f = c.sweep-swept.ensures.view in
    let g = check_goes v.self v.pairs.now v.sources.now c.requires v.limit v.announce v.pair (sweep v.announce v.pair.reading (table_of v.self v.pairs.now v.sources.now)) refl (sym c.in-Quiet.is ∙ f.answer_is) in
    subst (λ (said : Table × Checked). Follows c.admit.result.left c.admit.new.pairs c.admit.new.sources c.admit.result.answer said) (ap (admit v.limit v.pair) f.table_is ∙ sym g) c.admit.ensures

pub returns-in-TimedOut : goal.returns-in-TimedOut
returns-in-TimedOut c =
    let v = c.args in
    let f = c.sweep-swept.ensures.view in
    let g = check_timeout v.self v.pairs.now v.sources.now c.requires v.limit v.announce v.pair (sweep v.announce v.pair.reading (table_of v.self v.pairs.now v.sources.now)) _ _ refl (sym c.in-TimedOut.is ∙ f.answer_is) in
    record { table_is = f.table_is ∙ sym (ap (λ (r : Table × Checked). r.0) g); answer_is = sym (ap (λ (r : Table × Checked). r.1) g); kept = f.kept }
