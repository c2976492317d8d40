-- The pair is unknown or refused, and all is left; or it takes the place of the last one.
-- Assumes nothing.
use mathlib.Core.Path.{refl, sym, subst, ◌∙◌}
use mathlib.Core.Logic.{inl}
use Rattle.laws.specs.Cases.{clash}
use Rattle.pair_tables.specs.declared.PairTable.{PairTable}
use Rattle.pair_tables.specs.View.{Stored}
use Rattle.pair_tables.proofs.PairTable.renew_pair.Goals as goal

pub returns-in_default : goal.returns-in_default
returns-in_default c = record { stored = λ e. clash e refl; left = λ e. refl }

pub check_known-requires : goal.check_known-requires
check_known-requires c =
    record { kept = c.requires; stands = sym c.in-Some.is ∙ c.find.ensures }

pub store_known-requires : goal.store_known-requires
store_known-requires c =
    record { kept = c.requires; stands = sym c.in-Some.is ∙ c.find.ensures }

pub returns-then-is_accepted : goal.returns-then-is_accepted
returns-then-is_accepted c =
    let v = c.args in
    record {
      stored = λ e. inl (
        c.check_known.ensures.passes (sym c.is_accepted.ensures ∙ c.if-is_accepted.true),
        refl,
        subst (λ (u : PairTable). Stored v.self v.pairs.now u c.store_known.new.pairs v.pair) c.store_known.ensures.header c.store_known.ensures.rows,
      );
      left = λ e. clash refl e;
    }

pub returns-else-is_accepted : goal.returns-else-is_accepted
returns-else-is_accepted c = record { stored = λ e. clash e refl; left = λ e. refl }
