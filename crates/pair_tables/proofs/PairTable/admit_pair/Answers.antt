-- The pair is unknown: full, or it goes in. It is known: refused, or it takes the place of the last one.
-- Assumes nothing.
use mathlib.Core.Path.{◌≡◌, refl, sym, ◌∙◌}
use mathlib.Core.Logic.{inl, inr}
use mathlib.Core.Option.{none}
use native.Mathlib.Omega.{arith}
use lib.ListN.{length}
use Rattle.laws.specs.Place.{place}
use Rattle.pairs.specs.Table.{key_of, key_before, pair_at}
use Rattle.pair_rows.specs.View.{pair_of, pairs_of}
use Rattle.pair_rows.specs.Stores.{placed_nothing}
use Rattle.pair_tables.proofs.AdmitLaws.{pair_full, pair_new}
use Rattle.pair_tables.proofs.CallsLaws.{used}
use borrow.Author.Rules.{rules}
use Rattle.pair_tables.proofs.PairTable.admit_pair.Goals as goal

pub returns-then-self-ge-PAIRS : goal.returns-then-self-ge-PAIRS
returns-then-self-ge-PAIRS c =
    let long : length (pairs_of c.args.self.count c.args.pairs.now) ≡ c.args.self.count = used pair_of c.args.self.count c.args.pairs.now c.requires.count_fits c.requires.pairs_room in
    let unheld : pair_at (key_of c.args.pair) (pairs_of c.args.self.count c.args.pairs.now) ≡ none = let v = c.args in
    placed_nothing (place key_before key_of (key_of v.pair) (pairs_of v.self.count v.pairs.now)) (pair_at (key_of v.pair) (pairs_of v.self.count v.pairs.now)) (sym c.find.ensures ∙ c.in_default.is) in
    inr (pair_full c.args.pair (pairs_of c.args.self.count c.args.pairs.now) unheld (omega (arith, long)), refl, refl)

pub store_new-requires : goal.store_new-requires
store_new-requires c =
    let unheld : pair_at (key_of c.args.pair) (pairs_of c.args.self.count c.args.pairs.now) ≡ none = let v = c.args in
    placed_nothing (place key_before key_of (key_of v.pair) (pairs_of v.self.count v.pairs.now)) (pair_at (key_of v.pair) (pairs_of v.self.count v.pairs.now)) (sym c.find.ensures ∙ c.in_default.is) in
    record { kept = c.requires; room = search rules; missing = unheld }

pub returns-in_default : goal.returns-in_default
returns-in_default c =
    let long : length (pairs_of c.args.self.count c.args.pairs.now) ≡ c.args.self.count = used pair_of c.args.self.count c.args.pairs.now c.requires.count_fits c.requires.pairs_room in
    let unheld : pair_at (key_of c.args.pair) (pairs_of c.args.self.count c.args.pairs.now) ≡ none = let v = c.args in
    placed_nothing (place key_before key_of (key_of v.pair) (pairs_of v.self.count v.pairs.now)) (pair_at (key_of v.pair) (pairs_of v.self.count v.pairs.now)) (sym c.find.ensures ∙ c.in_default.is) in
    inl (pair_new c.args.pair (pairs_of c.args.self.count c.args.pairs.now) unheld (omega (arith, long)), refl, c.store_new.ensures)

pub check_known-answer-requires : goal.check_known-answer-requires
check_known-answer-requires c =
    record { kept = c.requires; stands = sym c.in-Some.is ∙ c.find.ensures }

pub store_known-requires : goal.store_known-requires
store_known-requires c =
    record { kept = c.requires; stands = sym c.in-Some.is ∙ c.find.ensures }

pub returns-then-is_accepted : goal.returns-then-is_accepted
returns-then-is_accepted c =
    inl (c.check_known-answer.ensures.passes (sym c.is_accepted.ensures ∙ c.if-is_accepted.true), refl, c.store_known.ensures.rows)

pub returns-else-is_accepted : goal.returns-else-is_accepted
returns-else-is_accepted c =
    inr (c.check_known-answer.ensures.stops (sym c.is_accepted.ensures ∙ c.if-is_accepted.false), refl, refl)
