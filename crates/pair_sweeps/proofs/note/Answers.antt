-- The first source decides whether there is a note; the last that has one gives it.
-- Assumes nothing.
use mathlib.Core.Path.{◌≡◌, sym, ap, ◌∙◌}
use mathlib.Core.Option.{Option}
use mathlib.Core.List.{[]}
use Rattle.pairs.specs.declared.Pair.{Pair}
use Prim.Native.Nat.{ℕ}
use native.Mathlib.Omega.{arith}
use lib.ListN.{get_or}
use Rattle.rules.specs.declared.Cid.{Cid}
use Rattle.pairs.specs.Table.{lowest, noted}
use Rattle.pair_rows.specs.View.{cid_of, pairs_of, listed_sources_of, note_of}
use Rattle.pair_sweeps.specs.Sweep.{noted_first_none, noted_first_some, note_none, note_some}
use Rattle.pair_sweeps.proofs.note.Goals as goal

pub returns-then-m-eq0 : goal.returns-then-m-eq0
unfolding noted
returns-then-m-eq0 c =
    let v = c.args in
    ap (λ (k : ℕ). note_of (noted v.reading (pairs_of v.n v.pairs.now) (listed_sources_of k v.sources.now))) (sym c.if-m-eq0.true)

pub returns-in-Quiet : goal.returns-in-Quiet
returns-in-Quiet c =
    let first : Option Pair = lowest c.args.reading (pairs_of c.args.n c.args.pairs.now) (cid_of (get_or c.args.sources.now 0 [])) in
    let test : note_of first ≡ c.lowest_expired.result = ap (λ (d : Cid). note_of (lowest c.args.reading (pairs_of c.args.n c.args.pairs.now) d)) (sym c.cid_of.ensures)
    ∙ sym c.lowest_expired.ensures in
    let v = c.args in
    ap note_of (sym (noted_first_none v.reading (pairs_of v.n v.pairs.now) v.sources.now v.m (omega arith) (omega arith)
    (note_none first (test ∙ c.in-Quiet.is))))

pub returns-in-TimedOut : goal.returns-in-TimedOut
returns-in-TimedOut c =
    let first : Option Pair = lowest c.args.reading (pairs_of c.args.n c.args.pairs.now) (cid_of (get_or c.args.sources.now 0 [])) in
    let test : note_of first ≡ c.lowest_expired.result = ap (λ (d : Cid). note_of (lowest c.args.reading (pairs_of c.args.n c.args.pairs.now) d)) (sym c.cid_of.ensures)
    ∙ sym c.lowest_expired.ensures in
    let v = c.args in
    let p = note_some first _ _ (test ∙ c.in-TimedOut.is) in
    c.last_note.ensures ∙ ap note_of (sym (noted_first_some v.reading (pairs_of v.n v.pairs.now) v.sources.now v.m (omega arith) (omega arith) p.0 p.1))
