-- A search for an expired pair of the CID; pairs ascend, so the first has the lowest universe, and none stands behind a pair of a later CID.
-- Assumes nothing.
use mathlib.Core.Path.{◌≡◌, sym, ap, subst, ◌∙◌}
use mathlib.Core.List.{List, [], ◌∷◌, map}
use mathlib.Core.Option.{some}
use Prim.Native.Nat.{ℕ, ◌+◌}
use native.Mathlib.Omega.{arith}
use lib.ListN.{take, drop, get_or}
use Rattle.laws.specs.Table.{Ascending}
use Rattle.laws.specs.Arrays.{next, spent}
use Rattle.rules.specs.Cid.{before}
use Rattle.pairs.specs.declared.Pair.{Pair}
use Rattle.pairs.specs.Table.{key_of, key_before, lowest}
use Rattle.pair_rows.specs.View.{Rows, pair_of, lapsed, note_of}
use Rattle.pair_sweeps.specs.Sweep.{pairs_from, lowest_hit, lowest_miss, lowest_past}
use Rattle.pair_sweeps.proofs.lowest_expired.Goals as goal

pub returns-then-is_before : goal.returns-then-is_before
returns-then-is_before c =
    let row : List ℕ = get_or c.args.pairs.now c.loop-i.i [] in
    let behind : Rows = drop (c.loop-i.i + 1) (take c.args.n c.args.pairs.now) in
    let here : drop c.loop-i.i (take c.args.n c.args.pairs.now) ≡ row ∷ behind = next c.args.pairs.now c.args.n c.loop-i.i [] (omega arith) (omega arith) in
    let ahead : lowest c.args.reading (map pair_of (row ∷ behind)) c.args.cid ≡ lowest c.args.reading (map pair_of (drop c.args.j (take c.args.n c.args.pairs.now))) c.args.cid = ap (λ (l : Rows). lowest c.args.reading (map pair_of l) c.args.cid) (sym here) ∙ c.loop-i.invariant.1 in
    let ascend : Ascending key_before key_of (map pair_of (row ∷ behind)) = subst (λ (l : Rows). Ascending key_before key_of (map pair_of l)) here (pairs_from c.loop-i.i (take c.args.n c.args.pairs.now) c.requires.2) in
    let past : before c.args.cid (pair_of row).cid ≡ c.is_before.result = ap (λ (p : Pair). before c.args.cid p.cid) (sym c.pair_of-pair.ensures) ∙ sym c.is_before.ensures in
    let v = c.args in
    ap note_of (sym (lowest_past v.reading v.cid row behind ascend (past ∙ c.if-is_before.true)) ∙ ahead)

pub returns-then-is_lapsed : goal.returns-then-is_lapsed
returns-then-is_lapsed c =
    let row : List ℕ = get_or c.args.pairs.now c.loop-i.i [] in
    let behind : Rows = drop (c.loop-i.i + 1) (take c.args.n c.args.pairs.now) in
    let here : drop c.loop-i.i (take c.args.n c.args.pairs.now) ≡ row ∷ behind = next c.args.pairs.now c.args.n c.loop-i.i [] (omega arith) (omega arith) in
    let ahead : lowest c.args.reading (map pair_of (row ∷ behind)) c.args.cid ≡ lowest c.args.reading (map pair_of (drop c.args.j (take c.args.n c.args.pairs.now))) c.args.cid = ap (λ (l : Rows). lowest c.args.reading (map pair_of l) c.args.cid) (sym here) ∙ c.loop-i.invariant.1 in
    let test : lapsed c.args.reading c.args.cid (pair_of row) ≡ c.is_lapsed.result = let v = c.args in
    ap (λ (p : Pair). lapsed v.reading v.cid p) (sym c.pair_of-pair.ensures) ∙ sym c.is_lapsed.ensures in
    let v = c.args in
    ap note_of (ap some c.pair_of-pair.ensures ∙ sym (lowest_hit v.reading v.cid row behind (test ∙ c.if-is_lapsed.true)) ∙ ahead)

pub loop-i-preserved : goal.loop-i-preserved
loop-i-preserved c =
    let row : List ℕ = get_or c.args.pairs.now c.loop-i.i [] in
    let behind : Rows = drop (c.loop-i.i + 1) (take c.args.n c.args.pairs.now) in
    let here : drop c.loop-i.i (take c.args.n c.args.pairs.now) ≡ row ∷ behind = next c.args.pairs.now c.args.n c.loop-i.i [] (omega arith) (omega arith) in
    let ahead : lowest c.args.reading (map pair_of (row ∷ behind)) c.args.cid ≡ lowest c.args.reading (map pair_of (drop c.args.j (take c.args.n c.args.pairs.now))) c.args.cid = ap (λ (l : Rows). lowest c.args.reading (map pair_of l) c.args.cid) (sym here) ∙ c.loop-i.invariant.1 in
    let test : lapsed c.args.reading c.args.cid (pair_of row) ≡ c.is_lapsed.result = let v = c.args in
    ap (λ (p : Pair). lapsed v.reading v.cid p) (sym c.pair_of-pair.ensures) ∙ sym c.is_lapsed.ensures in
    let v = c.args in
    (omega arith, sym (lowest_miss v.reading v.cid row behind (test ∙ c.if-is_lapsed.false)) ∙ ahead)

pub returns : goal.returns
unfolding lowest
returns c =
    let h = c.loop-i in
    let v = c.args in
    ap note_of (ap (λ (l : Rows). lowest v.reading (map pair_of l) v.cid) (sym (spent v.pairs.now v.n h.i (omega arith))) ∙ h.invariant.1)
