-- The CIDs behind the first that were passed so far are told.
-- Assumes nothing.
use mathlib.Core.Path.{◌≡◌, refl, sym, ap}
use mathlib.Core.List.{map}
use Prim.Native.Nat.{ℕ}
use native.Mathlib.Omega.{arith}
use lib.ListN.{take, drop}
use Rattle.pair_rows.specs.View.{cid_of}
use Rattle.printing.specs.Text.{cid_text}
use Rattle.printing.specs.TextLaws.{tells_none, tells_as, tells_then}
use Rattle.replay.specs.Dump.{cids_tail}
use Rattle.replay.specs.DumpLaws.{tells_cid, cids_none, cids_first, cids_begun}
use borrow.Author.Rules.{rules}
use Rattle.replay.proofs.dump.put_cids.Goals as goal

pub returns-then-n-eq0 : goal.returns-then-n-eq0
returns-then-n-eq0 c = tells_as (sym (cids_none cid_of c.args.sources.now c.args.n c.if-n-eq0.true)) c.put.ensures

pub loop-i-init : goal.loop-i-init
loop-i-init c =
    let p = c.put_cid-a in
    (tells_as (sym (cids_begun cid_of c.args.sources.now)) (tells_none p.new.out p.result p.ensures.ready))

pub loop-i-preserved : goal.loop-i-preserved
loop-i-preserved c =
    let v = c.args in
    let z = tells_as (ap cid_text c.cid_of-in-loop-i.ensures) c.put_cid-a-in-loop-i.ensures in
    tells_cid cid_of v.sources.now c.loop-i.i (omega (arith, c.loop-i.auto.i)) (omega (arith, c.requires.2)) c.loop-i.invariant c.put-a.ensures z

pub returns : goal.returns
returns c =
    let v = c.args in
    let e : c.loop-i.i ≡ v.n = omega arith in
    let y = tells_as (ap cid_text c.cid_of.ensures) c.put_cid-a.ensures in
    let z = tells_as (ap (λ (k : ℕ). cids_tail (map cid_of (drop 1 (take k v.sources.now)))) e) c.loop-i.invariant in
    tells_as (cids_first cid_of v.sources.now v.n c.if-n-eq0.false (omega (arith, c.requires.2))) (tells_then y z)
