-- The pages passed so far are told.
-- Assumes nothing.
use mathlib.Core.Path.{refl, ap}
use native.Mathlib.Omega.{arith}
use lib.Seq.{take_all}
use Rattle.discovery_reads.specs.Reads.{pages_of}
use Rattle.printing.specs.TextLaws.{tells_none, tells_as}
use Rattle.replay.specs.Dump.{lines, page_line}
use Rattle.replay.specs.DumpLaws.{first_page, tells_line}
use borrow.Author.Rules.{rules}
use Rattle.replay.proofs.dump.put_pages.Goals as goal

pub loop-k-init : goal.loop-k-init
unfolding lines
loop-k-init c = tells_none c.args.out.now c.args.at c.requires.0

pub put_page_at-a-requires : goal.put_page_at-a-requires
put_page_at-a-requires c =
    let l = c.loop-k in
    let t = c.loop-k-test.true in
    let p = c.requires.2 in
    (l.invariant.ready, c.requires.1, omega arith)

pub loop-k-preserved : goal.loop-k-preserved
loop-k-preserved c =
    let v = c.args in
    let l = c.loop-k in
    let t = c.loop-k-test.true in
    let p = c.requires.2 in
    tells_line (page_line v.letter) (pages_of v.mark v.cid v.discovery v.pages.now v.universes.now) l.k first_page (omega arith) l.invariant c.put_page_at-a.ensures

pub returns : goal.returns
returns c =
    let v = c.args in
    let l = c.loop-k in
    let t = c.loop-k-test.false in
    let p = c.requires.2 in
    tells_as (ap (lines (page_line v.letter)) (take_all l.k (pages_of v.mark v.cid v.discovery v.pages.now v.universes.now) (omega arith))) l.invariant
