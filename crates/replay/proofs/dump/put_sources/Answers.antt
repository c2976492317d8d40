-- The sources passed so far are told.
-- Assumes nothing.
use mathlib.Core.Path.{refl, ap}
use native.Mathlib.Omega.{arith}
use lib.Seq.{take_all}
use Rattle.discovery_reads.specs.Reads.{sources_of}
use Rattle.printing.specs.TextLaws.{tells_none, tells_as}
use Rattle.replay.specs.Dump.{lines, source_text}
use Rattle.replay.specs.DumpLaws.{first_source, tells_line}
use borrow.Author.Rules.{rules}
use Rattle.replay.proofs.dump.put_sources.Goals as goal

pub loop-k-init : goal.loop-k-init
unfolding lines
loop-k-init c = tells_none c.args.out.now c.args.at c.requires.0

pub put_source_at-a-requires : goal.put_source_at-a-requires
put_source_at-a-requires c =
    let l = c.loop-k in
    let t = c.loop-k-test.true in
    let p = c.requires.2 in
    (l.invariant.ready, c.requires.1, omega arith)

pub loop-k-preserved : goal.loop-k-preserved
loop-k-preserved c =
    let v = c.args in
    let l = c.loop-k in
    let t = c.loop-k-test.true in
    let p = c.requires.2 in
    tells_line (source_text v.letter) (sources_of v.mark v.discovery v.sources.now v.names.now v.pages.now v.universes.now) l.k first_source (omega arith) l.invariant c.put_source_at-a.ensures

pub returns : goal.returns
returns c =
    let v = c.args in
    let l = c.loop-k in
    let t = c.loop-k-test.false in
    let p = c.requires.2 in
    tells_as (ap (lines (source_text v.letter)) (take_all l.k (sources_of v.mark v.discovery v.sources.now v.names.now v.pages.now v.universes.now) (omega arith))) l.invariant
