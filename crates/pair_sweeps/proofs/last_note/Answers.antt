-- One walk along both ascending lists: pairs whose CID is before the one looked at are passed, and what those of the CID note comes after the notes so far.
-- Assumes nothing.
use mathlib.Core.Path.{◌≡◌, ap, ◌∙◌}
use mathlib.Core.List.{[], map}
use Prim.Native.Nat.{◌<◌, ◌+◌}
use native.Mathlib.Omega.{arith}
use lib.ListN.{length, take, drop, get_or}
use Rattle.laws.specs.Arrays.{spent}
use Rattle.laws.specs.Place.{prefix}
use Rattle.rules.specs.declared.Cid.{Cid}
use Rattle.pairs.specs.Table.{lowest}
use Rattle.pair_rows.specs.View.{cid_of, pair_of, row_before, note_of}
use Rattle.pair_sweeps.specs.Sweep.{NoteWalk, note_starts, note_skip, note_on, note_done}
use borrow.Author.Rules.{rules}
use Rattle.pair_sweeps.proofs.last_note.Goals as goal

pub loop-i-init : goal.loop-i-init
loop-i-init c =
    let v = c.args in
    (search rules, search rules, note_starts v.reading (take v.n v.pairs.now) v.m v.sources.now c.requires.sources_ascend)

pub loop-i-preserved : goal.loop-i-preserved
loop-i-preserved c =
    let inside : (c.loop-i.i < c.args.m) × (c.loop-i.i < length c.args.sources.now) = omega arith in
    let reached : c.skip_before-j.result ≡ c.loop-i.j + prefix (row_before (cid_of (get_or c.args.sources.now c.loop-i.i []))) (drop c.loop-i.j (take c.args.n c.args.pairs.now)) = c.skip_before-j.ensures.1
    ∙ ap (λ (d : Cid). c.loop-i.j + prefix (row_before d) (drop c.loop-i.j (take c.args.n c.args.pairs.now))) c.cid_of-cid.ensures in
    let skipped : NoteWalk c.args.reading (take c.args.n c.args.pairs.now) c.args.m c.args.sources.now c.loop-i.last c.loop-i.i c.skip_before-j.result = note_skip c.loop-i.invariant.2 inside.0 inside.1 c.skip_before-j.result reached in
    let told : c.lowest_expired.result ≡ note_of (lowest c.args.reading (map pair_of (drop c.skip_before-j.result (take c.args.n c.args.pairs.now))) (cid_of (get_or c.args.sources.now c.loop-i.i []))) = c.lowest_expired.ensures
    ∙ ap (λ (d : Cid). note_of (lowest c.args.reading (map pair_of (drop c.skip_before-j.result (take c.args.n c.args.pairs.now))) d)) c.cid_of-cid.ensures in
    (omega arith, omega arith, rw c.later_note-last.ensures (note_on skipped inside.0 inside.1 c.lowest_expired.result told))

pub returns : goal.returns
returns c =
    let h = c.loop-i in
    let v = c.args in
    note_done h.invariant.2 (spent v.sources.now v.m h.i (omega arith))
