-- A page that goes last is written behind the others; any other is put in its place.
-- Assumes nothing.
use mathlib.Core.Path.{sym, ◌∙◌}
use Prim.Native.Nat.{◌+◌}
use native.Mathlib.Omega.{arith}
use lib.ListN.{length}
use Rattle.laws.specs.Parts.{length_pasted, take_pasted, drop_pasted}
use Rattle.discovery_pages.specs.Steps.{pool_room, page_appended}
use Rattle.discovery_pages.proofs.pages.put_page.Goals as goal

pub paste-requires : goal.paste-requires
paste-requires c =
    let v = c.args in
    omega (arith, c.requires.1, pool_room v.count v.pages.now v.universes.now (length v.list.now) c.requires.0 c.requires.3 c.requires.4)

pub returns-then-goes_last : goal.returns-then-goes_last
returns-then-goes_last c =
    let v = c.args in
    let w = c.paste in
    let u = v.universes.now in
    let l = v.list.now in
    let last = sym c.goes_last.ensures ∙ c.if-goes_last.true in
    let room = pool_room v.count v.pages.now u (length l) c.requires.0 c.requires.3 c.requires.4 in
    rw c.from.ensures
    (page_appended v.count v.used v.pages.now u w.new.elements v.cid v.number l
    c.requires.0 c.requires.1 c.requires.2 c.requires.3 c.requires.4 c.requires.5 last
    (rw w.ensures (length_pasted u v.used l (omega (arith, room, c.requires.1))))
    (rw w.ensures (take_pasted u v.used l (omega (arith, room, c.requires.1))))
    (rw w.ensures (drop_pasted u v.used l (omega (arith, room, c.requires.1)) (v.used + length l) (omega arith))))
