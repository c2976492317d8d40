-- The place and its offset are found, the gap opened and filled, and the row put in.
-- Assumes nothing.
use mathlib.Core.Path.{◌∙◌}
use mathlib.Core.Bool.{not}
use Prim.Native.Nat.{◌≤◌, ◌+◌}
use native.Mathlib.Omega.{arith}
use lib.ListN.{length}
use Rattle.laws.specs.Parts.{length_pasted, take_pasted, drop_pasted}
use Rattle.discovery_rows.specs.Rows.{larger}
use Rattle.discovery_pages.specs.Passes.{few_less}
use Rattle.discovery_rows.specs.Walks.{place_within}
use Rattle.discovery_pages.specs.Steps.{offset_inside, pool_room, page_inserted}
use Rattle.discovery_pages.proofs.pages.add_page.Goals as goal

pub offset-begin-requires : goal.offset-begin-requires
offset-begin-requires c =
    let v = c.args in
    let f = c.page_place-at in
    let h : f.result ≤ v.count = omega (arith, f.ensures, place_within (λ r. not (larger v.cid v.number r)) v.count v.pages.now) in
    (omega (arith, c.requires.0.within), few_less f.result v.count v.pages.now h c.requires.0.few)

pub open_gap-requires : goal.open_gap-requires
open_gap-requires c =
    let v = c.args in
    let f = c.page_place-at in
    let h : f.result ≤ v.count = omega (arith, f.ensures, place_within (λ r. not (larger v.cid v.number r)) v.count v.pages.now) in
    let o = c.offset-begin in (
      omega (arith, o.ensures, offset_inside f.result v.count v.pages.now h, c.requires.1),
      omega (arith, c.requires.1, pool_room v.count v.pages.now v.universes.now (length v.list.now) c.requires.0 c.requires.2 c.requires.3),
    )

pub paste-requires : goal.paste-requires
paste-requires c =
    let v = c.args in
    let f = c.page_place-at in
    let h : f.result ≤ v.count = omega (arith, f.ensures, place_within (λ r. not (larger v.cid v.number r)) v.count v.pages.now) in
    let o = c.offset-begin in
    let g = c.open_gap in
    omega (
      arith,
      g.ensures.0,
      o.ensures,
      offset_inside f.result v.count v.pages.now h,
      c.requires.1,
      pool_room v.count v.pages.now v.universes.now (length v.list.now) c.requires.0 c.requires.2 c.requires.3,
    )

pub insert_at-requires : goal.insert_at-requires
insert_at-requires c =
    let v = c.args in
    let f = c.page_place-at in
    let h : f.result ≤ v.count = omega (arith, f.ensures, place_within (λ r. not (larger v.cid v.number r)) v.count v.pages.now) in
    (omega (arith, c.requires.2, c.requires.0.rows), h)

pub returns : goal.returns
returns c =
    let v = c.args in
    let f = c.page_place-at in
    let h : f.result ≤ v.count = omega (arith, f.ensures, place_within (λ r. not (larger v.cid v.number r)) v.count v.pages.now) in
    let o = c.offset-begin in
    let g = c.open_gap in
    let w = c.paste in
    let i = c.insert_at in
    let l = v.list.now in
    let room = pool_room v.count v.pages.now v.universes.now (length l) c.requires.0 c.requires.2 c.requires.3 in
    let inside = offset_inside f.result v.count v.pages.now h in
    let b : o.result + length l ≤ length g.new.universes = omega (arith, g.ensures.0, o.ensures, inside, c.requires.1, room) in
    page_inserted v.count v.used v.pages.now i.new.elements v.universes.now g.new.universes w.new.elements v.cid v.number l f.result o.result
    c.requires.0 c.requires.1 c.requires.2 c.requires.3 f.ensures o.ensures (i.ensures.kept ∙ c.requires.0.rows) (rw c.from.ensures at i.ensures.put_in) g.ensures.0
    (rw w.ensures (length_pasted g.new.universes o.result l b))
    g.ensures.1 g.ensures.2
    (rw w.ensures (take_pasted g.new.universes o.result l (omega (arith, b))))
    (rw w.ensures (drop_pasted g.new.universes o.result l (omega (arith, b)) (o.result + length l) (omega arith)))
    g.ensures.3
