-- With too few rows some place is not held. Otherwise what is left to test of the rows not yet passed is what was to be tested of all.
-- Assumes nothing.
use Rattle.std.proofs.Common.{◌≡◌, true, false, ℕ, suc, ◌-◌, ◌+◌, ◌<◌, [], eqb, eq-eqb, take, drop, get_or, get_or-take, length-take, sym, ap, ◌∙◌, arith}
use borrow.Author.Tests.{ne_eqb}
use Rattle.laws.specs.Arrays.{spent}
use Rattle.discovery_rows.specs.Rows.{owned, in_turn, in_turn_skip, in_turn_row, in_turn_miss, in_turn_done, in_turn_none, in_turn_few}
use Rattle.discovery_rows.proofs.rows.has_all_pages.Goals as goal
use Rattle.discovery_rows.proofs.rows.has_all_pages.Goals.{then-is_owned+else-row-next, else-is_owned}

pub returns-then-count-last_page : goal.returns-then-count-last_page
returns-then-count-last_page c =
    let v = c.args in
    sym (in_turn_few v.cid 0 (suc v.last_page) (take v.count v.pages.now) (omega (arith, length-take v.count v.pages.now)))

pub returns-then-last_page-next : goal.returns-then-last_page-next
returns-then-last_page-next c =
    let w = c.loop-row in
    let v = c.args in
    sym (in_turn_done v.cid w.next (suc v.last_page - w.next) (drop w.row-index (take v.count v.pages.now)) (omega arith)) ∙ w.invariant.1

pub returns-then-row-next : goal.returns-then-row-next
returns-then-row-next c =
    let w = c.loop-row in
    let i = w.row-index in
    let v = c.args in
    let a = v.pages.now in
    let row = get_or a i [] in
    let h : i < v.count = omega (arith, length-take v.count a) in
    let g : get_or (take v.count a) i [] ≡ row = get_or-take v.count a i [] h in
    let t : owned 0 v.cid row ≡ true = rw g at (sym c.is_owned.ensures ∙ c.if-is_owned.true) in
    let f : eqb (get_or row 3 0) w.next ≡ false = ne_eqb (get_or row 3 0) w.next (rw g at c.if-row-next.true) in
    let m : suc v.last_page - w.next ≡ suc (v.last_page - w.next) = omega (arith, c.if-last_page-next.false) in
    sym (in_turn_miss v.cid a v.count i h (omega arith) w.next (v.last_page - w.next) t f)
    ∙ ap (λ (k : ℕ). in_turn v.cid w.next k (drop i (take v.count a))) (sym m)
    ∙ w.invariant.1

pub loop-row-preserved : goal.loop-row-preserved
loop-row-preserved c =
    let w = c.loop-row in
    let i = w.row-index in
    let v = c.args in
    let a = v.pages.now in
    let row = get_or a i [] in
    let h : i < v.count = omega (arith, length-take v.count a) in
    let g : get_or (take v.count a) i [] ≡ row = get_or-take v.count a i [] h in
    let own : c.is_owned.result ≡ owned 0 v.cid row = rw g at c.is_owned.ensures in
    let q = c.if-last_page-next.false in
    let m : suc v.last_page - w.next ≡ suc (v.last_page - w.next) = omega (arith, q) in
    let n : suc v.last_page - (w.next + 1) ≡ v.last_page - w.next = omega (arith, q) in
    elim c.if-is_owned.branch [
      | then-is_owned+else-row-next b ↦
          let t : owned 0 v.cid row ≡ true = sym own ∙ b.if-is_owned.true in
          let f : eqb (get_or row 3 0) w.next ≡ true = eq-eqb (get_or row 3 0) w.next (rw g at b.if-row-next.false) in
          rw b.next-is (
            omega arith,
            ap (λ (k : ℕ). in_turn v.cid (w.next + 1) k (drop (i + 1) (take v.count a))) n
                ∙ in_turn_row v.cid a v.count i h (omega arith) w.next (v.last_page - w.next) t f
                ∙ ap (λ (k : ℕ). in_turn v.cid w.next k (drop i (take v.count a))) (sym m)
                ∙ w.invariant.1,
          )
      | else-is_owned b ↦
          let t : owned 0 v.cid row ≡ false = sym own ∙ b.if-is_owned.false in
          rw b.next-is (
            omega arith,
            in_turn_skip v.cid a v.count i h (omega arith) w.next (suc v.last_page - w.next) t ∙ w.invariant.1,
          )
    ]

pub returns : goal.returns
returns c =
    let w = c.loop-row in
    let v = c.args in
    let a = v.pages.now in
    let e = rw (spent a v.count w.row-index (omega (arith, length-take v.count a))) at w.invariant.1 in
    sym (in_turn_none v.cid w.next v.last_page) ∙ e
