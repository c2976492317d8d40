-- The rows passed are turned, the others as they were.
-- Assumes nothing.
use Rattle.std.proofs.Common.{◌≡◌, true, false, List, ℕ, [], ◌∷◌, take, get_or, set, sym, ◌∙◌, arith}
use Rattle.std.proofs.lemmas.List.{get_or_default}
use Rattle.std.proofs.lemmas.List.Edits.{map_over_more}
use Rattle.rules.specs.declared.Cid.{Cid}
use Rattle.discovery_rows.specs.Rows.{owned, turned_row}
use Rattle.discovery_rows.proofs.rows.turn_pages.Goals as goal
use Rattle.discovery_rows.proofs.rows.turn_pages.Goals.{then-is_owned, else-is_owned}

-- an owner's row is turned
new : (c : Cid) (items : List (List ℕ)) (i : ℕ) → owned 0 c (get_or items i []) ≡ true
    → set items i (1 ∷ get_or (get_or items i []) 1 0 ∷ get_or (get_or items i []) 2 0 ∷ get_or (get_or items i []) 3 0 ∷ get_or (get_or items i []) 4 0 ∷ []) ≡ set items i (turned_row c (get_or items i []))
new c items i t = rw t

-- another's stays
old : (c : Cid) (items : List (List ℕ)) (i : ℕ) → owned 0 c (get_or items i []) ≡ false → set items i (get_or items i []) ≡ set items i (turned_row c (get_or items i []))
old c items i t = rw t

pub loop-row-preserved : goal.loop-row-preserved
loop-row-preserved c =
    let l = c.loop-row in
    let row = get_or l.row-items l.row-index [] in
    let more = map_over_more (turned_row c.args.cid) (take c.args.count c.args.pages.now) l.row-items l.row-index row c.loop-row-test.true l.invariant (get_or_default l.row-items l.row-index [] row (omega arith)) in
    elim c.if-is_owned.branch [
      | then-is_owned w ↦ w.row-items-is ∙ new c.args.cid l.row-items l.row-index (sym c.is_owned.ensures ∙ w.if-is_owned.true) ∙ more
      | else-is_owned w ↦ w.row-items-is ∙ old c.args.cid l.row-items l.row-index (sym c.is_owned.ensures ∙ w.if-is_owned.false) ∙ more
    ]
