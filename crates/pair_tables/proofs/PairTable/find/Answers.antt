-- The entry at the place of the key, if there is one, has the key or another.
-- Assumes nothing.
use mathlib.Core.Path.{◌≡◌, sym, ap, ◌∙◌}
use native.Mathlib.Omega.{arith}
use mathlib.Core.List.{[]}
use lib.ListN.{get_or}
use Rattle.pairs.specs.declared.Pair.{Pair}
use Rattle.pairs.specs.Table.{key, key_of, key_before}
use Rattle.pairs.proofs.TableLaws.{key_order}
use Rattle.pair_rows.specs.View.{pair_of, same_key}
use Rattle.pair_rows.specs.Rows.{same_key_path, same_key_not, placed_hit, placed_miss, placed_end}
use Rattle.pair_tables.proofs.PairTable.find.Goals as goal
use Rattle.pair_tables.proofs.PairTable.find.Goals.{else-i-self-via-then-i-self+else-same_key, else-i-self-via-else-i-self}

pub returns-then-same_key : goal.returns-then-same_key
returns-then-same_key c =
    let test : same_key (pair_of (get_or c.args.pairs.now c.place_of-i.result [])) c.args.cid c.args.universe ≡ c.same_key.result = ap (λ (p : Pair). same_key p c.args.cid c.args.universe) (sym c.pair_of.ensures) ∙ sym c.same_key.ensures in
    let v = c.args in
    placed_hit key_before key_of key_order (key v.cid v.universe) pair_of v.self.count v.pairs.now (omega arith) c.place_of-i.result c.place_of-i.ensures.1 (omega arith)
    (same_key_path (pair_of (get_or v.pairs.now c.place_of-i.result [])) v.cid v.universe (test ∙ c.if-same_key.true))

pub returns-else-i-self : goal.returns-else-i-self
returns-else-i-self c =
    let v = c.args in
    elim c.else-i-self.branch [
      | else-i-self-via-then-i-self+else-same_key w ↦
          let test : same_key (pair_of (get_or v.pairs.now c.place_of-i.result [])) v.cid v.universe ≡ w.same_key.result = ap (λ (p : Pair). same_key p v.cid v.universe) (sym w.pair_of.ensures) ∙ sym w.same_key.ensures in
          placed_miss key_before key_of key_order (key v.cid v.universe) pair_of v.self.count v.pairs.now (omega arith) c.place_of-i.result c.place_of-i.ensures.1 (omega arith)
          (same_key_not (pair_of (get_or v.pairs.now c.place_of-i.result [])) v.cid v.universe (test ∙ w.if-same_key.false))
      | else-i-self-via-else-i-self w ↦ placed_end key_before key_of key_order (key v.cid v.universe) pair_of v.self.count v.pairs.now (omega arith) c.place_of-i.result c.place_of-i.ensures.1 w.if-i-self.false
    ]
