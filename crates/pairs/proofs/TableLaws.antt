-- Document 01, 'Pair tables': what each call makes of a table. A table here is two lists: the pairs, ascending by CID and then universe,
-- and the CIDs that count as sources, ascending.
-- Assumes nothing.
use Rattle.std.specs.Prelude.{ltb}
use Rattle.laws.specs.Order.{Order, ℕOrder, order_by}
use Rattle.rules.specs.Cid.{before}
use Rattle.rules.proofs.CidLaws.{cid_order}
use Rattle.pairs.specs.Table.{Key, key_before}

pub key_order : Order key_before
key_order = order_by before ltb (λ (k : Key). k.cid) (λ (k : Key). k.universe) cid_order ℕOrder (λ a b p q i. record { cid = p i; universe = q i })
