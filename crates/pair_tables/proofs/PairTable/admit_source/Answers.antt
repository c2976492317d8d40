-- The limit is reached, the list is full, or the pairs decide; with a stored pair its CID joins the list.
-- Assumes nothing.
use mathlib.Core.Path.{sym, ◌∙◌}
use Rattle.rules.specs.Cid.{before}
use Rattle.rules.proofs.CidLaws.{cid_order}
use Rattle.pairs.specs.Table.{itself}
use Rattle.pair_rows.specs.View.{cid_of}
use Rattle.pair_rows.specs.Stores.{rows_inserted}
use Rattle.pair_tables.proofs.CallsLaws.{admit_limit, admit_full, admit_refused, admit_joins}
use Rattle.pair_tables.proofs.PairTable.admit_source.Goals as goal

pub returns-then-is_reached : goal.returns-then-is_reached
returns-then-is_reached c =
    let v = c.args in
    admit_limit v.self v.pairs.now v.sources.now c.requires.kept v.limit v.pair c.requires.missing (sym c.is_reached.ensures ∙ c.if-is_reached.true)

pub returns-then-n-ge-PAIRS : goal.returns-then-n-ge-PAIRS
returns-then-n-ge-PAIRS c =
    let v = c.args in
    admit_full v.self v.pairs.now v.sources.now c.requires.kept v.limit v.pair c.requires.missing (sym c.is_reached.ensures ∙ c.if-is_reached.false) c.if-n-ge-PAIRS.true

pub returns-then-is_accepted : goal.returns-then-is_accepted
returns-then-is_accepted c =
    let v = c.args in
    admit_joins v.self v.pairs.now v.sources.now c.requires.kept v.limit v.pair c.requires.missing (sym c.is_reached.ensures ∙ c.if-is_reached.false) c.if-n-ge-PAIRS.false
    c.admit_pair-arrival.result.left c.admit_pair-arrival.new.pairs c.admit_pair-arrival.result.answer c.admit_pair-arrival.ensures c.insert_at.new.elements (c.insert_at.ensures.kept ∙ c.requires.kept.sources_room)
    (rows_inserted before itself cid_order cid_of v.self.source_count v.sources.now c.source_row.result v.pair.cid c.source_place-at.result c.insert_at.new.elements c.source_row.ensures c.requires.missing c.source_place-at.ensures.1 c.insert_at.ensures.put_in)
    (sym c.is_accepted.ensures ∙ c.if-is_accepted.true)

pub returns-else-is_accepted : goal.returns-else-is_accepted
returns-else-is_accepted c =
    let v = c.args in
    admit_refused v.self v.pairs.now v.sources.now c.requires.kept v.limit v.pair c.requires.missing (sym c.is_reached.ensures ∙ c.if-is_reached.false) c.if-n-ge-PAIRS.false
    c.admit_pair-arrival.result.left c.admit_pair-arrival.new.pairs c.admit_pair-arrival.result.answer c.admit_pair-arrival.ensures (sym c.is_accepted.ensures ∙ c.if-is_accepted.false)
