-- The CID is listed, and the pairs decide, or it is not.
-- Assumes nothing.
use Rattle.std.proofs.Common.{sym, ap, ◌∙◌}
use Rattle.std.specs.Prelude.{is_some}
use Rattle.laws.specs.Table.{find}
use Rattle.laws.specs.Place.{place}
use Rattle.rules.specs.Cid.{before}
use Rattle.pairs.specs.Table.{itself}
use Rattle.pair_rows.specs.View.{listed_sources_of}
use Rattle.pair_tables.proofs.AdmitLaws.{placed_some}
use Rattle.pair_tables.proofs.CallsLaws.{admit_listed}
use Rattle.pair_tables.proofs.PairTable.admit.Goals as goal

pub returns-then-is_some : goal.returns-then-is_some
returns-then-is_some c =
    let v = c.args in
    let cs = listed_sources_of v.self.source_count v.sources.now in
    let hit = placed_some (place before itself v.pair.cid cs) (find before itself v.pair.cid cs) (ap is_some (sym c.find_source.ensures) ∙ sym c.is_some.ensures ∙ c.if-is_some.true) in
    admit_listed v.self v.pairs.now v.sources.now c.requires v.limit v.pair hit.0 c.admit_pair.result.left c.admit_pair.new.pairs c.admit_pair.result.answer hit.1 c.admit_pair.ensures
