-- The notes are not quiet, or the CID is not listed; otherwise the pairs decide.
-- Assumes nothing.
use Rattle.std.proofs.Common.{sym, ap, ◌∙◌}
use Rattle.std.specs.Prelude.{is_some}
use Rattle.laws.specs.Cases.{clash}
use Rattle.laws.specs.Table.{find}
use Rattle.laws.specs.Place.{place}
use Rattle.rules.specs.Cid.{before}
use Rattle.pairs.specs.Table.{itself}
use Rattle.pair_rows.specs.View.{listed_sources_of}
use Rattle.pair_tables.proofs.AdmitLaws.{placed_some}
use Rattle.pair_tables.proofs.CallsLaws.{renews_listed}
use Rattle.pair_tables.proofs.PairTable.renew.Goals as goal
use Rattle.pair_tables.proofs.PairTable.renew.Goals.{then-is_quiet, else-is_quiet}

pub returns-then-is_some : goal.returns-then-is_some
returns-then-is_some c =
    let v = c.args in
    let cs = listed_sources_of v.self.source_count v.sources.now in
    elim c.if-is_quiet.branch [
      | then-is_quiet w ↦
          let hit = placed_some (place before itself v.pair.cid cs) (find before itself v.pair.cid cs) (ap is_some (sym w.find_source.ensures) ∙ sym w.is_some.ensures ∙ sym w.value-is ∙ c.if-is_some.true) in
          renews_listed v.self v.pairs.now v.sources.now c.requires v.announce v.pair hit.0 c.renew_pair.new.pairs c.renew_pair.result (sym c.is_quiet.ensures ∙ w.if-is_quiet.true) hit.1 c.renew_pair.ensures
      | else-is_quiet w ↦ clash c.if-is_some.true (w.value-is ∙ w.if-is_quiet.false)
    ]
