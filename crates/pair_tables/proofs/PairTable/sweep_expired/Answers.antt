-- Where the header's notes, or the notes made anew, say that nothing is expired and no CID without a pair, a sweep leaves the rows as they are; else both
-- lists are gone through.
-- Assumes nothing.
use mathlib.Core.Path.{sym, subst, ◌∙◌}
use mathlib.Core.List.{List}
use Prim.Native.Nat.{◌≤◌}
use native.Mathlib.Omega.{arith}
use Rattle.laws.specs.Table.{Ascending, ascending_keep}
use Rattle.pairs.specs.declared.Pair.{Pair}
use Rattle.pairs.specs.Table.{key_of, key_before, live, capacity}
use Rattle.pairs.proofs.TableLaws.{key_order}
use Rattle.pair_rows.specs.View.{pairs_of}
use Rattle.pair_tables.proofs.CallsLaws.{sweep_idle, sweep_renewed, sweep_done, rows_stay, rows_busy}
use Rattle.pair_tables.proofs.PairTable.sweep_expired.Goals as goal

pub returns-then-is_idle : goal.returns-then-is_idle
returns-then-is_idle c =
    let v = c.args in
    record {
      view = sweep_idle v.self v.pairs.now v.sources.now c.requires v.reading (sym c.is_idle.ensures ∙ c.if-is_idle.true);
      quiet = rows_stay v.self v.pairs.now v.sources.now c.requires v.reading;
    }

pub returns-then-is_idle-2 : goal.returns-then-is_idle-2
returns-then-is_idle-2 c =
    let v = c.args in
    record {
      view = sweep_renewed v.self v.pairs.now v.sources.now c.requires v.reading c.renew_notes-renewed.result c.renew_notes-renewed.ensures (sym c.is_idle-2.ensures ∙ c.if-is_idle-2.true);
      quiet = rows_stay v.self v.pairs.now v.sources.now c.requires v.reading;
    }

pub keep_sources-source_count-requires : goal.keep_sources-source_count-requires
keep_sources-source_count-requires c =
    let few : c.keep_live-count.result ≤ capacity = omega (arith, c.keep_live-count.ensures.0, c.requires.count_fits) in
    record {
      n_fits = few;
      m_fits = c.requires.source_count_fits;
      pairs_ascend = subst (λ (ps : List Pair). Ascending key_before key_of ps) (sym c.keep_live-count.ensures.1)
          (ascending_keep key_before key_of key_order (live c.args.reading) (pairs_of c.args.self.count c.args.pairs.now) c.requires.ordered.pairs_ascend);
      sources_ascend = c.requires.ordered.sources_ascend;
    }

pub returns : goal.returns
returns c =
    let few : c.keep_live-count.result ≤ capacity = omega (arith, c.keep_live-count.ensures.0, c.requires.count_fits) in
    let v = c.args in
    let m : c.keep_sources-source_count.result ≤ capacity = omega (arith, c.keep_sources-source_count.ensures.0, c.requires.source_count_fits) in
    record {
      view = sweep_done v.self v.pairs.now v.sources.now c.requires v.reading c.keep_live-count.result c.keep_sources-source_count.result c.least_reading-oldest.result c.keep_live-count.new.pairs c.keep_sources-source_count.new.sources
          c.keep_live-count.array_long c.keep_sources-source_count.array_long few m c.keep_live-count.ensures.1 c.keep_sources-source_count.ensures.1 c.least_reading-oldest.ensures;
      quiet = rows_busy v.self v.pairs.now v.sources.now c.requires v.reading c.renew_notes-renewed.result c.keep_live-count.new.pairs c.keep_sources-source_count.new.sources (omega arith) c.renew_notes-renewed.ensures
          (sym c.is_idle-2.ensures ∙ c.if-is_idle-2.false);
    }
