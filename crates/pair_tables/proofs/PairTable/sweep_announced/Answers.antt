-- Nothing can be expired; nothing is noted, and the notes are made anew; or the pair that is noted goes.
-- Assumes nothing.
use mathlib.Core.Path.{sym, ◌∙◌}
use Rattle.pair_tables.proofs.CallsLaws.{announced_idle, announced_renewed, announced_some, rows_stay, rows_told}
use Rattle.pair_tables.proofs.PairTable.sweep_announced.Goals as goal

pub returns-then-not-is_expired : goal.returns-then-not-is_expired
returns-then-not-is_expired c =
    let v = c.args in
    record { view = announced_idle v.self v.pairs.now v.sources.now c.requires v.reading (sym c.is_expired.ensures ∙ c.if-not-is_expired.true); quiet = rows_stay v.self v.pairs.now v.sources.now c.requires v.reading }

pub returns-in-Quiet : goal.returns-in-Quiet
returns-in-Quiet c =
    let v = c.args in
    record {
      view = announced_renewed v.self v.pairs.now v.sources.now c.requires v.reading c.renew_notes.result c.renew_notes.ensures (sym c.note.ensures ∙ c.in-Quiet.is);
      quiet = rows_stay v.self v.pairs.now v.sources.now c.requires v.reading;
    }

pub returns-in-TimedOut : goal.returns-in-TimedOut
returns-in-TimedOut c =
    let v = c.args in
    let e = sym c.note.ensures ∙ c.in-TimedOut.is in
    record {
      view = announced_some v.self v.pairs.now v.sources.now c.requires v.reading _ _ c.remove.result.left c.remove.new.pairs c.remove.new.sources c.remove.result.answer e c.remove.ensures;
      quiet = rows_told v.self v.pairs.now v.sources.now c.requires v.reading _ _ c.remove.new.pairs c.remove.new.sources e;
    }
