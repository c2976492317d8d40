-- Silence, an error, or the command that the line says.
-- Assumes nothing.
use mathlib.Core.Path.{refl, sym, ◌∙◌}
use lib.ListN.{length}
use Rattle.receiver.specs.View.{memory, state_of}
use Rattle.printing.specs.TextLaws.{tells_none}
use Rattle.replay.specs.SessionLaws.{carries_as, carries_same}
use Rattle.replay.specs.SpokenLaws.{spoken_silent, spoken_long, spoken_said, spoken_none}
use Rattle.replay.proofs.run.carry_line.Goals as goal

pub returns-then-is_silent : goal.returns-then-is_silent
returns-then-is_silent c =
    let m = memory c.args.data_pairs.now c.args.data_sources.now c.args.sync_pairs.now c.args.sync_sources.now c.args.rows.now c.args.store.now c.args.heard.now c.args.sources.now c.args.names.now c.args.pages.now c.args.universes.now in
    carries_as (spoken_silent m c.args.released.now (length c.args.bytes.now) (length c.args.list.now) c.args.long c.args.line.now c.args.session.settings (state_of c.args.session.receiver m) (sym c.is_silent.ensures ∙ c.if-is_silent.true)) (carries_same refl refl (tells_none c.args.out.now c.args.session.at c.requires.1))

pub returns-then-long : goal.returns-then-long
returns-then-long c =
    let m = memory c.args.data_pairs.now c.args.data_sources.now c.args.sync_pairs.now c.args.sync_sources.now c.args.rows.now c.args.store.now c.args.heard.now c.args.sources.now c.args.names.now c.args.pages.now c.args.universes.now in
    carries_as (spoken_long m c.args.released.now (length c.args.bytes.now) (length c.args.list.now) c.args.long c.args.line.now c.args.session.settings (state_of c.args.session.receiver m) (sym c.is_silent.ensures ∙ c.if-is_silent.false) c.if-long.true) (c.refuse.ensures m)

pub returns-in_default : goal.returns-in_default
returns-in_default c =
    let v = c.args in
    let m = memory v.data_pairs.now v.data_sources.now v.sync_pairs.now v.sync_sources.now v.rows.now v.store.now v.heard.now v.sources.now v.names.now v.pages.now v.universes.now in
    let p = c.parse_line in
    carries_as (spoken_none m v.released.now (length v.bytes.now) (length v.list.now) v.long v.line.now v.session.settings (state_of v.session.receiver m) (sym c.is_silent.ensures ∙ c.if-is_silent.false) c.if-long.false p.result p.new.bytes p.new.list p.ensures c.in_default.is)
    (c.refuse-in_default.ensures m)

pub returns : goal.returns
returns c =
    let v = c.args in
    let m = memory v.data_pairs.now v.data_sources.now v.sync_pairs.now v.sync_sources.now v.rows.now v.store.now v.heard.now v.sources.now v.names.now v.pages.now v.universes.now in
    let p = c.parse_line in
    carries_as (spoken_said m v.released.now (length v.bytes.now) (length v.list.now) v.long v.line.now v.session.settings (state_of v.session.receiver m) (sym c.is_silent.ensures ∙ c.if-is_silent.false) c.if-long.false p.result p.new.bytes p.new.list p.ensures c.in-Some.command c.in-Some.is)
    c.execute.ensures
