-- Each command has its call.
-- Assumes nothing.
use mathlib.Core.Path.{sym, ap}
use Rattle.receiver.specs.View.{memory, state_of}
use Rattle.script.specs.declared.parse.Command.{Command}
use Rattle.replay.specs.Session.{carried}
use Rattle.replay.specs.SessionLaws.{carries_as}
use Rattle.replay.proofs.run.execute.Goals as goal

pub returns-in-Poll : goal.returns-in-Poll
returns-in-Poll c =
    let m = memory c.args.data_pairs.now c.args.data_sources.now c.args.sync_pairs.now c.args.sync_sources.now c.args.rows.now c.args.store.now c.args.heard.now c.args.sources.now c.args.names.now c.args.pages.now c.args.universes.now in
    let f = λ (x : Command). carried m c.args.released.now c.args.bytes.now c.args.list.now x c.args.session.settings (state_of c.args.session.receiver m) in
    carries_as (ap f (sym c.in-Poll.is)) (c.poll.ensures m)

pub returns-in-Sweep : goal.returns-in-Sweep
returns-in-Sweep c =
    let m = memory c.args.data_pairs.now c.args.data_sources.now c.args.sync_pairs.now c.args.sync_sources.now c.args.rows.now c.args.store.now c.args.heard.now c.args.sources.now c.args.names.now c.args.pages.now c.args.universes.now in
    let f = λ (x : Command). carried m c.args.released.now c.args.bytes.now c.args.list.now x c.args.session.settings (state_of c.args.session.receiver m) in
    carries_as (ap f (sym c.in-Sweep.is)) (c.sweep.ensures m)

pub returns-in-Clear : goal.returns-in-Clear
returns-in-Clear c =
    let m = memory c.args.data_pairs.now c.args.data_sources.now c.args.sync_pairs.now c.args.sync_sources.now c.args.rows.now c.args.store.now c.args.heard.now c.args.sources.now c.args.names.now c.args.pages.now c.args.universes.now in
    let f = λ (x : Command). carried m c.args.released.now c.args.bytes.now c.args.list.now x c.args.session.settings (state_of c.args.session.receiver m) in
    carries_as (ap f (sym c.in-Clear.is)) (c.clear.ensures m)

pub returns-in-Listen : goal.returns-in-Listen
returns-in-Listen c =
    let m = memory c.args.data_pairs.now c.args.data_sources.now c.args.sync_pairs.now c.args.sync_sources.now c.args.rows.now c.args.store.now c.args.heard.now c.args.sources.now c.args.names.now c.args.pages.now c.args.universes.now in
    let f = λ (x : Command). carried m c.args.released.now c.args.bytes.now c.args.list.now x c.args.session.settings (state_of c.args.session.receiver m) in
    carries_as (ap f (sym c.in-Listen.is)) (c.listen.ensures m)

pub returns-in-Mute : goal.returns-in-Mute
returns-in-Mute c =
    let m = memory c.args.data_pairs.now c.args.data_sources.now c.args.sync_pairs.now c.args.sync_sources.now c.args.rows.now c.args.store.now c.args.heard.now c.args.sources.now c.args.names.now c.args.pages.now c.args.universes.now in
    let f = λ (x : Command). carried m c.args.released.now c.args.bytes.now c.args.list.now x c.args.session.settings (state_of c.args.session.receiver m) in
    carries_as (ap f (sym c.in-Mute.is)) (c.mute.ensures m)

pub returns-in-Listening : goal.returns-in-Listening
returns-in-Listening c =
    let m = memory c.args.data_pairs.now c.args.data_sources.now c.args.sync_pairs.now c.args.sync_sources.now c.args.rows.now c.args.store.now c.args.heard.now c.args.sources.now c.args.names.now c.args.pages.now c.args.universes.now in
    let f = λ (x : Command). carried m c.args.released.now c.args.bytes.now c.args.list.now x c.args.session.settings (state_of c.args.session.receiver m) in
    carries_as (ap f (sym c.in-Listening.is)) (c.ask.ensures m)

pub returns-in-Fresh : goal.returns-in-Fresh
returns-in-Fresh c =
    let m = memory c.args.data_pairs.now c.args.data_sources.now c.args.sync_pairs.now c.args.sync_sources.now c.args.rows.now c.args.store.now c.args.heard.now c.args.sources.now c.args.names.now c.args.pages.now c.args.universes.now in
    let f = λ (x : Command). carried m c.args.released.now c.args.bytes.now c.args.list.now x c.args.session.settings (state_of c.args.session.receiver m) in
    carries_as (ap f (sym c.in-Fresh.is)) (c.begin.ensures m)

pub returns-in-Set : goal.returns-in-Set
returns-in-Set c =
    let m = memory c.args.data_pairs.now c.args.data_sources.now c.args.sync_pairs.now c.args.sync_sources.now c.args.rows.now c.args.store.now c.args.heard.now c.args.sources.now c.args.names.now c.args.pages.now c.args.universes.now in
    let f = λ (x : Command). carried m c.args.released.now c.args.bytes.now c.args.list.now x c.args.session.settings (state_of c.args.session.receiver m) in
    carries_as (ap f (sym c.in-Set.is)) (c.adjust.ensures m)

pub returns-in-Settings : goal.returns-in-Settings
returns-in-Settings c =
    let m = memory c.args.data_pairs.now c.args.data_sources.now c.args.sync_pairs.now c.args.sync_sources.now c.args.rows.now c.args.store.now c.args.heard.now c.args.sources.now c.args.names.now c.args.pages.now c.args.universes.now in
    let f = λ (x : Command). carried m c.args.released.now c.args.bytes.now c.args.list.now x c.args.session.settings (state_of c.args.session.receiver m) in
    carries_as (ap f (sym c.in-Settings.is)) (c.carry_settings.ensures m)

pub returns-in-ClearAll : goal.returns-in-ClearAll
returns-in-ClearAll c =
    let m = memory c.args.data_pairs.now c.args.data_sources.now c.args.sync_pairs.now c.args.sync_sources.now c.args.rows.now c.args.store.now c.args.heard.now c.args.sources.now c.args.names.now c.args.pages.now c.args.universes.now in
    let f = λ (x : Command). carried m c.args.released.now c.args.bytes.now c.args.list.now x c.args.session.settings (state_of c.args.session.receiver m) in
    carries_as (ap f (sym c.in-ClearAll.is)) (c.clear_all.ensures m)

pub returns-in-Reset : goal.returns-in-Reset
returns-in-Reset c =
    let m = memory c.args.data_pairs.now c.args.data_sources.now c.args.sync_pairs.now c.args.sync_sources.now c.args.rows.now c.args.store.now c.args.heard.now c.args.sources.now c.args.names.now c.args.pages.now c.args.universes.now in
    let f = λ (x : Command). carried m c.args.released.now c.args.bytes.now c.args.list.now x c.args.session.settings (state_of c.args.session.receiver m) in
    carries_as (ap f (sym c.in-Reset.is)) (c.reset.ensures m)
