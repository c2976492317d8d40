-- Each line keeps what the next one asks.
-- Assumes nothing.
use Rattle.receiver.specs.View.{memory}
use Rattle.replay.specs.Session.{Runs}
use Rattle.replay.proofs.run.run.Given as goal

abbrev pub invariant-loop : goal.invariant-loop
invariant-loop l = Runs l.t.session l.t.input (memory l.data_pairs l.data_sources l.sync_pairs l.sync_sources l.rows l.store l.heard l.sources l.names l.pages l.universes) l.chunk l.out
