-- Both tables lose the pair, the listed source the universe.
-- Assumes nothing.
use Rattle.sequences.specs.View.{lent}
use Rattle.receiver.specs.View.{with_sequence_rows, with_discovery_rows}
use Rattle.steps.specs.Laws.{ends_stream}
use Rattle.steps.proofs.end_stream.Goals as goal

pub returns : goal.returns
returns c m =
    let v = c.args in
    ends_stream v.cid v.universe v.receiver (with_sequence_rows (lent v.data_pairs.now v.data_sources.now v.sync_pairs.now v.sync_sources.now) (with_discovery_rows v.sources.now v.names.now v.pages.now v.universes.now m))
    c.remove_seq_numbers-sequences.result (lent c.remove_seq_numbers-sequences.new.data_pairs c.remove_seq_numbers-sequences.new.data_sources c.remove_seq_numbers-sequences.new.sync_pairs c.remove_seq_numbers-sequences.new.sync_sources) c.terminate_universe-discovery.result c.terminate_universe-discovery.new.pages c.terminate_universe-discovery.new.universes
    c.remove_seq_numbers-sequences.ensures.view c.remove_seq_numbers-sequences.ensures.kept c.terminate_universe-discovery.ensures
