-- Computed examples that pin the definitions down: document 01's trial values that concern steps, its traps, and two desks with a sync.
-- Assumes nothing.
use Rattle.std.specs.Prelude.{refl}
use Rattle.laws.specs.Order.{before_by}
use Rattle.laws.specs.Table.{keep, any, find, store, remove}
use Rattle.rules.specs.Bytes.{big_endian}
use Rattle.pairs.specs.Table as pairs
use Rattle.merge.specs.Merge.{same_start, mergeable, highest, blended, joined, htp_merge, preferred}
use Rattle.waiting.specs.Waiting as waiting
use Rattle.waiting.specs.Records.{encode, records}
use Rattle.discovery.specs.Discovery as discovery
use Rattle.discovery.specs.Discovery.{Announcement, Source, Page}
use Rattle.model.specs.Packet.{over, too_long}
use Rattle.model.specs.Step.{illegal, joined_by, listen_all, too_short, poll_waiting, poll_sync, poll, if_accepted, release, terminated, unsynchronised, stored, heard, synchronised, accepted, data_arrival, data_step, synchronise, sync_arrival, sync_step, discovery_step, packet_step, polled, measured, step}
use Rattle.model.specs.Calls.{listen_call, muted}
use Rattle.model.specs.Examples.{Pinned, after, data_sequences, numbers, page_numbers, released, sync_universes, waiting_values}

pinned : Pinned
unfolding after numbers released waiting_values sync_universes data_sequences page_numbers step too_short measured too_long over polled poll poll_sync poll_waiting pairs.sweep pairs.swept pairs.without pairs.lowest pairs.last_noted pairs.noted pairs.told packet_step data_step data_arrival pairs.check pairs.after_sweep pairs.admit pairs.stop pairs.source_stop pairs.listed pairs.full pairs.sequence_stop pairs.settle pairs.recorded if_accepted accepted unsynchronised synchronised heard stored release terminated sync_step sync_arrival synchronise waiting.cleared waiting.stored waiting.joining waiting.merged waiting.released waiting.left same_start mergeable highest blended joined htp_merge preferred discovery_step discovery.arrived discovery.taken discovery.noted discovery.noting discovery.lookup discovery.drop_source discovery.relisted discovery.updated discovery.in_place discovery.sorted discovery.numbered discovery.complete discovery.extended discovery.begun discovery.page_count discovery.ended discovery.cut discovery.cut_page listen_call listen_all illegal joined_by muted find store remove keep any encode records big_endian before_by
pinned = record {
  printed = refl;
  limit = refl;
  limit_count = refl;
  never_lists = refl;
  lists = refl;
  ends_before_sequence = refl;
  sync_pair_stays = refl;
  sync_pair_goes = refl;
  own_packet_merges = refl;
  first_last_page = refl;
  waiting_outlives_end = refl;
  refused_leaves = refl;
  illegal_address = refl;
  data_repeats = refl;
  sync_repeats = refl;
  refused_merge = refl;
  announced_timeout = refl;
  three_pages = refl;
  two_records = refl;
  released_once = refl;
  end_not_listened = refl;
  not_listened = refl;
  two_desks = refl;
  two_desks_swapped = refl;
  mutes = refl;
  mutes_unknown = refl;
  mutes_illegal = refl;
}
