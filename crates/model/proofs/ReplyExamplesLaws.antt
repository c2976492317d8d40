-- A computed example of what calls reply: one call of each kind, two of them stopped.
-- Assumes nothing.
use Rattle.std.specs.Prelude.{◌≡◌, refl, true, false, [], ◌∷◌, pos}
use Rattle.laws.specs.Order.{before_by}
use Rattle.laws.specs.Table.{keep, any, find, store, remove}
use Rattle.rules.specs.Bytes.{big_endian}
use Rattle.settings.specs.Settings as settings
use Rattle.pairs.specs.Table as pairs
use Rattle.merge.specs.declared.SourceCid.TheVariants.{Of}
use Rattle.waiting.specs.Waiting as waiting
use Rattle.waiting.specs.Records.{encode, records}
use Rattle.discovery.specs.Discovery as discovery
use Rattle.model.specs.declared.StepAnswer.TheVariants as says
use Rattle.model.specs.declared.PollAnswer.TheVariants as polling
use Rattle.model.specs.declared.ExpiryAnswer.TheVariants as expiry
use Rattle.model.specs.declared.ListenAnswer.TheVariants as listen
use Rattle.model.specs.declared.MuteAnswer.TheVariants as muting
use Rattle.model.specs.declared.ClearAnswer.TheVariants as clearing
use Rattle.model.specs.Packet.{data_packet, over, too_long}
use Rattle.model.specs.State.{fresh}
use Rattle.model.specs.Step.{illegal, joined_by, listen_all, too_short, poll_waiting, poll_sync, poll, if_accepted, release, unsynchronised, accepted, data_arrival, data_step, packet_step, polled, measured, step}
use Rattle.model.specs.Examples.{enough}
use Rattle.model.specs.Calls.{poll_call, polled_by, expiry_call, listen_call, muted, mute_call, clear_call, clear_all_call, reset_pairs_call, reset_discovery_call, reset_call}
use Rattle.model.specs.Calls.{on_packet, on_poll, on_expiry, on_listen, on_mute, on_ask, on_clear, on_clear_all, on_reset_pairs, on_reset_discovery, on_reset, call}
use Rattle.model.specs.Calls.{of_packet, of_poll, of_expiry, of_listen, of_mute, of_ask, of_clear, of_clear_all, of_reset_pairs, of_reset_discovery, of_reset, reply, replies}
use Rattle.model.specs.ReplyExamples.{desk, packet}

replied :
    replies
    (on_listen (1 ∷ [])
    ∷ on_packet enough settings.fresh 5 (data_packet packet)
    ∷ on_packet enough settings.fresh 6 (data_packet packet)
    ∷ on_poll 32832 settings.fresh 6
    ∷ on_expiry 65536 settings.fresh 6
    ∷ on_ask 1
    ∷ on_clear 32832 1
    ∷ on_clear 32831 1
    ∷ on_mute 1
    ∷ on_ask 1
    ∷ on_clear_all
    ∷ on_reset_pairs
    ∷ on_reset_discovery
    ∷ on_reset
    ∷ [])
    fresh
    ≡ of_listen listen.Listening
    ∷ of_packet (says.Released 1 37) (record {
      head = record { universe = 1; sync_uni = 0; priority = 100; src_cid = Of desk; preview = false; recv_timestamp = 5 };
      values = 0 ∷ 255 ∷ [];
    } ∷ [])
    ∷ of_packet (says.Repeated 0 0 (pos 0)) []
    ∷ of_poll polling.Polled
    ∷ of_expiry expiry.Swept
    ∷ of_ask true
    ∷ of_clear (clearing.Cleared false)
    ∷ of_clear (clearing.TooShort 32832)
    ∷ of_mute muting.Muted
    ∷ of_ask false
    ∷ of_clear_all
    ∷ of_reset_pairs
    ∷ of_reset_discovery
    ∷ of_reset
    ∷ []
unfolding replies reply call poll_call polled_by expiry_call listen_call muted mute_call clear_call clear_all_call reset_pairs_call reset_discovery_call reset_call step too_short measured too_long over polled poll poll_sync poll_waiting pairs.sweep pairs.swept packet_step data_step data_arrival pairs.check pairs.after_sweep pairs.admit pairs.stop pairs.source_stop pairs.listed pairs.full pairs.sequence_stop pairs.settle pairs.recorded if_accepted accepted unsynchronised release waiting.cleared discovery.swept listen_all illegal joined_by find store remove keep any encode records big_endian before_by
replied = refl
