-- Computed examples of listening.
-- Assumes nothing.
use Rattle.std.specs.Prelude.{refl}
use Rattle.laws.specs.Table.{find, store}
use Rattle.model.specs.Step.{illegal, joined_by, listen_all}
use Rattle.model.specs.ListenExamples.{Pinned, from}

pinned : Pinned
unfolding find store illegal joined_by listen_all from
pinned = record {
  joins = refl;
  stops = refl;
  room = refl;
  no_room = refl;
  no_room_needed = refl;
}
