-- A layout that the code found, as the definitions have it.
-- Assumes nothing.
use Rattle.std.proofs.Math.Option.{Option, none, some}
use Rattle.std.specs.Prelude.{List}
use Rattle.std.specs.Prelude as std
use Rattle.fields.specs.Fields.{Field}
use Rattle.settings_store.specs.Record.{layout_1, layout_2}
use Rattle.settings_calls.specs.declared.Layout.{Layout}
use Rattle.settings_calls.specs.declared.Layout.TheVariants.{One, Two}

abbrev pub layout_fields : std.Option Layout → Option (List Field)
layout_fields std.None = none
layout_fields (std.Some One) = some layout_1
layout_fields (std.Some Two) = some layout_2
