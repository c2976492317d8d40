-- The code's data as the definitions have them: the header, with the values that stand beside it.
-- Assumes nothing.
use Rattle.std.specs.Prelude.{List, ℕ}
use Rattle.merge.specs.declared.DmxData.{DmxData}
use Rattle.merge.specs.Merge.{Dmx}

abbrev pub dmx : DmxData → List ℕ → Dmx
dmx d xs = record { head = d; values = xs }
