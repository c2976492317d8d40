-- No row is in use.
-- Assumes nothing.
use mathlib.Core.Path.{refl}
use Rattle.laws.specs.Table.{any}
use native.Mathlib.Omega.{arith}
use Rattle.pair_rows.specs.View.{lower}
use Rattle.pair_tables.proofs.PairTable.new.Goals as goal

pub returns : goal.returns
unfolding any lower
returns c =
    record {
      is_empty = λ pairs sources. refl;
      notes_are = λ pairs sources. refl;
      kept = λ pairs sources p s. record {
        pairs_room = p;
        sources_room = s;
        count_fits = omega arith;
        source_count_fits = omega arith;
        ordered = record { pairs_ascend = tt; sources_ascend = tt; pairs_fit = omega arith; sources_fit = omega arith };
        none_older = refl;
        none_lonely = λ e. refl;
      };
    }
