-- Document 01, 'Trial values', those marked *: one table, and one computed check over it.
-- Assumes nothing.
use Rattle.std.specs.Prelude.{◌≡◌, refl, true}
use Rattle.merge.specs.Merge.{htp_merge, mergeable, same_start, joined, blended, highest}
use Rattle.merge.specs.Trials.{all, equal_values, equal_z, holds, merged_values, sequence_told, trials}

pub trial_values : all trials ≡ true
unfolding equal_z equal_values merged_values htp_merge mergeable same_start joined blended highest sequence_told holds all trials
trial_values = refl
