-- Numbers before the place lie at the front; the rest is still to be read.
-- Assumes nothing.
use Rattle.std.proofs.Common.{◌≡◌, ◌≤◌, length}
use Rattle.script.specs.FieldLaws.{Turn}
use Rattle.script.proofs.line_fields.parse_numbers.Given as goal

abbrev pub invariant-loop-n : goal.invariant-loop-n
invariant-loop-n l = (length l.out ≡ length l.initial.out) × (length l.rest ≤ length l.field) × Turn l.field l.rest l.out l.n
