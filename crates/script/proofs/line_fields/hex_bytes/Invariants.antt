-- What the digits that are left make of the bytes laid so far is what all make of none.
-- Assumes nothing.
use Rattle.std.proofs.Common.{◌≡◌, ◌*◌, length, take, drop, [], Some}
use Rattle.script.specs.Fields.{paired}
use Rattle.script.proofs.line_fields.hex_bytes.Given as goal

abbrev pub invariant-loop-n : goal.invariant-loop-n
invariant-loop-n l = (length l.out ≡ length l.initial.out) × (paired l.capitals (Some (take l.n l.out)) (drop (2 * l.n) l.field) ≡ paired l.capitals (Some []) l.field)
