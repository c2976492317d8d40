-- The digits of the bytes passed so far are told.
-- Assumes nothing.
use lib.ListN.{take}
use Rattle.printing.specs.Text.{Tells, hex_text}
use Rattle.printing.proofs.print.put_hex.Given as goal

abbrev pub invariant-loop-b : goal.invariant-loop-b
invariant-loop-b l = Tells (hex_text (take l.b-index l.bytes)) l.initial.out l.at l.out l.n
