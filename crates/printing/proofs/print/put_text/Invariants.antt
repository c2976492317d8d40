-- The bytes passed so far are told.
-- Assumes nothing.
use lib.ListN.{take}
use Rattle.printing.specs.Text.{Tells}
use Rattle.printing.proofs.print.put_text.Given as goal

abbrev pub invariant-loop-b : goal.invariant-loop-b
invariant-loop-b l = Tells (take l.b-index l.text) l.initial.out l.at l.out l.n
