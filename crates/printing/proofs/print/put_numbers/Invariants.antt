-- The numbers passed so far are told, each behind a comma.
-- Assumes nothing.
use lib.ListN.{take}
use Rattle.printing.specs.Text.{Tells, tail_text}
use Rattle.printing.proofs.print.put_numbers.Given as goal

abbrev pub invariant-loop-u : goal.invariant-loop-u
invariant-loop-u l = Tells (tail_text (take l.u-index l.list)) l.initial.out l.at l.out l.n
