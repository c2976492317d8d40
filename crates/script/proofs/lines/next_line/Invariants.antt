-- Each piece keeps what the next one asks.
-- Assumes nothing.
use Rattle.std.proofs.Common.{◌≡◌, ◌≤◌, length}
use Rattle.script.specs.Lines.{Unread}
use Rattle.script.proofs.lines.next_line.Given as goal

abbrev pub invariant-loop : goal.invariant-loop
invariant-loop l = (length l.chunk ≡ length l.initial.chunk) × (length l.text ≡ length l.initial.text) × Unread l.line.input.at l.line.input.end l.chunk × (l.line.length ≤ length l.text)
