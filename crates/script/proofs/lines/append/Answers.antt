-- What there is room for.
-- Assumes nothing.
use Rattle.script.specs.LineLaws.{laid}
use Rattle.script.proofs.lines.append.Goals as goal

pub returns : goal.returns
returns c = laid c.args.line.now c.args.n c.args.part.now c.min.result c.copy_from_slice.new.self c.requires c.min.ensures c.copy_from_slice.ensures.after
