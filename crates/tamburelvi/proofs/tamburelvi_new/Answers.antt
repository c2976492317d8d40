-- What the receiver ensures, told over the boundary.
-- Assumes nothing.
use Rattle.tamburelvi.specs.Laws.{begun}
use Rattle.tamburelvi.proofs.tamburelvi_new.Goals as goal

pub returns : goal.returns
returns c m = begun _ _ _ (c.new.ensures m) c.header_of.ensures
