-- The line is read and carried out.
-- Assumes nothing.
use native.Mathlib.Omega.{arith}
use Rattle.replay.proofs.run.take_line.Goals as goal

pub returns : goal.returns
returns c =
    let p = c.requires in let y = c.carry_line-after in let a = p.fit.store_room in let b = p.fit.pool_room in record { fit = record { kept = y.ensures.kept_on p.fit; store_room = omega (arith, y.auto.store); pool_room = omega (arith, y.auto.universes) }; ready = y.ensures.told.ready; unread = c.next_line-line.ensures.0 }
