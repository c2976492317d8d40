-- What the receiver ensures, told over the boundary.
-- Assumes nothing.
use mathlib.Core.Path.{◌≡◌, subst}
use Rattle.model.specs.State.{listens}
use Rattle.receiver.specs.declared.Receiver.{Receiver}
use Rattle.receiver.specs.View.{with_listened_rows, state_of}
use Rattle.tamburelvi.proofs.tamburelvi_is_listening.Goals as goal

pub returns : goal.returns
returns c m =
    let v = c.args in
    subst (λ (x : Receiver). c.is_listening.result ≡ listens v.universe (state_of x (with_listened_rows v.heard.now m)).listened) c.receiver_of.ensures (c.is_listening.ensures m)
