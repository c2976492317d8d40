-- The call, then the line of its answer.
-- Assumes nothing.
use mathlib.Core.Path.{refl, subst}
use mathlib.Core.List.{List}
use Prim.Native.Nat.{ℕ}
use Rattle.model.specs.Answer.{listen_number, listen_values}
use Rattle.model.specs.Calls.{listen_call}
use Rattle.receiver.specs.View.{with_listened_rows, Does}
use Rattle.replay.specs.SessionLaws.{carries_call}
use Rattle.replay.proofs.calls.listen.Goals as goal

pub returns : goal.returns
returns c =
    λ m.
    let v = c.args in
    let l = c.listen_universes-a in
    let d = subst (λ (us : List ℕ). Does (listen_call us) listen_number v.session.receiver (with_listened_rows v.heard.now m) l.result.left (with_listened_rows l.new.heard m) l.result.answer) c.front.ensures (l.ensures m) in
    carries_call listen_values d refl c.put_listen-at.ensures
