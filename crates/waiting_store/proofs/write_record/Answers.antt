-- The parts are the record's; the CID's present byte and bytes go by the source.
-- Assumes nothing.
use mathlib.Core.Path.{◌≡◌, sym, ap, ◌∙◌}
use mathlib.Core.List.{List, ◌∷◌}
use Prim.Native.Nat.{ℕ, ◌<◌}
use native.Mathlib.Omega.{arith}
use lib.ListN.{length}
use Rattle.std.proofs.Common.{rules}
use Rattle.waiting.specs.Records.{owner}
use Rattle.waiting_store.specs.Written.{record_laid, spelled, two}
use Rattle.waiting_store.proofs.write_record.Goals.{in-Merged, in-Of}
use Rattle.waiting_store.proofs.write_record.Goals as goal

pub returns : goal.returns
returns c =
    let v = c.args in
    let p = c.match-d.present in
    let small : v.d.priority < 256 = search rules in
    let sixteen : length p.1 ≡ 16 = search rules in
    let from : owner v.d.src_cid ≡ p.0 ∷ p.1 = elim c.match-d.branch [
      | in-Merged w ↦ ap owner w.in-Merged.is ∙ (rw w.present-is)
      | in-Of w ↦ ap owner w.in-Of.is ∙ ap (λ (x : List ℕ). 1 ∷ x) (sym w.to_bytes.ensures) ∙ (rw w.present-is)
    ] in
    record_laid v.d p.0 p.1 v.values.now v.out.now c.paste.new.elements c.paste-2.new.elements c.paste-3.new.elements c.paste-4.new.elements c.paste-5.new.elements
    c.paste-6.new.elements c.paste-7.new.elements c.paste-8.new.elements v.at (omega (arith, c.requires)) sixteen small from
    c.paste.ensures (rw (c.to_be_bytes-2.ensures ∙ spelled 2 v.d.universe) at c.paste-2.ensures) (rw (c.to_be_bytes-3.ensures ∙ spelled 2 v.d.sync_uni) at c.paste-3.ensures)
    (rw c.from.ensures at c.paste-4.ensures) c.paste-5.ensures (rw (c.to_be_bytes-4.ensures ∙ spelled 8 v.d.recv_timestamp) at c.paste-6.ensures)
    (rw (two (length v.values.now)) (rw c.to_be_bytes.ensures at c.paste-7.ensures)) c.paste-8.ensures
