-- Two digits more.
-- Assumes nothing.
use Rattle.std.proofs.Common.{◌≡◌, sym, ap, subst, ◌∙◌, arith, ◌+◌, ◌*◌, ◌/◌, ℕ, List, length, length-set, take, drop, Some}
use Rattle.script.specs.Fields.{paired, hex_of, Decoded}
use Rattle.script.specs.FieldLaws.{paired_none, paired_turn, paired_ends, hex_room, hex_short, hex_odd, decoded_front, decoded_bad, front_more}
use Rattle.script.proofs.line_fields.hex_bytes.Goals.{then-out-count-via-then-out-count, then-out-count-via-else-out-count+then-field-ne0}
use Rattle.script.proofs.line_fields.hex_bytes.Goals as goal

pub returns-then-out-count : goal.returns-then-out-count
returns-then-out-count c =
    let v = c.args in
    decoded_bad (hex_of v.capitals (length v.out.now) v.field.now) v.out.now
    (elim c.then-out-count.branch [
      | then-out-count-via-then-out-count w ↦ hex_short v.capitals (length v.out.now) v.field.now w.if-out-count.true
      | then-out-count-via-else-out-count+then-field-ne0 w ↦ hex_odd v.capitals (length v.out.now) v.field.now w.if-field-ne0.true
    ])

pub returns-in_err-out : goal.returns-in_err-out
returns-in_err-out c =
    let v = c.args in
    let s = v.field.now in
    let l = c.loop-n in
    let e = paired_turn v.capitals s l.n (take l.n l.out) (omega arith) (sym c.in_err-out.was ∙ c.two_digits.ensures) c.lower-high.ensures c.lower-low.ensures in
    rw c.from_residual.ensures
    (decoded_bad (hex_of v.capitals (length v.out.now) s) l.out
    (hex_room v.capitals (length v.out.now) s c.if-out-count.false ∙ sym l.invariant.1 ∙ e ∙ paired_none v.capitals (drop (2 * (l.n + 1)) s)))

pub loop-n-preserved : goal.loop-n-preserved
loop-n-preserved c =
    let v = c.args in
    let s = v.field.now in
    let l = c.loop-n in
    let e = paired_turn v.capitals s l.n (take l.n l.out) (omega arith) (sym c.in_ok-out.was ∙ c.two_digits.ensures) c.lower-high.ensures c.lower-low.ensures in
    let m = front_more l.out l.n c.in_ok-out.field-0 (omega arith) in
    (simp length-set l.invariant.0, ap (λ (t : List ℕ). paired v.capitals (Some t) (drop (2 * (l.n + 1)) s)) m ∙ sym e ∙ l.invariant.1)

pub returns : goal.returns
returns c =
    let v = c.args in
    let s = v.field.now in
    let l = c.loop-n in
    let n : l.n ≡ length s / 2 = omega arith in
    let p = paired_ends v.capitals s (2 * l.n) (Some (take l.n l.out)) (omega arith) in
    subst (λ (k : ℕ). Decoded (hex_of v.capitals (length v.out.now) s) (Some k) l.out) n
    (decoded_front (hex_of v.capitals (length v.out.now) s) l.n l.out (omega arith)
    (hex_room v.capitals (length v.out.now) s c.if-out-count.false ∙ sym l.invariant.1 ∙ p))
