-- Each word is that of eight bytes, which are the array's.
-- Assumes nothing.
use Rattle.std.proofs.Common.{◌≡◌, ℕ, List, [], ◌∷◌, length, get_or, drop, sym, ap, ◌∙◌, arith, length-drop, get_or-drop, take_all, rules}
use Rattle.rules.specs.Bytes.{number}
use Rattle.rules.proofs.BytesLaws.{eight, number_word}
use Rattle.rules.proofs.Cid.from_bytes.Goals as goal

-- the last eight of sixteen
low : (b : List ℕ) → length b ≡ 16
    → get_or b 8 0 ∷ get_or b 9 0 ∷ get_or b 10 0 ∷ get_or b 11 0 ∷ get_or b 12 0 ∷ get_or b 13 0 ∷ get_or b 14 0 ∷ get_or b 15 0 ∷ [] ≡ drop 8 b
low b l =
    let h : length (drop 8 b) ≡ 8 = omega (arith, length-drop 8 b) in
    let e = eight (drop 8 b) (omega arith) in
    sym (sym (take_all 8 (drop 8 b) (omega arith)) ∙ (simp get_or-drop at e))

pub returns : goal.returns
returns c =
    let b = c.args.b in
    let l : length b ≡ 16 = search rules in
    let e = c.from_be_bytes.ensures ∙ number_word _ _ _ _ _ _ _ _ ∙ ap number (sym (eight b (omega arith))) in
    let f = c.from_be_bytes-2.ensures ∙ number_word _ _ _ _ _ _ _ _ ∙ ap number (low b l) in
    λ i. record { hi = e i; lo = f i }
