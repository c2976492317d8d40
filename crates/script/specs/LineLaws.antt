-- Laws of lines gathered from chunks.
-- Assumes nothing.
use Rattle.std.specs.Prelude.{◌≡◌, refl, true, List, [], ◌∷◌, ◌++◌, ℕ, ◌+◌, ◌-◌, ◌≤◌, eqb, min, length, take, drop, get_or}
use Rattle.std.proofs.Common.{sym, ap, ◌∙◌, arith, length-append, length-drop, length-take-le}
use Rattle.std.proofs.Math.Seq.{take-append-add}
use Rattle.std.proofs.lemmas.List.{take_min}
use Rattle.std.proofs.lemmas.Slice.{take-put_mid}
use borrow.Rule.Slice.PartMut.{put_mid}
use Rattle.script.specs.Lines.{Appended, silent}

-- as much of the part as there is room for, laid behind the first n bytes
pub laid : (line : List ℕ) (n : ℕ) (part : List ℕ) (k : ℕ) (xs : List ℕ) → n ≤ length line → k ≡ min (length line - n) (length part) → xs ≡ take (n + k - n) part
    → Appended line n part (put_mid n (n + k - n) line xs) (n + k)
laid line n part k xs h m e =
    let d : n + k - n ≡ k = omega arith in
    let x : length xs ≡ k = rw (e, d) (length-take-le k part (omega arith)) in
    let a : length (take n line) ≡ n = length-take-le n line h in
    let t : take (n + k) (put_mid n (n + k - n) line xs) ≡ take n line ++ xs = take-put_mid n (n + k - n) line xs (n + k) (omega arith) h in
    let f : length line ≡ length (take n line) + (length line - n) = omega arith in
    let g : take (length line) (take n line ++ part) ≡ take n line ++ take (length line - n) part = ap (λ (i : ℕ). take i (take n line ++ part)) f ∙ take-append-add (take n line) part (length line - n) in
    let j : take k part ≡ take (length line - n) part = rw m (take_min (length line - n) part) in
    record {
      grown = omega arith;
      room = omega (arith, length-append (take n line) (xs ++ drop (n + k - n) (drop n line)), length-append xs (drop (n + k - n) (drop n line)), length-drop (n + k - n) (drop n line), length-drop n line);
      behind = t ∙ ap (λ (l : List ℕ). take n line ++ l) (e ∙ ap (λ (i : ℕ). take i part) d ∙ j) ∙ sym g;
    }

pub silent_none : (s : List ℕ) → length s ≡ 0 → silent s ≡ true
silent_none [] h = refl
silent_none (b ∷ s) h = absurd (omega arith)

pub silent_mark : (s : List ℕ) → (length s ≡ 0 → ⊥) → silent s ≡ eqb (get_or s 0 0) 35
silent_mark [] h = absurd (h refl)
silent_mark (b ∷ s) h = refl
