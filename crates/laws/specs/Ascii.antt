-- A text as its bytes.
-- Assumes nothing.
use Rattle.std.specs.Prelude.{◌≡◌, refl, List, ℕ}
use mathlib.Core.List as list
use Prim.Native.Char.{code}
use Prim.Native.String.{String, [], ◌∷◌}

abbrev pub ascii : String → List ℕ
ascii [] = list.[]
ascii (c ∷ s) = list.◌∷◌ (code c) (ascii s)

tried : ascii "a b" ≡ list.◌∷◌ 97 (list.◌∷◌ 32 (list.◌∷◌ 98 list.[]))
tried = refl
