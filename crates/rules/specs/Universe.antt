-- Document 01, 'Number rules': which universes are legal.
-- Assumes nothing.
use Rattle.std.specs.Prelude.{ℕ, Bool, true, false, cond, ◌==◌, nat_le}

-- "0 is illegal, 1 to 63999 legal, 64000 to 64213 illegal, 64214 legal, anything larger illegal" (E1.31 9.1.1; 64214 is the discovery universe)
abbrev pub legal : ℕ → Bool
legal u =
    cond (u == 0) false
    (cond (nat_le u 63999) true
    (cond (nat_le u 64213) false
    (cond (u == 64214) true
    false)))
