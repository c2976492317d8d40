-- Texts of the values that are printed, and the buffer that they gather in.
-- Assumes nothing.
use Rattle.std.specs.Prelude.{◌≡◌, Bool, true, false, not, cond, List, [], ◌∷◌, ◌++◌, ℕ, zero, suc, ◌+◌, ◌-◌, ◌/◌, ◌%◌, ◌<◌, ltb, eqb, ℤ, pos, negsuc, length, take, get_or}
use Rattle.io.specs.Digits.{last_digits, hex_digit_ascii}
use Rattle.rules.specs.declared.Cid.{Cid}
use Rattle.rules.specs.Cid.{cid_bytes}

-- how many decimal digits a number has, if it has no more than the first argument and one
unfoldable pub places : ℕ → ℕ → ℕ
places zero n = 1
places (suc f) n = cond (ltb n 10) 1 (suc (places f (n / 10)))

-- a number below 10 ^ 21
abbrev pub decimal_of : ℕ → List ℕ
decimal_of n = last_digits 10 (places 20 n) n

abbrev pub signed_of : ℤ → List ℕ
signed_of (pos n) = decimal_of n
signed_of (negsuc n) = 45 ∷ decimal_of (suc n)

abbrev pub bit_of : Bool → List ℕ
bit_of true = 49 ∷ []
bit_of false = 48 ∷ []

unfoldable pub hex_text : List ℕ → List ℕ
hex_text [] = []
hex_text (b ∷ s) = hex_digit_ascii (b / 16) ∷ hex_digit_ascii (b % 16) ∷ hex_text s

abbrev pub cid_text : Cid → List ℕ
cid_text c = hex_text (cid_bytes c)

-- lowercase hexadecimal, or `-` when empty
abbrev pub byte_text : List ℕ → List ℕ
byte_text [] = 45 ∷ []
byte_text (b ∷ s) = hex_text (b ∷ s)

-- numbers behind a first one
unfoldable pub tail_text : List ℕ → List ℕ
tail_text [] = []
tail_text (u ∷ us) = 44 ∷ decimal_of u ++ tail_text us

-- separated by commas, or `-` when empty
abbrev pub list_text : List ℕ → List ℕ
list_text [] = 45 ∷ []
list_text (u ∷ us) = decimal_of u ++ tail_text us

-- ── the buffer ──
-- a buffer whose first bytes are still to be written out; its last byte is kept for a mark
pub record Ready (at : ℕ) (out : List ℕ) : Type 0 where
  pub ready_within : at < length out
  pub ready_some : 1 < length out

-- a write has failed
abbrev pub marked : List ℕ → Bool
marked out = not (eqb (get_or out (length out - 1) 0) 0)

-- The text is put behind what the buffer holds. What was handed to standard output on the way and what the buffer holds now are, in this order, what
-- it held and the text; as long as there is room, nothing is handed over.
pub record Tells (text out : List ℕ) (at : ℕ) (out' : List ℕ) (r : ℕ) : Type 0 where
  pub ready : Ready r out'
  pub as_long : length out' ≡ length out
  pub gone : List ℕ
  pub told : take at out ++ text ≡ gone ++ take r out'
  pub held : at + length text < length out → gone ≡ []
