-- How a field of a script's line is read.
-- Assumes nothing.
use Rattle.std.specs.Prelude.{◌≡◌, bytes_eq, Option, Some, None, Bool, true, false, cond, not, List, [], ◌∷◌, ◌++◌, ℕ, ◌+◌, ◌*◌, ◌-◌, ◌/◌, ◌%◌, ◌≤◌, ltb, leb, eqb, length, take}
use Rattle.std.specs.List.{prefix_len}
use Rattle.rules.specs.declared.Cid.{Cid}
use Rattle.rules.specs.Cid.{cid_of}

-- the same bytes
abbrev pub eql : List ℕ → List ℕ → Bool
eql = bytes_eq

-- how many bytes stand before the first mark
abbrev pub ending : ℕ → List ℕ → ℕ
ending mark s = prefix_len (λ b. not (eqb b mark)) s

-- the end of the first field. The second part follows from the others; it is what a part of the text is asked for.
pub record Ends (mark : ℕ) (s : List ℕ) (e : ℕ) : Type 0 where
  pub ends_within : e ≤ length s
  pub ends_counts : e ≡ length (take e s)
  pub ends_at : e ≡ ending mark s

-- ── decimal numbers ──
abbrev pub digit : ℕ → Bool
digit b = cond (ltb b 48) false (leb b 57)

abbrev pub within : ℕ → ℕ → Option ℕ
within most n = cond (leb n most) (Some n) None

abbrev pub with_digit : ℕ → ℕ → ℕ → Option ℕ
with_digit most n b = cond (digit b) (within most (n * 10 + (b - 48))) None

abbrev pub onward : ℕ → Option ℕ → ℕ → Option ℕ
onward most (Some n) b = with_digit most n b
onward most None b = None

-- digit by digit, as long as the number stays within the limit
unfoldable pub spelt : ℕ → Option ℕ → List ℕ → Option ℕ
spelt most n [] = n
spelt most n (b ∷ s) = spelt most (onward most n b) s

abbrev pub number_of : ℕ → List ℕ → Option ℕ
number_of most [] = None
number_of most (b ∷ s) = spelt most (Some 0) (b ∷ s)

-- a number of 16 bits, and one of 8
abbrev pub small_of : List ℕ → Option ℕ
small_of s = number_of 65535 s

abbrev pub octet_of : List ℕ → Option ℕ
octet_of s = number_of 255 s

-- a sum of 128, 64 and 32
abbrev pub options_of : Option ℕ → Option ℕ
options_of (Some n) = cond (eqb (n % 32) 0) (Some n) None
options_of None = None

-- "0" or "1"
abbrev pub flag_of : List ℕ → Option Bool
flag_of s = cond (eql s (48 ∷ [])) (Some false) (cond (eql s (49 ∷ [])) (Some true) None)

-- ── hexadecimal digits ──
-- the value of a digit in small letters
abbrev pub nibble_of : ℕ → Option ℕ
nibble_of b = cond (ltb b 48) None (cond (leb b 57) (Some (b - 48)) (cond (ltb b 97) None (cond (leb b 102) (Some (b - 87)) None)))

-- capital letters are taken as small ones where the flag says so
abbrev pub lowered : Bool → ℕ → ℕ
lowered true b = cond (ltb b 65) b (cond (ltb 70 b) b (b + 32))
lowered false b = b

abbrev pub nibbles : Option ℕ → Option ℕ → Option ℕ
nibbles (Some h) (Some l) = Some (h * 16 + l)
nibbles (Some h) None = None
nibbles None l = None

abbrev pub two_digits : ℕ → ℕ → Option ℕ
two_digits a b = nibbles (nibble_of a) (nibble_of b)

abbrev pub added : Option (List ℕ) → Option ℕ → Option (List ℕ)
added None o = None
added (Some l) (Some b) = Some (l ++ b ∷ [])
added (Some l) None = None

-- two digits to a byte, behind the bytes that are known
unfoldable pub paired : Bool → Option (List ℕ) → List ℕ → Option (List ℕ)
paired caps o [] = o
paired caps o (a ∷ []) = None
paired caps o (a ∷ b ∷ s) = paired caps (added o (two_digits (lowered caps a) (lowered caps b))) s

abbrev pub hex_of : Bool → ℕ → List ℕ → Option (List ℕ)
hex_of caps room s = cond (ltb room (length s / 2)) None (paired caps (Some []) s)

-- "A byte string is lowercase hexadecimal, or `-` when empty."
abbrev pub byte_string_of : ℕ → List ℕ → Option (List ℕ)
byte_string_of room [] = None
byte_string_of room (b ∷ s) = cond (eql (b ∷ s) (45 ∷ [])) (Some []) (hex_of false room (b ∷ s))

-- "A CID is 32 hexadecimal digits."
abbrev pub to_source : Option (List ℕ) → Option Cid
to_source None = None
to_source (Some l) = cond (eqb (length l) 16) (Some (cid_of l)) None

abbrev pub source_of : List ℕ → Option Cid
source_of s = to_source (hex_of true 16 s)

-- ── lists ──
abbrev pub onto : ℕ → List (List ℕ) → List (List ℕ)
onto b [] = (b ∷ []) ∷ []
onto b (f ∷ fs) = (b ∷ f) ∷ fs

-- what stands between the marks
unfoldable pub split : ℕ → List ℕ → List (List ℕ)
split mark [] = [] ∷ []
split mark (b ∷ s) = cond (eqb b mark) ([] ∷ split mark s) (onto b (split mark s))

abbrev pub listed : Option (List ℕ) → Option ℕ → Option (List ℕ)
listed None u = None
listed (Some l) (Some u) = Some (l ++ u ∷ [])
listed (Some l) None = None

-- each field as a number, behind the numbers that are known
unfoldable pub numbers : Option (List ℕ) → List (List ℕ) → Option (List ℕ)
numbers o [] = o
numbers o (f ∷ fs) = numbers (listed o (small_of f)) fs

abbrev pub fitting : ℕ → List (List ℕ) → Option (List ℕ)
fitting room fs = cond (ltb room (length fs)) None (numbers (Some []) fs)

-- "A list of numbers is separated by commas, or `-` when empty."
abbrev pub list_of : ℕ → List ℕ → Option (List ℕ)
list_of room s = cond (eql s (45 ∷ [])) (Some []) (fitting room (split 44 s))

-- what was read lies at the front of the lent memory
abbrev pub Decoded : Option (List ℕ) → Option ℕ → List ℕ → Type 0
Decoded None r out = r ≡ None
Decoded (Some l) r out = (r ≡ Some (length l)) × (take (length l) out ≡ l)
