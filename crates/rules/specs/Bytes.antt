-- Numbers as bytes, most significant first ('big-endian' in document 01), and the order of byte strings.
-- Assumes nothing.
use Rattle.std.specs.Prelude.{ℕ, zero, suc, ◌+◌, ◌*◌, ◌/◌, ◌%◌, ◌^◌, ◌<◌, Bool, true, false, cond, List, [], ◌∷◌, reverse, length, nat_lt}

-- the number that the bytes spell
unfoldable pub number : List ℕ → ℕ
number [] = 0
number (b ∷ bs) = b * 256 ^ length bs + number bs

-- the last n bytes of a number
unfoldable pub big_endian : ℕ → ℕ → List ℕ
big_endian zero w = []
big_endian (suc n) w = w / 256 ^ n % 256 ∷ big_endian n w

-- a flag as a number
abbrev pub bit : Bool → ℕ
bit true = 1
bit false = 0

-- a word of eight bytes with its bytes the other way round
abbrev pub turned_of : ℕ → ℕ
turned_of w = number (reverse (big_endian 8 w))

-- each is a byte
abbrev pub Bytes : List ℕ → Type 0
Bytes [] = Unit {0}
Bytes (b ∷ bs) = (b < 256) × Bytes bs

-- the order of byte strings: the first place where they differ decides, and a string stands before its continuations
unfoldable pub bytes_before : List ℕ → List ℕ → Bool
bytes_before [] [] = false
bytes_before [] (b ∷ t) = true
bytes_before (a ∷ s) [] = false
bytes_before (a ∷ s) (b ∷ t) = cond (nat_lt a b) true (cond (nat_lt b a) false (bytes_before s t))
