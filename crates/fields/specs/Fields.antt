-- Fields one after the other, for any list of them: each is a number of so many bytes, most significant first, and has a test that its value passes.
-- Document 02, F-6: "The facts on fields are shown for a field list in general, then used for both layouts."
-- Assumes nothing.
use Rattle.std.specs.Prelude.{◌≡◌, Bool, true, cond, List, [], ◌∷◌, ◌++◌, ℕ, ◌+◌, ◌^◌, ◌<◌, ltb, take, drop}
use Rattle.std.proofs.Math.ListN.{length}
use Rattle.rules.specs.Bytes.{number, big_endian}

pub record Field : Type 0 where
  -- how many bytes it takes
  pub width : ℕ
  -- which values it may have
  pub allows : ℕ → Bool

-- how many bytes the fields take
unfoldable pub size : List Field → ℕ
size [] = 0
size (f ∷ fs) = f.width + size fs

-- a value for each field, which it allows and its bytes hold
abbrev pub Fit : List Field → List ℕ → Type 0
Fit [] [] = Unit {0}
Fit [] (v ∷ vs) = ⊥
Fit (f ∷ fs) [] = ⊥
Fit (f ∷ fs) (v ∷ vs) = (f.allows v ≡ true) × (v < 256 ^ f.width) × Fit fs vs

-- the values as bytes
unfoldable pub encode : List Field → List ℕ → List ℕ
encode [] vs = []
encode (f ∷ fs) [] = []
encode (f ∷ fs) (v ∷ vs) = big_endian f.width v ++ encode fs vs

-- what decoding gives: a value for each field, or the first fault from left to right
pub data Decoded : Type 0 where
  values : List ℕ → Decoded
  -- a field passes the end
  short : Decoded
  -- a field does not allow its value
  out_of_range : Decoded

abbrev pub with_value : ℕ → Decoded → Decoded
with_value v (values vs) = values (v ∷ vs)
with_value v short = short
with_value v out_of_range = out_of_range

unfoldable pub decode : List Field → List ℕ → Decoded
decode [] bs = values []
decode (f ∷ fs) bs =
    let v = number (take f.width bs) in
    cond (ltb (length bs) f.width) short
    (cond (f.allows v) (with_value v (decode fs (drop f.width bs))) out_of_range)

-- values in front of what the fields behind them give
abbrev pub joined : Decoded → Decoded → Decoded
joined (values []) d = d
joined (values (v ∷ vs)) d = with_value v (joined (values vs) d)
joined short d = short
joined out_of_range d = out_of_range
