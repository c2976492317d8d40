-- Lines gathered from chunks.
-- Assumes nothing.
use Rattle.std.specs.Prelude.{◌≡◌, Bool, true, cond, ◌||◌, List, [], ◌∷◌, ◌++◌, ℕ, ◌-◌, ◌≤◌, ltb, eqb, length, take, drop, get_or}
use Rattle.script.specs.declared.lines.Line.{Line}
use Rattle.script.specs.Fields.{ending}

-- the bytes from one place of a chunk to another
pub record Unread (at end : ℕ) (chunk : List ℕ) : Type 0 where
  pub begins : at ≤ end
  pub ends : end ≤ length chunk

-- the part is put behind the first n bytes of the line, as far as there is room
pub record Appended (line : List ℕ) (n : ℕ) (part line' : List ℕ) (r : ℕ) : Type 0 where
  pub grown : n ≤ r
  pub room : r ≤ length line'
  pub behind : take r line' ≡ take (length line) (take n line ++ part)

-- the bytes of a chunk between two places
abbrev pub between : ℕ → ℕ → List ℕ → List ℕ
between at end chunk = take (end - at) (drop at chunk)

-- the bytes up to the line's end, in what is left of the chunk
abbrev pub piece : Line → List ℕ → List ℕ
piece line chunk = take (ending 10 (between line.input.at line.input.end chunk)) (between line.input.at line.input.end chunk)

-- the line's end stands in what is left of the chunk
abbrev pub ended_in : Line → List ℕ → Bool
ended_in line chunk = ltb (ending 10 (between line.input.at line.input.end chunk)) (length (between line.input.at line.input.end chunk))

-- a line with the chunk's bytes up to the line's end or the chunk's
pub record Pieced (line : Line) (chunk text : List ℕ) (r : Line) (text' : List ℕ) : Type 0 where
  pub left : Unread r.input.at r.input.end chunk
  pub put_behind : Appended text line.length (piece line chunk) text' r.length
  pub whole : r.over ≡ ended_in line chunk
  pub cut : r.long ≡ (line.long || ltb (r.length - line.length) (length (piece line chunk)))

-- a line that ends in carriage return and line feed is read like any other
unfoldable pub unreturned : List ℕ → List ℕ
unreturned s = cond (eqb (get_or s (length s - 1) 0) 13) (take (length s - 1) s) s

-- "Empty lines and lines that begin with `#` are passed over and print nothing."
abbrev pub silent : List ℕ → Bool
silent [] = true
silent (b ∷ s) = eqb b 35
