-- A record byte by byte, as code writes and reads it: one law for each return of the writer and of the reader.
-- Assumes nothing.
use Rattle.std.specs.Prelude.{Bool, ◌&&◌, ℕ, leb}

-- ── a record read byte by byte ──
-- the five bytes that are 0 or 1
abbrev pub flags : ℕ → ℕ → ℕ → ℕ → ℕ → Bool
flags a b c d m = leb a 1 && (leb b 1 && (leb c 1 && (leb d 1 && leb m 1)))
