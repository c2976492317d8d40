-- A source's CID: 16 bytes, held as two words, most significant first.
-- Assumes nothing.
use Rattle.std.specs.Prelude.{◌≡◌, ℕ, ◌^◌, ◌<◌, Bool, true, ◌&&◌, List, ◌++◌, length, take, drop, ◌==◌, nat_lt}
use Rattle.laws.specs.Order.{before_by}
use Rattle.rules.specs.declared.Cid.{Cid}
use Rattle.rules.specs.Bytes.{number, big_endian, Bytes}

-- "A source is a 16-byte CID."
abbrev pub cid_of : List ℕ → Cid
cid_of bytes = record { hi = number (take 8 bytes); lo = number (drop 8 bytes) }

abbrev pub cid_bytes : Cid → List ℕ
cid_bytes c = big_endian 8 c.hi ++ big_endian 8 c.lo

-- the same source
abbrev pub same : Cid → Cid → Bool
same a b = a.hi == b.hi && a.lo == b.lo

-- "ascending CID bytes": by the first word, then by the second (law before_bytes)
abbrev pub before : Cid → Cid → Bool
before a b = before_by nat_lt nat_lt (λ (c : Cid). c.hi) (λ (c : Cid). c.lo) a b

-- ── CIDs and their bytes ──
-- Document 02, F-5: "Compare two CIDs as two eight-byte words, most significant first .. Equality and order of CIDs keep their meaning":
-- that of their sixteen bytes. `from_bytes` returns `cid_of`, `to_bytes` returns `cid_bytes`.

-- a test that holds exactly when something is so
abbrev pub Exactly : Bool → Type 0 → Type 0
Exactly test so = (test ≡ true → so) × (so → test ≡ true)

-- sixteen bytes
abbrev pub Sixteen : List ℕ → Type 0
Sixteen s = (length s ≡ 16) × Bytes s

-- words of 64 bits
abbrev pub Words : Cid → Type 0
Words c = (c.hi < 2 ^ 64) × (c.lo < 2 ^ 64)
