-- Document 01, 'Released bytes'.
-- Assumes nothing.
use Rattle.std.specs.Prelude.{List, [], ◌∷◌, ◌++◌, ℕ, length, drop, replicate}
use Rattle.rules.specs.Bytes.{big_endian, bit}
use Rattle.rules.specs.Cid.{cid_bytes}
use Rattle.merge.specs.declared.SourceCid.{SourceCid}
use Rattle.merge.specs.declared.SourceCid.TheVariants.{Merged, Of}
use Rattle.merge.specs.Merge.{Dmx}

-- "CID present 1, CID 16 (zeros if none)"
abbrev pub owner : SourceCid → List ℕ
owner Merged = 0 ∷ replicate 16 0
owner (Of c) = 1 ∷ cid_bytes c

-- "mark 55 44 (hexadecimal), universe 2, address 2, priority 1, preview 1, CID present 1, CID 16, reading 8, value count 2, values; big-endian"
unfoldable pub encode : Dmx → List ℕ
encode d =
    0x55 ∷ 0x44 ∷ []
    ++ big_endian 2 d.head.universe
    ++ big_endian 2 d.head.sync_uni
    ++ big_endian 1 d.head.priority
    ++ (bit d.head.preview ∷ [])
    ++ owner d.head.src_cid
    ++ big_endian 8 d.head.recv_timestamp
    ++ big_endian 2 (length d.values)
    ++ d.values

-- the records of a release, one after the other
unfoldable pub records : List Dmx → List ℕ
records [] = []
records (d ∷ ds) = encode d ++ records ds

-- "Output past the last record is unchanged."
abbrev pub over : List ℕ → List ℕ → List ℕ
over bytes out = bytes ++ drop (length bytes) out

-- what a step may need: 64 records of 35 bytes and 513 values each
abbrev pub most_bytes : ℕ
most_bytes = 35072
