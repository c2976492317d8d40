-- Document 01, 'Released bytes'.
-- Assumes nothing.
use Rattle.std.specs.Prelude.{◌≡◌, refl, false, [], ◌∷◌}
use Rattle.rules.specs.Bytes.{big_endian}
use Rattle.merge.specs.declared.SourceCid.TheVariants.{Of}
use Rattle.waiting.specs.Records.{encode}

-- document 01's printed example: universe 1, address 0, priority 100, no preview, CID 16 bytes of 11, reading 1,000, values 0, 255
pub printed_example :
    encode (record {
      head = record {
        universe = 1;
        sync_uni = 0;
        priority = 100;
        src_cid = Of (record { hi = 0x1111111111111111; lo = 0x1111111111111111 });
        preview = false;
        recv_timestamp = 1000;
      };
      values = 0 ∷ 255 ∷ [];
    })
    ≡ 0x55 ∷ 0x44 ∷ 0x00 ∷ 0x01 ∷ 0x00 ∷ 0x00 ∷ 0x64 ∷ 0x00 ∷ 0x01
    ∷ 0x11 ∷ 0x11 ∷ 0x11 ∷ 0x11 ∷ 0x11 ∷ 0x11 ∷ 0x11 ∷ 0x11 ∷ 0x11 ∷ 0x11 ∷ 0x11 ∷ 0x11 ∷ 0x11 ∷ 0x11 ∷ 0x11 ∷ 0x11
    ∷ 0x00 ∷ 0x00 ∷ 0x00 ∷ 0x00 ∷ 0x00 ∷ 0x00 ∷ 0x03 ∷ 0xE8 ∷ 0x00 ∷ 0x02 ∷ 0x00 ∷ 0xFF ∷ []
unfolding encode big_endian
printed_example = refl
