-- Document 02, F-3, "Sources that stay on the list": the discovery sweep goes by the setting, nothing else does, and by a setting of 2,500 the sweep is what it was.
-- Assumes nothing.
use Rattle.std.specs.Prelude.{List, [], ◌∷◌, ℕ}
use Rattle.std.proofs.Math.Option.{some, none}
use Rattle.rules.specs.Age.{data_loss}
use Rattle.settings.specs.declared.Settings.{Settings}
use Rattle.discovery.specs.Discovery as discovery
use Rattle.model.specs.declared.ExpiryAnswer.{ExpiryAnswer}
use Rattle.model.specs.declared.ExpiryAnswer.TheVariants as expiry
use Rattle.model.specs.Packet.{discovery_packet}
use Rattle.model.specs.State.{State}
use Rattle.model.specs.Step.{short, page_bytes, with_discovered}
use Rattle.model.specs.Examples.{enough}
use Rattle.model.specs.Calls.{Call, on_packet, on_expiry}

-- ── the sweep as it was ──
-- document 01: "The discovery sweep (`remove_expired_sources`) drops entries of age 2,500 or more and runs only when called."
unfoldable pub was_expiry_call : ℕ → ℕ → State → State × ExpiryAnswer
was_expiry_call room now s = elim (short page_bytes room) [
  | some n ↦ (s, expiry.TooShort n)
  | none ↦ (with_discovered (discovery.swept data_loss now s.discovered) s, expiry.Swept)
]

-- ── "the standard has sources announce every 10 seconds" ──
-- a source of one page, heard every 10,000 ms and swept 9,999 ms after each
abbrev page : discovery.Announcement
page = record { cid = record { hi = 0; lo = 1 }; name = []; page = 0; last_page = 0; universes = 1 ∷ [] }

abbrev pub heard_every_10000 : Settings → List Call
heard_every_10000 S =
    on_packet enough S 0 (discovery_packet page)
    ∷ on_expiry 65536 S 9999
    ∷ on_packet enough S 10000 (discovery_packet page)
    ∷ on_expiry 65536 S 19999
    ∷ on_packet enough S 20000 (discovery_packet page)
    ∷ on_expiry 65536 S 29999
    ∷ []
