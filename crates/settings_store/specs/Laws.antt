-- Document 02, F-6: what is written reads back alike; what is read, written again, is what it was. By the facts on fields in general, for both layouts.
-- Assumes nothing.
use Rattle.std.specs.Prelude.{◌≤◌}
use Rattle.settings.specs.declared.Settings.{Settings}
use Rattle.settings_store.specs.Record.{limit_number}

-- a limit of 16 bits, as its type says
abbrev pub Narrow : Settings → Type 0
Narrow s = limit_number s.source_limit ≤ 65535
