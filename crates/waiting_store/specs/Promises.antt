-- Lent rows and a lent store in a contract: the entries in them, and what a call makes of them.
-- Assumes nothing.
use Rattle.std.specs.Prelude.{List, ℕ}
use Rattle.laws.specs.Lent.{Part}
use Rattle.merge.specs.Merge.{Dmx}
use Rattle.waiting_store.specs.Entries.{entries, waiting_of}
use Rattle.waiting_store.specs.Posts.{Changed, Held}

-- all entries as the call finds them
abbrev pub entries_before : Part (List (List ℕ)) → Part (List ℕ) → List Dmx
entries_before rows store = entries rows.entry.now store.entry.now

-- what waits as the call finds it: the first n entries
abbrev pub waiting_before : ℕ → Part (List (List ℕ)) → Part (List ℕ) → List Dmx
waiting_before n rows store = waiting_of n rows.entry.now store.entry.now

-- the entries become ds
abbrev pub Become : Part (List (List ℕ)) → Part (List ℕ) → List Dmx → Type 0
Become rows store ds = Changed rows.entry.now store.entry.now rows.exit.now store.exit.now ds

-- the first n become ds
abbrev pub FirstBecome : Part (List (List ℕ)) → Part (List ℕ) → ℕ → List Dmx → Type 0
FirstBecome rows store n ds = Held rows.entry.now store.entry.now rows.exit.now store.exit.now n ds
