-- Page rows and pool in a contract: each part is named once, as the call finds it and as it leaves it.
-- Assumes nothing.
use Rattle.std.specs.Prelude.{List, ℕ, take}
use Rattle.laws.specs.Lent.{Part}
use Rattle.discovery_rows.specs.Store.{Leaf}
use Rattle.discovery_rows.specs.Rows.{leaves}
use Rattle.discovery_pages.specs.Passes.{Packs}

-- the first count pages as the call finds them
abbrev pub leaves_before : ℕ → Part (List (List ℕ)) → Part (List ℕ) → List Leaf
leaves_before count pages universes = leaves (take count pages.entry.now) universes.entry.now

-- the call leaves count pages with so many universes: these
abbrev pub PacksIn : ℕ → ℕ → Part (List (List ℕ)) → Part (List ℕ) → List Leaf → Type 0
PacksIn count used pages universes ls = Packs count used universes.entry.now pages.exit.now universes.exit.now ls
