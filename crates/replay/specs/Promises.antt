-- The lent memory in a contract, where every part is lent shared: as a call finds it (`requires`), and at its entry and exit (`ensures`).
-- Assumes nothing.
use Rattle.std.specs.Prelude.{List, ℕ}
use Rattle.std.specs.Borrow.{Bor}
use Rattle.laws.specs.Lent.{SharedPart}
use Rattle.pair_rows.specs.View.{Rows}
use Rattle.receiver.specs.View.{Memory, memory}
use Rattle.receiver.specs.Promises.{Lent}

-- as a call finds it
abbrev pub shared_lent_in : Bor Rows → Bor Rows → Bor Rows → Bor Rows → Bor Rows → Bor (List ℕ) → Bor (List ℕ) → Bor Rows → Bor Rows → Bor Rows → Bor (List ℕ) → Memory
shared_lent_in dp ds sp ss rows store heard sources names pages universes =
    memory dp.now ds.now sp.now ss.now rows.now store.now heard.now sources.now names.now pages.now universes.now

-- at entry and at exit
abbrev pub shared_lent : SharedPart Rows → SharedPart Rows → SharedPart Rows → SharedPart Rows → SharedPart Rows → SharedPart (List ℕ) → SharedPart (List ℕ) → SharedPart Rows → SharedPart Rows → SharedPart Rows → SharedPart (List ℕ) → Lent
shared_lent dp ds sp ss rows store heard sources names pages universes = record {
  entry = shared_lent_in dp.entry ds.entry sp.entry ss.entry rows.entry store.entry heard.entry sources.entry names.entry pages.entry universes.entry;
  exit = shared_lent_in dp.exit ds.exit sp.exit ss.exit rows.exit store.exit heard.exit sources.exit names.exit pages.exit universes.exit;
}
