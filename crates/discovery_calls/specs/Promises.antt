-- Discovery's lent memory in a contract: sources, names, pages and pool are named once, as the call finds them and as it leaves them.
-- Assumes nothing.
use Rattle.std.specs.Prelude.{List, ℕ}
use denote.Triple.Both.{Both}
use Rattle.laws.specs.declared.After.{After}
use Rattle.laws.specs.Lent.{Part, SharedPart}
use Rattle.rules.specs.declared.Cid.{Cid}
use Rattle.discovery.specs.declared.PageAnswer.{PageAnswer}
use Rattle.discovery.specs.declared.PageCall.{PageCall}
use Rattle.discovery.specs.Discovery.{Discovered, Announcement}
use Rattle.discovery_calls.specs.declared.Discovery.{Discovery}
use Rattle.discovery_calls.specs.declared.Page.{Page}
use Rattle.discovery_calls.specs.View.{discovered_of, Holds, Dropped}
use Rattle.discovery_calls.specs.Arrive.{Took, Arrival, Called}

pub record Memory : Type 0 where
  pub sources : List (List ℕ)
  pub names : List (List ℕ)
  pub pages : List (List ℕ)
  pub universes : List ℕ

abbrev pub memory : List (List ℕ) → List (List ℕ) → List (List ℕ) → List ℕ → Memory
memory sources names pages universes = record { sources = sources; names = names; pages = pages; universes = universes }

-- what a part holds before and after the call: one lent to be changed, and one lent shared
abbrev pub changed : {X : Type 0} → Part X → Both X X
changed x = record { entry = x.entry.now; exit = x.exit.now }

abbrev pub read : {X : Type 0} → SharedPart X → Both X X
read x = record { entry = x.entry.now; exit = x.exit.now }

abbrev pub memories : Both (List (List ℕ)) (List (List ℕ)) → Both (List (List ℕ)) (List (List ℕ)) → Both (List (List ℕ)) (List (List ℕ)) → Both (List ℕ) (List ℕ) → Both Memory Memory
memories sources names pages universes = record {
  entry = memory sources.entry names.entry pages.entry universes.entry;
  exit = memory sources.exit names.exit pages.exit universes.exit;
}

-- before and after the call
abbrev pub lent : Part (List (List ℕ)) → Part (List (List ℕ)) → Part (List (List ℕ)) → Part (List ℕ) → Both Memory Memory
lent sources names pages universes = memories (changed sources) (changed names) (changed pages) (changed universes)

-- the same where the names are lent shared
abbrev pub lent_names_shared : Part (List (List ℕ)) → SharedPart (List (List ℕ)) → Part (List (List ℕ)) → Part (List ℕ) → Both Memory Memory
lent_names_shared sources names pages universes = memories (changed sources) (read names) (changed pages) (changed universes)

-- the same where the sources and their names are lent shared
abbrev pub lent_sources_shared : SharedPart (List (List ℕ)) → SharedPart (List (List ℕ)) → Part (List (List ℕ)) → Part (List ℕ) → Both Memory Memory
lent_sources_shared sources names pages universes = memories (read sources) (read names) (changed pages) (changed universes)

-- the sources that a state and its memory hold
abbrev pub known : Discovery → Memory → Discovered
known d m = discovered_of d m.sources m.names m.pages m.universes

-- a page's contents as the call finds them
abbrev pub announcement : Both Page Page → Announcement
announcement p = record { cid = p.entry.cid; name = p.entry.name.now; page = p.entry.page; last_page = p.entry.last_page; universes = p.entry.list.now }

-- ── what the call leaves ──
-- these sources
abbrev pub HoldsIn : Both Memory Memory → Discovery → Discovered → Type 0
HoldsIn m r e = Holds m.entry.universes r m.exit.sources m.exit.names m.exit.pages m.exit.universes e

-- these sources, with this answer
abbrev pub TookIn : Both Memory Memory → After Discovery PageAnswer → Discovered × PageAnswer → Type 0
TookIn m r e = Took m.entry.universes r m.exit.sources m.exit.names m.exit.pages m.exit.universes e

-- all but the source of this mark and CID
abbrev pub DroppedIn : ℕ → Cid → Discovery → Both Memory Memory → Discovery → Type 0
DroppedIn mark cid d m r =
    Dropped mark cid d m.entry.sources m.entry.names m.entry.pages m.entry.universes
    r m.exit.sources m.exit.names m.exit.pages m.exit.universes

-- what follows a page that is not too long
abbrev pub ArrivalIn : Discovery → Both Memory Memory → ℕ → Announcement → After Discovery PageAnswer → Type 0
ArrivalIn d m reading a r =
    Arrival d m.entry.sources m.entry.names m.entry.pages m.entry.universes reading a
    r m.exit.sources m.exit.names m.exit.pages m.exit.universes

-- what follows any page
abbrev pub CalledIn : Discovery → Both Memory Memory → ℕ → Announcement → After Discovery PageCall → Type 0
CalledIn d m reading a r =
    Called d m.entry.sources m.entry.names m.entry.pages m.entry.universes reading a
    r m.exit.sources m.exit.names m.exit.pages m.exit.universes
