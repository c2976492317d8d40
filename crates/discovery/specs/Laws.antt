-- Laws of the definitions: each source by itself, what every call keeps, and calls about different sources in either order.
-- Assumes nothing.
use Rattle.std.specs.Prelude.{◌≡◌, cond, ℕ}
use Rattle.std.proofs.Math.Option.{Option, none, some}
use Rattle.rules.specs.declared.Cid.{Cid}
use Rattle.rules.specs.Cid.{same}
use Rattle.discovery.specs.Discovery.{Source, Discovered, lookup, Note, begin, extend, list, cut}

-- ── lookup after each operation ──
-- the first of two
abbrev pub either : Option Source → Option Source → Option Source
either none o = o
either (some s) o = some s

-- a source that is there replaced
abbrev pub instead : Source → Option Source → Option Source
instead s none = none
instead s (some t) = some s

abbrev pub cut_found : ℕ → Option Source → Option Source
cut_found u none = none
cut_found u (some s) = some (cut u s)

-- ── what a note makes of one source ──
abbrev pub partial_at : Note → Cid → Option Source → Option Source
partial_at (begin s) d o = either o (cond (same s.cid d) (some s) none)
partial_at (extend s) d o = cond (same s.cid d) (instead s o) o
partial_at (list s) d o = cond (same s.cid d) none o

abbrev pub listed_at : Note → Cid → Option Source → Option Source
listed_at (begin s) d o = o
listed_at (extend s) d o = o
listed_at (list s) d o = cond (same s.cid d) (some s) o

-- ── a note is about one source ──
abbrev pub About : Cid → Note → Type 0
About c (begin s) = s.cid ≡ c
About c (extend s) = s.cid ≡ c
About c (list s) = s.cid ≡ c

-- ── alike source by source ──
pub record Alike (k l : Discovered) : Type 0 where
  pub partials : (c : Cid) → lookup c k.partial ≡ lookup c l.partial
  pub listeds : (c : Cid) → lookup c k.listed ≡ lookup c l.listed
