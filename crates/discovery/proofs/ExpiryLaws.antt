-- Document 02, F-3: "The rule for discovery age in document 01 changes to that setting, also for a partial source."
-- Assumes nothing.
use Rattle.std.specs.Prelude.{◌≡◌, refl, List, [], ◌∷◌, ℕ, ◌≤◌, ◌<◌}
use Rattle.std.proofs.Common.{◌∙◌, arith, le-leb}
use Rattle.std.proofs.Math.Option.{some, none}
use Rattle.std.proofs.lemmas.Bool.{lt-leb}
use Rattle.laws.specs.Table.{keep}
use Rattle.rules.specs.declared.Cid.{Cid}
use Rattle.rules.specs.Age.{age}
use Rattle.discovery.specs.Discovery.{Source, Discovered, nothing_known, lookup, current, swept, Ordered}
use Rattle.discovery.proofs.Laws.{partial_swept, listed_swept}
use Rattle.discovery.specs.Expiry.{was_swept}

-- ── one rule for both lists: a source stays exactly while its age is under the time ──
module _ (time now : ℕ) (c : Cid) (s : Source) (d : Discovered) (o : Ordered d) where
  pub partial_goes : lookup c d.partial ≡ some s → time ≤ age now s.reading → lookup c (swept time now d).partial ≡ none
  partial_goes e h = partial_swept time now c d o.partial_once ∙ (rw (e, le-leb time (age now s.reading) h))

  pub listed_goes : lookup c d.listed ≡ some s → time ≤ age now s.reading → lookup c (swept time now d).listed ≡ none
  listed_goes e h = listed_swept time now c d o.listed_once ∙ (rw (e, le-leb time (age now s.reading) h))

  pub partial_stays : lookup c d.partial ≡ some s → age now s.reading < time → lookup c (swept time now d).partial ≡ some s
  partial_stays e h = partial_swept time now c d o.partial_once ∙ (rw (e, lt-leb time (age now s.reading) h))

  pub listed_stays : lookup c d.listed ≡ some s → age now s.reading < time → lookup c (swept time now d).listed ≡ some s
  listed_stays e h = listed_swept time now c d o.listed_once ∙ (rw (e, lt-leb time (age now s.reading) h))

pub swept_2500 : (now : ℕ) (d : Discovered) → swept 2500 now d ≡ was_swept now d
unfolding swept was_swept
swept_2500 now d = refl

-- ── by an expiry of 0, which the setter refuses, every sweep drops all ──
none_kept : (now : ℕ) (ss : List Source) → keep (current 0 now) ss ≡ []
unfolding keep
none_kept now [] = refl
none_kept now (s ∷ ss) = rw (le-leb 0 (age now s.reading) (omega arith)) (none_kept now ss)

pub swept_0 : (now : ℕ) (d : Discovered) → swept 0 now d ≡ nothing_known
unfolding swept
swept_0 now d = rw (none_kept now d.partial, none_kept now d.listed)
