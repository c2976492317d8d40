-- Document 02, F-2: "Operators who restart a desk want its numbering forgotten without losing the list of sources." What the two halves of
-- `reset_sources` clear and leave, for every state.
-- Assumes nothing.
use Rattle.std.specs.Prelude.{◌≡◌, Bool, [], ◌∷◌}
use Rattle.std.proofs.Math.Path.{refl}
use Rattle.settings.specs.declared.SourceLimit.{SourceLimit}
use Rattle.settings.specs.Settings.{ProperLimit}
use Rattle.pairs.specs.declared.Pair.{Pair}
use Rattle.pairs.specs.declared.Checked.TheVariants.{Accepted}
use Rattle.pairs.specs.Table as pairs
use Rattle.pairs.proofs.Laws as pair_laws
use Rattle.discovery.specs.Discovery as discovery
use Rattle.model.specs.State.{State}
use Rattle.model.specs.Calls.{reset_pairs_call, reset_discovery_call, reset_call, on_reset_pairs, on_reset_discovery, on_reset, call, run}
use Rattle.model.specs.Halves.{Untouched, was_reset}

module _ (s : State) where
  -- ── one half: both pair tables, with the CIDs that they count as sources ──
  pub pairs_cleared : ((reset_pairs_call s).data_pairs ≡ pairs.empty) × ((reset_pairs_call s).sync_pairs ≡ pairs.empty)
  unfolding reset_pairs_call
  pairs_cleared = (refl, refl)

  -- "Each half leaves all that the other clears."
  pub discovery_left : ((reset_pairs_call s).discovered ≡ s.discovered) × Untouched s (reset_pairs_call s)
  unfolding reset_pairs_call
  discovery_left = (refl, (refl, refl))

  -- "its numbering forgotten": the next arrival at either table, of any pair and with any sequence number, is accepted and stored
  pub next_stored : (limit : SourceLimit) (announce : Bool) (p : Pair) → ProperLimit limit
      → (pairs.check limit announce p (reset_pairs_call s).data_pairs ≡ (pairs.recorded p pairs.empty, Accepted))
      × (pairs.check limit announce p (reset_pairs_call s).sync_pairs ≡ (pairs.recorded p pairs.empty, Accepted))
  next_stored limit announce p h =
      let stored = pair_laws.check_empty limit announce p h in
      (rw pairs_cleared.0 stored, rw pairs_cleared.1 stored)

  -- ── the other: both discovery lists ──
  pub discovery_cleared : (reset_discovery_call s).discovered ≡ discovery.nothing_known
  unfolding reset_discovery_call
  discovery_cleared = refl

  pub pairs_left : ((reset_discovery_call s).data_pairs ≡ s.data_pairs) × ((reset_discovery_call s).sync_pairs ≡ s.sync_pairs) × Untouched s (reset_discovery_call s)
  unfolding reset_discovery_call
  pairs_left = (refl, refl, (refl, refl))

  -- ── both ──
  -- the two in turn are what the call was
  pub reset_as_was : reset_call s ≡ was_reset s
  unfolding reset_call reset_pairs_call reset_discovery_call
  reset_as_was = refl

  -- and in the other order
  pub halves_commute : reset_pairs_call (reset_discovery_call s) ≡ reset_discovery_call (reset_pairs_call s)
  unfolding reset_pairs_call reset_discovery_call
  halves_commute = refl

  -- as calls: the whole one is the halves, in either order
  pub whole_is_halves : (call on_reset s ≡ run (on_reset_pairs ∷ on_reset_discovery ∷ []) s) × (call on_reset s ≡ run (on_reset_discovery ∷ on_reset_pairs ∷ []) s)
  unfolding call run reset_call reset_pairs_call reset_discovery_call
  whole_is_halves = (refl, refl)
