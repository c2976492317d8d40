-- The sources seen in the state and the memory lent to it, and what is presupposed of them.
-- Assumes nothing.
use Rattle.std.specs.Prelude.{◌≡◌, true, not, ℕ, zero, suc, ◌-◌, ◌≤◌, ◌<◌, eqb, ltb, take, drop, get_or, set}
use Rattle.std.proofs.Math.Path.{refl, sym, ap}
use Rattle.std.proofs.Common.{◌∙◌, arith, eqb-true, ltb-true, ltb-false}
use Rattle.std.proofs.Math.Bool.{false}
use mathlib.Core.List.{List, [], ◌∷◌, ◌++◌}
use Rattle.std.proofs.Math.ListN.{length, length-take}
use Rattle.std.proofs.Math.Seq.{take-nil}
use Rattle.std.proofs.lemmas.Bool.{eqb-false}
use Rattle.laws.specs.Cases.{split, clash}
use Rattle.laws.specs.Table.{keep, any}
use Rattle.laws.specs.Place.{prefix, remove_at}
use Rattle.rules.specs.declared.Cid.{Cid}
use Rattle.discovery_calls.specs.declared.Discovery.{Discovery}
use Rattle.discovery.specs.Discovery.{Discovered, pages_held, nothing_known, capacity}
use Rattle.discovery_rows.specs.Store.{Head, Leaf, is_head_of, held_by, pages_at, view_of, Sound, Single, single_heads, keep_none, keep_single, prefix_none, prefix_any}
use Rattle.discovery.specs.Discovery.{pool_length}
use Rattle.discovery_pages.specs.Lent.{Lent, lent_none}
use Rattle.discovery_pages.specs.Leaves.{held_leaves, heads_leaves, pages_none}
use Rattle.discovery_calls.specs.Moves.{without, others, leaves_of_others, view_dropped, sound_dropped}
use Rattle.discovery_rows.specs.Rows.{owned, head_of, heads, leaves, total}
use Rattle.discovery_pages.specs.Passes.{Packing, Packs, length_leaves}

unfoldable pub heads_of : Discovery → List (List ℕ) → List (List ℕ) → List Head
heads_of d sources names = heads (take d.source_count sources) (take d.source_count names)

unfoldable pub leaves_of : Discovery → List (List ℕ) → List ℕ → List Leaf
leaves_of d pages universes = leaves (take d.page_count pages) universes

-- what is known of the sources
unfoldable pub discovered_of : Discovery → List (List ℕ) → List (List ℕ) → List (List ℕ) → List ℕ → Discovered
discovered_of d sources names pages universes = view_of (heads_of d sources names) (leaves_of d pages universes)

-- "tables in their order and within their counts, and lent stores as the last call left them"
pub record Kept (d : Discovery) (sources names pages : List (List ℕ)) (universes : List ℕ) : Type 0 where
  pub source_rows : length sources ≡ capacity
  pub name_rows : length names ≡ capacity
  pub within : d.source_count ≤ capacity
  pub packing : Packing d.page_count pages universes
  pub filled : d.used ≡ total (take d.page_count pages)
  pub sound : Sound (heads_of d sources names) (leaves_of d pages universes)

-- kept, and with these sources; of the pool lent before, what is the caller's is untouched
pub record Holds (lent_pool : List ℕ) (d : Discovery) (sources names pages : List (List ℕ)) (universes : List ℕ) (e : Discovered) : Type 0 where
  pub kept : Kept d sources names pages universes
  pub seen : discovered_of d sources names pages universes ≡ e
  pub lent : Lent lent_pool universes

-- nothing is known, whatever the memory holds
pub record Emptied (d : Discovery) : Type 0 where
  pub unknown : (sources names pages : List (List ℕ)) (universes : List ℕ) → discovered_of d sources names pages universes ≡ nothing_known
  pub kept : (sources names pages : List (List ℕ)) (universes : List ℕ) → length sources ≡ capacity → length names ≡ capacity → length pages ≡ capacity → pool_length ≤ length universes
      → Kept d sources names pages universes

-- ── heads of rows ──
module _ (m : ℕ) (c : Cid) where
  pub heads_prefix : (rs ns : List (List ℕ)) → prefix (λ h. not (is_head_of m c h)) (heads rs ns) ≡ prefix (λ r. not (owned m c r)) rs
  unfolding heads prefix
  heads_prefix [] ns = refl
  heads_prefix (r ∷ rs) ns = rw (heads_prefix rs (drop 1 ns))

pub length_heads : (rs ns : List (List ℕ)) → length (heads rs ns) ≡ length rs
unfolding heads
length_heads [] ns = refl
length_heads (r ∷ rs) ns = ap suc (length_heads rs (drop 1 ns))

nothing : (j : ℕ) → remove_at {A = List ℕ} j [] ≡ []
nothing j = ap (λ (l : List (List ℕ)). l ++ drop (suc j) []) (take-nil j)

pub heads_remove_at : (i : ℕ) (rs ns : List (List ℕ)) → heads (remove_at i rs) (remove_at i ns) ≡ remove_at i (heads rs ns)
unfolding heads
heads_remove_at zero [] ns = refl
heads_remove_at zero (r ∷ rs) ns = refl
heads_remove_at (suc i) [] ns = refl
heads_remove_at (suc i) (r ∷ rs) [] =
    ap (λ (hs : List Head). head_of r [] ∷ hs) (sym (ap (heads (remove_at i rs)) (nothing i)) ∙ heads_remove_at i rs [])
heads_remove_at (suc i) (r ∷ rs) (n ∷ ns) = ap (λ (hs : List Head). head_of r n ∷ hs) (heads_remove_at i rs ns)

pub heads_append : (rs ns : List (List ℕ)) (r n : List ℕ) → length rs ≡ length ns → heads (rs ++ r ∷ []) (ns ++ n ∷ []) ≡ heads rs ns ++ head_of r n ∷ []
unfolding heads
heads_append [] [] r n e = refl
heads_append [] (x ∷ ns) r n e = absurd (omega arith)
heads_append (y ∷ rs) [] r n e = absurd (omega arith)
heads_append (y ∷ rs) (x ∷ ns) r n e = ap (λ (hs : List Head). head_of y x ∷ hs) (heads_append rs ns r n (omega arith))

pub heads_set : (i : ℕ) (rs ns : List (List ℕ)) (r : List ℕ) → heads (set rs i r) ns ≡ set (heads rs ns) i (head_of r (get_or ns i []))
unfolding heads
heads_set i [] ns r = refl
heads_set zero (y ∷ rs) ns r = refl
heads_set (suc i) (y ∷ rs) [] r = ap (λ (hs : List Head). head_of y [] ∷ hs) (heads_set i rs [] r)
heads_set (suc i) (y ∷ rs) (n ∷ ns) r = ap (λ (hs : List Head). head_of y n ∷ hs) (heads_set i rs ns r)

pub heads_get_d : (i : ℕ) (rs ns : List (List ℕ)) (h₀ : Head) → i < length rs → get_or (heads rs ns) i h₀ ≡ head_of (get_or rs i []) (get_or ns i [])
unfolding heads
heads_get_d i [] ns h₀ h = absurd (omega arith)
heads_get_d zero (y ∷ rs) ns h₀ h = refl
heads_get_d (suc i) (y ∷ rs) [] h₀ h = heads_get_d i rs [] h₀ (omega arith)
heads_get_d (suc i) (y ∷ rs) (n ∷ ns) h₀ h = heads_get_d i rs ns h₀ (omega arith)

-- ── what follows from what is presupposed ──
pub single_sound : (m : ℕ) (c : Cid) (hs : List Head) (ls : List Leaf) → Sound hs ls → m < 2 → Single (is_head_of m c) hs
unfolding view_of
single_sound m c hs ls s h =
    split (eqb m 0)
    (λ e. rw (eqb-true m 0 e) (single_heads 0 c hs (pages_at 0 ls) s.ordered.partial_once))
    (λ e.
    let n = eqb-false m 0 e in
    let z : m ≡ 1 = split (ltb m 1) (λ q. absurd (n (omega (arith, ltb-true m 1 q)))) (λ q. omega (arith, ltb-false m 1 q)) in
    rw z (single_heads 1 c hs (pages_at 1 ls) s.ordered.listed_once))

module _ (d : Discovery) (sources names pages : List (List ℕ)) (universes : List ℕ) (k : Kept d sources names pages universes) where
  pub kept_held : pages_held (discovered_of d sources names pages universes) ≡ d.page_count
  unfolding discovered_of leaves_of
  kept_held =
      let r : length pages ≡ capacity = k.packing.rows in
      let w : d.page_count ≤ capacity = k.packing.within in
      held_leaves (heads_of d sources names) (leaves_of d pages universes) k.sound
      ∙ omega (arith, length_leaves (take d.page_count pages) universes, length-take d.page_count pages)

  pub length_heads_of : length (heads_of d sources names) ≡ d.source_count
  unfolding heads_of
  length_heads_of =
      let r : length sources ≡ capacity = k.source_rows in
      let w : d.source_count ≤ capacity = k.within in
      omega (arith, length_heads (take d.source_count sources) (take d.source_count names), length-take d.source_count sources)

  pub length_leaves_of : length (leaves_of d pages universes) ≡ d.page_count
  unfolding leaves_of
  length_leaves_of =
      let r : length pages ≡ capacity = k.packing.rows in
      let w : d.page_count ≤ capacity = k.packing.within in
      omega (arith, length_leaves (take d.page_count pages) universes, length-take d.page_count pages)

  -- no more sources than pages
  pub kept_fewer : d.source_count ≤ d.page_count
  kept_fewer = omega (arith, heads_leaves (heads_of d sources names) (leaves_of d pages universes) k.sound, length_heads_of, length_leaves_of)

-- ── an owner is dropped ──
any_others_gone : (m : ℕ) (c : Cid) (hs : List Head) → any (is_head_of m c) (others m c hs) ≡ false
unfolding any keep
any_others_gone m c [] = refl
any_others_gone m c (x ∷ hs) = let r = any_others_gone m c hs in split (is_head_of m c x) (λ e. rw e r) (λ e. rw (e, e) r)

pub record Dropped (m : ℕ) (c : Cid) (d : Discovery) (S N P : List (List ℕ)) (U : List ℕ) (e : Discovery) (S' N' P' : List (List ℕ)) (U' : List ℕ) : Type 0 where
  pub kept : Kept e S' N' P' U'
  pub view : discovered_of e S' N' P' U' ≡ without m c (discovered_of d S N P U)
  pub gone : any (is_head_of m c) (heads_of e S' N') ≡ false
  pub lent : Lent U U'
  pub shrunk : any (is_head_of m c) (heads_of d S N) ≡ true → e.source_count < d.source_count

module _ (m : ℕ) (c : Cid) (d : Discovery) (S N P : List (List ℕ)) (U : List ℕ) (k : Kept d S N P U) where
  place_heads : prefix (λ h. not (is_head_of m c h)) (heads_of d S N) ≡ prefix (λ r. not (owned m c r)) (take d.source_count S)
  unfolding heads_of
  place_heads = heads_prefix m c (take d.source_count S) (take d.source_count N)

  -- no row has the owner
  pub absent_heads : d.source_count ≤ prefix (λ r. not (owned m c r)) (take d.source_count S) → any (is_head_of m c) (heads_of d S N) ≡ false
  absent_heads h = prefix_none (is_head_of m c) (heads_of d S N) (omega (arith, place_heads, length_heads_of d S N P U k))

  -- one has
  pub present_heads : prefix (λ r. not (owned m c r)) (take d.source_count S) < d.source_count → any (is_head_of m c) (heads_of d S N) ≡ true
  present_heads h = prefix_any (is_head_of m c) (heads_of d S N) (omega (arith, place_heads, length_heads_of d S N P U k))

  pub dropped_absent : d.source_count ≤ prefix (λ r. not (owned m c r)) (take d.source_count S) → Dropped m c d S N P U d S N P U
  unfolding discovered_of
  dropped_absent h =
      let hs = heads_of d S N in
      let ls = leaves_of d P U in
      let a : any (is_head_of m c) hs ≡ false = absent_heads h in
      let x : others m c hs ≡ hs = keep_none (is_head_of m c) hs a in
      let y : leaves_of_others m c ls ≡ ls = keep_none (held_by m c) ls (pages_none m c hs ls k.sound.housed a) in
      record {
        kept = k;
        view = sym (ap (λ (gs : List Head). view_of gs ls) x) ∙ sym (ap (λ (ks : List Leaf). view_of (others m c hs) ks) y) ∙ view_dropped m c hs ls;
        gone = a;
        lent = lent_none U;
        shrunk = λ b. clash b a;
      }

  module _ (small : m < 2) (S' N' P' : List (List ℕ)) (U' : List ℕ) (i pc used : ℕ)
      (at : i ≡ prefix (λ r. not (owned m c r)) (take d.source_count S)) (inside : i < d.source_count) (s64 : length S' ≡ capacity) (n64 : length N' ≡ capacity)
      (s : take (d.source_count - 1) S' ≡ remove_at i (take d.source_count S)) (n : take (d.source_count - 1) N' ≡ remove_at i (take d.source_count N))
      (p : Packs pc used U P' U' (keep (λ l. not (held_by m c l)) (leaves (take d.page_count P) U))) where
    after : Discovery
    after = record { source_count = d.source_count - 1; page_count = pc; used = used }

    heads_after : heads_of after S' N' ≡ others m c (heads_of d S N)
    unfolding heads_of after
    heads_after =
        ap (λ (rs : List (List ℕ)). heads rs (take (d.source_count - 1) N')) s
        ∙ ap (heads (remove_at i (take d.source_count S))) n
        ∙ heads_remove_at i (take d.source_count S) (take d.source_count N)
        ∙ ap (λ (j : ℕ). remove_at j (heads_of d S N)) (at ∙ sym place_heads)
        ∙ sym (keep_single (is_head_of m c) (heads_of d S N) (single_sound m c (heads_of d S N) (leaves_of d P U) k.sound small) (omega (arith, at, place_heads, length_heads_of d S N P U k)))

    leaves_after : leaves_of after P' U' ≡ leaves_of_others m c (leaves_of d P U)
    unfolding leaves_of after
    leaves_after = p.leaves_are

    pub dropped_kept : Dropped m c d S N P U (record { source_count = d.source_count - 1; page_count = pc; used = used }) S' N' P' U'
    unfolding discovered_of after
    dropped_kept =
        let hs = heads_of d S N in
        let ls = leaves_of d P U in
        let w : d.source_count ≤ capacity = k.within in
        record {
          kept = record {
            source_rows = s64;
            name_rows = n64;
            within = omega arith;
            packing = p.packing;
            filled = p.filled;
            sound = rw (heads_after, leaves_after) (sound_dropped m c hs ls k.sound);
          };
          view = ap (λ (gs : List Head). view_of gs (leaves_of after P' U')) heads_after ∙ ap (view_of (others m c hs)) leaves_after ∙ view_dropped m c hs ls;
          gone = rw heads_after (any_others_gone m c hs);
          lent = p.lent;
          shrunk = λ b. omega (arith, inside);
        }
