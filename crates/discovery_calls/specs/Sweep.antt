-- The sweep: an expired source goes after the other; and a universe that ends.
-- Assumes nothing.
use Rattle.std.specs.Prelude.{◌≡◌, Bool, cond, ◌&&◌, ℕ, zero, suc, ◌≤◌, ◌<◌, eqb, take, drop}
use Rattle.std.proofs.Math.Path.{refl, ap}
use Rattle.std.proofs.Common.{sym, ◌∙◌, arith, get_or-take, eqb-true}
use Rattle.std.proofs.Math.Bool.{true, false, not}
use mathlib.Core.List.{List, [], ◌∷◌, map}
use Rattle.std.proofs.Math.ListN.{length, get_or, length-take}
use Rattle.laws.specs.Cases.{split, clash}
use Rattle.laws.specs.Table.{keep, any}
use Rattle.laws.specs.Place.{prefix, prefix_stop}
use Rattle.rules.specs.declared.Cid.{Cid}
use Rattle.rules.specs.Cid.{same}
use Rattle.rules.proofs.CidLaws.{same_path}
use Rattle.rules.specs.Age.{aged}
use Rattle.discovery_calls.specs.declared.Discovery.{Discovery}
use Rattle.discovery.specs.Discovery.{Page, Source, drop_source, current, swept, ended, Once, page_count, capacity}
use Rattle.discovery.proofs.KeptLaws.{dropped_none}
use Rattle.discovery_rows.specs.Store.{Head, is_head_of, pages_at, source_of, sources_at, view_of, Marked, owner_self, any_sources, prefix_none}
use Rattle.discovery_pages.specs.Leaves.{cut_leaf}
use Rattle.discovery_calls.specs.Moves.{view_cut, sound_cut}
use Rattle.discovery_rows.specs.Rows.{cid_at, head_of, heads, leaves, total, old_row}
use Rattle.discovery_pages.specs.Passes.{Packs}
use Rattle.discovery_calls.specs.View.{heads_of, leaves_of, discovered_of, Kept, Holds, Emptied, Dropped, heads_get_d, length_heads_of}

-- ── a universe ends ──
pub universe_ended : (d : Discovery) (S N P : List (List ℕ)) (U : List ℕ) (k : Kept d S N P U) (c : Cid) (u used : ℕ) (P' : List (List ℕ)) (U' : List ℕ)
    → Packs d.page_count used U P' U' (map (cut_leaf c u) (leaves (take d.page_count P) U))
    → Holds U (record { source_count = d.source_count; page_count = d.page_count; used = used }) S N P' U' (ended c u (discovered_of d S N P U))
unfolding discovered_of heads_of leaves_of
universe_ended d S N P U k c u used P' U' p =
    let hs = heads_of d S N in
    let ls = leaves_of d P U in
    record {
      kept = record {
        source_rows = k.source_rows;
        name_rows = k.name_rows;
        within = k.within;
        packing = p.packing;
        filled = p.filled;
        sound = rw p.leaves_are (sound_cut c u hs ls k.sound);
      };
      seen = ap (view_of hs) p.leaves_are ∙ view_cut c u hs ls;
      lent = p.lent;
    }

-- ── an expired head ──
abbrev pub old : ℕ → ℕ → Head → Bool
old time now h = aged time now h.reading

any_first : {A : Type 0} (p q : A → Bool) (l : List A) → any (λ x. p x && q x) l ≡ true → any p l ≡ true
unfolding any
any_first p q [] a = a
any_first p q (x ∷ l) a = split (p x) (λ h. rw h) (λ h. rw h (any_first p q l (rw h at a)))

any_at : {A : Type 0} (p : A → Bool) (l : List A) (i : ℕ) (x : A) → i < length l → p (get_or l i x) ≡ true → any p l ≡ true
unfolding any
any_at p [] i x h e = absurd (omega arith)
any_at p (y ∷ l) zero x h e = rw e
any_at p (y ∷ l) (suc i) x h e = split (p y) (λ g. rw g) (λ g. rw g (any_at p l i x (omega arith) e))

marked_at : (i : ℕ) (h₀ : Head) (hs : List Head) → Marked hs → i < length hs → (get_or hs i h₀).mark < 2
marked_at i h₀ [] k h = absurd (omega arith)
marked_at zero h₀ (x ∷ hs) k h = k.0
marked_at (suc i) h₀ (x ∷ hs) k h = marked_at i h₀ hs k.1 (omega arith)

module _ (time now : ℕ) where
  any_old : (rs ns : List (List ℕ)) → any (old time now) (heads rs ns) ≡ any (old_row time now) rs
  unfolding any heads
  any_old [] ns = refl
  any_old (r ∷ rs) ns = rw (any_old rs (drop 1 ns))

  -- an expired source dropped is no loss to the sweep
  one_old : (m : ℕ) (c : Cid) (hs : List Head) (P : Cid → List Page) → Once (sources_at m hs P) → any (λ h. is_head_of m c h && old time now h) hs ≡ true
      → keep (current time now) (drop_source c (sources_at m hs P)) ≡ keep (current time now) (sources_at m hs P)
  unfolding any keep sources_at drop_source
  one_old m c [] P o a = refl
  one_old m c (x ∷ hs) P o a =
      split (eqb x.mark m)
      (λ g. split (same x.cid c)
      (λ e.
      let o' : Once (source_of P x ∷ sources_at m hs P) = rw g at o in
      let n : any (λ t. same t.cid c) (sources_at m hs P) ≡ false = rw (same_path x.cid c e) at o'.0 in
      let q = dropped_none c (sources_at m hs P) n in
      split (old time now x)
      (λ h. rw (g, e, h) (ap (keep (current time now)) q))
      (λ h.
      let b : any (λ y. is_head_of m c y && old time now y) hs ≡ true = rw (g, e, h) at a in
      clash (any_first (is_head_of m c) (old time now) hs b) (sym (any_sources m c hs P) ∙ n)))
      (λ e.
      let o' : Once (source_of P x ∷ sources_at m hs P) = rw g at o in
      let r = one_old m c hs P o'.1 (rw (g, e) at a) in
      split (old time now x) (λ h. rw (g, e, h) r) (λ h. rw (g, e, h) (ap (λ (l : List Source). source_of P x ∷ l) r))))
      (λ g. let r = one_old m c hs P (rw g at o) (rw g at a) in rw g r)

  -- none is expired: the sweep changes nothing
  none_old : (m : ℕ) (hs : List Head) (P : Cid → List Page) → any (old time now) hs ≡ false → keep (current time now) (sources_at m hs P) ≡ sources_at m hs P
  unfolding any keep sources_at
  none_old m [] P a = refl
  none_old m (x ∷ hs) P a =
      split (old time now x)
      (λ h. let z : true ≡ false = rw h at a in clash refl z)
      (λ h.
      let r = none_old m hs P (rw h at a) in
      split (eqb x.mark m) (λ g. rw (g, h) (ap (λ (l : List Source). source_of P x ∷ l) r)) (λ g. rw g r))

  module _ (d : Discovery) (S N P : List (List ℕ)) (U : List ℕ) (k : Kept d S N P U) where
    -- nothing is left to drop
    pub sweep_done : d.source_count ≤ prefix (λ r. not (old_row time now r)) (take d.source_count S) → swept time now (discovered_of d S N P U) ≡ discovered_of d S N P U
    unfolding swept discovered_of view_of heads_of
    sweep_done h =
        let n = d.source_count in
        let a : any (old_row time now) (take n S) ≡ false = prefix_none (old_row time now) (take n S) (omega (arith, length-take n S)) in
        let b : any (old time now) (heads (take n S) (take n N)) ≡ false = any_old (take n S) (take n N) ∙ a in
        let x = none_old 0 (heads (take n S) (take n N)) (pages_at 0 (leaves_of d P U)) b in
        let y = none_old 1 (heads (take n S) (take n N)) (pages_at 1 (leaves_of d P U)) b in
        λ i. record { partial = x i; listed = y i }

    module _ (at : ℕ) (place : at ≡ prefix (λ r. not (old_row time now r)) (take d.source_count S)) (inside : at < d.source_count) where
      h₀ : Head
      h₀ = record { mark = 0; cid = record { hi = 0; lo = 0 }; name = []; last_page = 0; reading = 0 }

      row : List ℕ
      row = get_or S at []

      at_row : get_or (heads_of d S N) at h₀ ≡ head_of row (get_or (take d.source_count N) at [])
      unfolding heads_of row
      at_row =
          let n = d.source_count in
          let x : length S ≡ capacity = k.source_rows in
          let w : n ≤ capacity = k.within in
          heads_get_d at (take n S) (take n N) h₀ (omega (arith, length-take n S)) ∙ ap (λ (y : List ℕ). head_of y (get_or (take n N) at [])) (get_or-take n S at [] inside)

      row_old : old_row time now row ≡ true
      unfolding row
      row_old =
          let n = d.source_count in
          let x : length S ≡ capacity = k.source_rows in
          let w : n ≤ capacity = k.within in
          let e : not (old_row time now (get_or (take n S) (prefix (λ r. not (old_row time now r)) (take n S)) [])) ≡ false =
          prefix_stop (λ r. not (old_row time now r)) (take n S) [] (omega (arith, place, length-take n S)) in
          let f : not (old_row time now (get_or S at [])) ≡ false = ap (λ (r : List ℕ). not (old_row time now r)) (sym (get_or-take n S at [] inside)) ∙ ap (λ (i : ℕ). not (old_row time now (get_or (take n S) i []))) place ∙ e in
          split (old_row time now (get_or S at [])) (λ h. h) (λ h. let z : true ≡ false = rw h at f in clash refl z)

      pub sweep_mark : get_or (get_or S at []) 0 0 < 2
      unfolding row
      sweep_mark =
          let m = marked_at at h₀ (heads_of d S N) k.sound.marked (omega (arith, length_heads_of d S N P U k)) in
          rw (ap (λ (h : Head). h.mark) at_row) at m

      pub sweep_there : any (is_head_of (get_or (get_or S at []) 0 0) (cid_at (get_or S at []))) (heads_of d S N) ≡ true
      unfolding row
      sweep_there =
          let m = get_or (get_or S at []) 0 0 in
          let c = cid_at (get_or S at []) in
          any_at (is_head_of m c) (heads_of d S N) at h₀ (omega (arith, length_heads_of d S N P U k))
          (ap (is_head_of m c) at_row ∙ owner_self m c)

      old_there : any (λ h. is_head_of (get_or (get_or S at []) 0 0) (cid_at (get_or S at [])) h && old time now h) (heads_of d S N) ≡ true
      unfolding row
      old_there =
          let m = get_or (get_or S at []) 0 0 in
          let c = cid_at (get_or S at []) in
          any_at (λ h. is_head_of m c h && old time now h) (heads_of d S N) at h₀ (omega (arith, length_heads_of d S N P U k))
          (ap (λ (h : Head). is_head_of m c h && old time now h) at_row ∙ (rw (owner_self m c) row_old))

      -- what goes would go
      pub sweep_turn : (e : Discovery) (S' N' P' : List (List ℕ)) (U' : List ℕ) → Dropped (get_or (get_or S at []) 0 0) (cid_at (get_or S at [])) d S N P U e S' N' P' U'
          → swept time now (discovered_of e S' N' P' U') ≡ swept time now (discovered_of d S N P U)
      unfolding swept discovered_of view_of
      sweep_turn e S' N' P' U' g =
          let m = get_or (get_or S at []) 0 0 in
          let c = cid_at (get_or S at []) in
          let hs = heads_of d S N in
          let ls = leaves_of d P U in
          let x : (n : ℕ) → Once (sources_at n hs (pages_at n ls))
          → keep (current time now) (cond (eqb m n) (drop_source c (sources_at n hs (pages_at n ls))) (sources_at n hs (pages_at n ls))) ≡ keep (current time now) (sources_at n hs (pages_at n ls)) =
          λ n o. split (eqb m n)
          (λ f. rw f (one_old n c hs (pages_at n ls) o (rw (eqb-true m n f) at old_there)))
          (λ f. rw f) in
          let p = x 0 k.sound.ordered.partial_once in
          let l = x 1 k.sound.ordered.listed_once in
          ap (swept time now) g.view ∙ (λ i. record { partial = p i; listed = l i })

-- ── nothing is known ──
pub fresh : Emptied (record { source_count = 0; page_count = 0; used = 0 })
unfolding discovered_of view_of heads_of leaves_of heads leaves sources_at total page_count
fresh = record {
  unknown = λ S N P U. refl;
  kept = λ S N P U s n p u. record {
    source_rows = s;
    name_rows = n;
    within = omega arith;
    packing = record { rows = p; within = omega arith; few = tt; pool = u };
    filled = refl;
    sound = record {
      marked = tt;
      housed = tt;
      ordered = record { partial_once = tt; listed_once = tt; partial_proper = tt; listed_proper = tt; fit = omega arith };
    };
  };
}
