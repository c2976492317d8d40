-- What each step of a call makes of the sources seen: a source begun, extended, listed.
-- Assumes nothing.
use Rattle.std.specs.Prelude.{◌≡◌, true, ℕ, ◌+◌, ◌≤◌, ◌<◌, ltb, drop}
use Rattle.std.proofs.Math.Path.{refl, sym, ap}
use Rattle.std.proofs.Common.{subst, ◌∙◌, arith, get_or-take, ltb-true, ltb-false}
use Rattle.std.proofs.Math.Bool.{false, not}
use Rattle.std.proofs.Math.Option.{none, some}
use mathlib.Core.List.{List, [], ◌∷◌, ◌++◌, map}
use Rattle.std.proofs.Math.ListN.{length, take, get_or, set, length-take, length-set}
use Rattle.std.proofs.Math.Seq.{take_all, take-set-lt}
use Rattle.laws.specs.Cases.{split, clash, found}
use Rattle.laws.specs.Table.{any}
use Rattle.laws.specs.Place.{prefix, insert_at, remove_at, length_remove_at}
use Rattle.rules.specs.declared.Cid.{Cid}
use Rattle.rules.specs.Cid.{same}
use Rattle.discovery_calls.specs.declared.Discovery.{Discovery}
use Rattle.discovery.specs.Discovery.{Page, Source, Discovered, Announcement, lookup, drop_source, relisted, updated, page_of, extended, begun, extend, list, noting, page_count, pages_held, capacity, Rising, Ordered}
use Rattle.discovery.proofs.Laws.{lookup_none, none_lookup, lookup_cid}
use Rattle.discovery.specs.Kept.{Fitting, pages_of}
use Rattle.discovery.proofs.KeptLaws.{proper_begun, proper_extended, proper_lookup, sorted_added, ordered_noting, length_extended, lookup_extended, count_drop, count_append, once_drop, once_append, all_keep, all_append}
use Rattle.discovery_rows.specs.Store.{Head, Leaf, is_head_of, pages_at, sources_at, view_of, any_sources, lookup_pages, renewed, keep_single}
use Rattle.discovery_pages.specs.Leaves.{behind, turned}
use Rattle.discovery_calls.specs.Moves.{with_source, leaf_of, view_with, sound_with, others, listed_head, view_turned, sound_turned, heads_turned, grown, view_extended, sound_extended}
use Rattle.discovery_rows.specs.Walks.{pushed}
use Rattle.discovery_pages.specs.Pool.{dropped_past}
use Rattle.discovery.specs.Discovery.{pool_length}
use Rattle.discovery_pages.specs.Lent.{lent_none}
use Rattle.discovery_rows.specs.Rows.{cid_at, owned, head_of, leaf_at, heads, leaves, total, amount, Few, turned_row, listed_row}
use Rattle.discovery_pages.specs.Passes.{leaf_with, Packs, page_pushed, total_pushed, few_pushed}
use Rattle.discovery_pages.specs.Steps.{pool_room, pool_small}
use Rattle.discovery_calls.specs.View.{heads_of, leaves_of, discovered_of, Kept, Holds, Dropped, heads_append, length_leaves_of, kept_fewer, absent_heads, present_heads, heads_prefix, heads_remove_at, heads_set, heads_get_d, kept_held, single_sound, length_heads}

-- ── a source with one page is put behind the others of its mark ──
module _ (d : Discovery) (S N P : List (List ℕ)) (U : List ℕ) (k : Kept d S N P U) (m now : ℕ) (a : Announcement) (f : Fitting a) (small : m < 2)
    (absent : any (is_head_of m a.cid) (heads_of d S N) ≡ false) (room : d.page_count < capacity)
    (n U' : List ℕ) (name : take (length a.name) n ≡ a.name) (len : length U' ≡ length U)
    (written : take (d.used + length a.universes) U' ≡ take d.used U ++ a.universes)
    (rest : drop (d.used + length a.universes) U' ≡ drop (d.used + length a.universes) U) where
  abbrev pub source_row : List ℕ
  source_row = m ∷ a.cid.hi ∷ a.cid.lo ∷ a.last_page ∷ now ∷ length a.name ∷ []

  abbrev pub page_row : List ℕ
  page_row = m ∷ a.cid.hi ∷ a.cid.lo ∷ a.page ∷ length a.universes ∷ []

  abbrev pub one_more : Discovery
  one_more = record { source_count = d.source_count + 1; page_count = d.page_count + 1; used = d.used + length a.universes }

  abbrev pub new_head : Head
  new_head = record { mark = m; cid = a.cid; name = a.name; last_page = a.last_page; reading = now }

  fewer : d.source_count < capacity
  fewer = omega (arith, kept_fewer d S N P U k)

  heads_added : heads_of one_more (set S d.source_count source_row) (set N d.source_count n) ≡ heads_of d S N ++ new_head ∷ []
  unfolding heads_of
  heads_added =
      let x : length S ≡ capacity = k.source_rows in
      let y : length N ≡ capacity = k.name_rows in
      let i = d.source_count in
      let lt = fewer in
      let p = pushed S (take i S) i source_row (omega arith) refl in
      let q = pushed N (take i N) i n (omega arith) refl in
      ap (λ (rs : List (List ℕ)). heads rs (take (i + 1) (set N i n))) p
      ∙ ap (heads (take i S ++ source_row ∷ [])) q
      ∙ heads_append (take i S) (take i N) source_row n (omega (arith, length-take i S, length-take i N))
      ∙ ap (λ (b : List ℕ). heads (take i S) (take i N) ++ record { mark = m; cid = a.cid; name = b; last_page = a.last_page; reading = now } ∷ []) name

  leaves_added : leaves_of one_more (set P d.page_count page_row) U' ≡ leaves_of d P U ++ leaf_of new_head (page_of a) ∷ []
  unfolding leaves_of
  leaves_added =
      let x : length P ≡ capacity = k.packing.rows in
      let i = d.page_count in
      let l = a.universes in
      let w : take (length l) l ≡ l = take_all (length l) l (omega arith) in
      page_pushed P U U' l i d.used (length l) page_row (omega arith) k.filled
      (omega (arith, k.filled, pool_room i P U (length l) k.packing room f.few_universes))
      refl (written ∙ ap (λ (z : List ℕ). take d.used U ++ z) (sym w))
      ∙ ap (λ (z : List ℕ). leaves (take i P) U ++ leaf_with page_row z ∷ []) w

  pub source_added : Holds U one_more (set S d.source_count source_row) (set N d.source_count n) (set P d.page_count page_row) U'
      (with_source m (begun now a) (discovered_of d S N P U))
  unfolding discovered_of begun
  source_added =
      let hs = heads_of d S N in
      let ls = leaves_of d P U in
      let x : length P ≡ capacity = k.packing.rows in
      let b : pool_length ≤ length U = k.packing.pool in
      let i = d.page_count in
      let lt = fewer in
      record {
        kept = record {
          source_rows = length-set S d.source_count source_row ∙ k.source_rows;
          name_rows = length-set N d.source_count n ∙ k.name_rows;
          within = omega arith;
          packing = record {
            rows = length-set P i page_row ∙ x;
            within = omega arith;
            few = few_pushed P i page_row (omega arith) k.packing.few f.few_universes;
            pool = omega (arith, len);
          };
          filled = omega (arith, total_pushed P i page_row (omega arith), k.filled);
          sound = rw (heads_added, leaves_added)
              (sound_with new_head (page_of a) hs ls k.sound absent small (proper_begun now a f) (omega (arith, length_leaves_of d S N P U k)));
        };
        seen = ap (λ (gs : List Head). view_of gs (leaves_of one_more (set P i page_row) U')) heads_added
            ∙ ap (view_of (hs ++ new_head ∷ [])) leaves_added
            ∙ view_with new_head (page_of a) hs ls k.sound.housed absent;
        lent = record {
          pool_same = len;
          beyond = dropped_past (d.used + length a.universes) pool_length U' U (omega (arith, k.filled, pool_small i P U (length a.universes) k.packing room f.few_universes)) rest;
        };
      }

-- a head that is found shows a source
pub head_source : (d : Discovery) (S N P : List (List ℕ)) (U : List ℕ) (c : Cid) → any (is_head_of 0 c) (heads_of d S N) ≡ true
    → (t : Source) × (lookup c (discovered_of d S N P U).partial ≡ some t)
unfolding discovered_of view_of
head_source d S N P U c a =
    found {C = (t : Source) × (lookup c (sources_at 0 (heads_of d S N) (pages_at 0 (leaves_of d P U))) ≡ some t)} (lookup c (sources_at 0 (heads_of d S N) (pages_at 0 (leaves_of d P U))))
    (λ e.
    let z = none_lookup c (sources_at 0 (heads_of d S N) (pages_at 0 (leaves_of d P U))) e in
    clash a (sym (any_sources 0 c (heads_of d S N) (pages_at 0 (leaves_of d P U))) ∙ z))
    (λ t e. (t, e))

-- and one that is not, none
pub headless : (m : ℕ) (c : Cid) (hs : List Head) (Q : Cid → List Page) → any (is_head_of m c) hs ≡ false → lookup c (sources_at m hs Q) ≡ none
headless m c hs Q a = lookup_none c (sources_at m hs Q) (any_sources m c hs Q ∙ a)

-- ── one page more for a partial source ──
-- its pages stand in order
pub pages_rising : (c : Cid) (d : Discovery) (S N P : List (List ℕ)) (U : List ℕ) (k : Kept d S N P U)
    → prefix (λ r. not (owned 0 c r)) (take d.source_count S) < d.source_count → Rising (pages_at 0 (leaves (take d.page_count P) U) c)
unfolding discovered_of view_of leaves_of
pages_rising c d S N P U k h =
    let Q = pages_at 0 (leaves (take d.page_count P) U) in
    let t = head_source d S N P U c (present_heads 0 c d S N P U k h) in
    let r : Rising t.0.pages = (proper_lookup c (sources_at 0 (heads_of d S N) Q) t.0 k.sound.ordered.partial_proper t.1).rising in
    subst Rising (lookup_pages 0 c (heads_of d S N) Q t.0 t.1) r

abbrev pub renewed_row : ℕ → List ℕ → List ℕ
renewed_row now r = get_or r 0 0 ∷ get_or r 1 0 ∷ get_or r 2 0 ∷ get_or r 3 0 ∷ now ∷ get_or r 5 0 ∷ []

module _ (d : Discovery) (S N P : List (List ℕ)) (U : List ℕ) (k : Kept d S N P U) (now : ℕ) (a : Announcement) (f : Fitting a) (at : ℕ)
    (place : at ≡ prefix (λ r. not (owned 0 a.cid r)) (take d.source_count S)) (inside : at < d.source_count) (room : d.page_count < capacity)
    (P' : List (List ℕ)) (U' : List ℕ)
    (p : Packs (d.page_count + 1) (d.used + length a.universes) U P' U'
    (insert_at (prefix (behind 0 a.cid a.page) (leaves (take d.page_count P) U)) (record { mark = 0; cid = a.cid; page = record { number = a.page; universes = a.universes } })
    (leaves (take d.page_count P) U)))
    (t : Source) (e : lookup a.cid (discovered_of d S N P U).partial ≡ some t) where
  abbrev pub page_more : Discovery
  page_more = record { source_count = d.source_count; page_count = d.page_count + 1; used = d.used + length a.universes }

  h₀ : Head
  h₀ = record { mark = 0; cid = a.cid; name = []; last_page = 0; reading = 0 }

  seen_before : lookup a.cid (view_of (heads_of d S N) (leaves_of d P U)).partial ≡ some t
  unfolding discovered_of
  seen_before = e

  heads_more : heads_of page_more (set S at (renewed_row now (get_or S at []))) N
      ≡ set (heads_of d S N) (prefix (λ h. not (is_head_of 0 a.cid h)) (heads_of d S N)) (renewed now (get_or (heads_of d S N) (prefix (λ h. not (is_head_of 0 a.cid h)) (heads_of d S N)) h₀))
  unfolding heads_of
  heads_more =
      let n = d.source_count in
      let x : length S ≡ capacity = k.source_rows in
      let w : n ≤ capacity = k.within in
      let r = renewed_row now (get_or S at []) in
      let hs = heads (take n S) (take n N) in
      let g : get_or hs at h₀ ≡ head_of (get_or S at []) (get_or (take n N) at []) =
      heads_get_d at (take n S) (take n N) h₀ (omega (arith, length-take n S)) ∙ ap (λ (y : List ℕ). head_of y (get_or (take n N) at [])) (get_or-take n S at [] inside) in
      ap (λ (rs : List (List ℕ)). heads rs (take n N)) (take-set-lt n S at r inside)
      ∙ heads_set at (take n S) (take n N) r
      ∙ ap (λ (h : Head). set hs at (renewed now h)) (sym g)
      ∙ ap (λ (i : ℕ). set hs i (renewed now (get_or hs i h₀))) (place ∙ sym (heads_prefix 0 a.cid (take n S) (take n N)))

  leaves_more_are : leaves_of page_more P' U'
      ≡ insert_at (prefix (behind 0 a.cid a.page) (leaves_of d P U)) (record { mark = 0; cid = a.cid; page = record { number = a.page; universes = a.universes } }) (leaves_of d P U)
  unfolding leaves_of
  leaves_more_are = p.leaves_are

  rising_of : Rising t.pages
  unfolding discovered_of
  rising_of = (proper_lookup a.cid (view_of (heads_of d S N) (leaves_of d P U)).partial t k.sound.ordered.partial_proper e).rising

  grown_is : grown a.cid now (page_of a) h₀ (heads_of d S N) (leaves_of d P U) t k.sound seen_before ≡ extended now a t
  unfolding extended
  grown_is =
      let s = sym (sorted_added (page_of a) t.pages rising_of) in
      λ i. record { cid = t.cid; name = t.name; last_page = t.last_page; reading = now; pages = s i }

  more_ordered : Ordered (noting (extend (extended now a t)) (discovered_of d S N P U))
  unfolding discovered_of
  more_ordered =
      let view = view_of (heads_of d S N) (leaves_of d P U) in
      let o : Ordered view = k.sound.ordered in
      ordered_noting (extend (extended now a t)) view o (t, found_again, length_extended now a t)
      (proper_extended now a t f (proper_lookup a.cid view.partial t o.partial_proper e))
      (omega (arith, kept_held'))
    where
      found_again : lookup (extended now a t).cid (view_of (heads_of d S N) (leaves_of d P U)).partial ≡ some t
      found_again = lookup_extended now a t (view_of (heads_of d S N) (leaves_of d P U)).partial e

      kept_held' : pages_held (view_of (heads_of d S N) (leaves_of d P U)) ≡ d.page_count
      kept_held' = kept_held d S N P U k

  pub source_extended : Holds U page_more (set S at (renewed_row now (get_or S at []))) N P' U' (noting (extend (extended now a t)) (discovered_of d S N P U))
  unfolding discovered_of noting
  source_extended =
      let hs = heads_of d S N in
      let ls = leaves_of d P U in
      let S' = set S at (renewed_row now (get_or S at [])) in
      let v = view_extended a.cid now (page_of a) h₀ hs ls t k.sound seen_before in
      let z : record { partial = updated (grown a.cid now (page_of a) h₀ hs ls t k.sound seen_before) (view_of hs ls).partial; listed = (view_of hs ls).listed }
      ≡ noting (extend (extended now a t)) (view_of hs ls) =
      ap (λ (s : Source). record { partial = updated s (view_of hs ls).partial; listed = (view_of hs ls).listed }) grown_is in
      record {
        kept = record {
          source_rows = length-set S at (renewed_row now (get_or S at [])) ∙ k.source_rows;
          name_rows = k.name_rows;
          within = k.within;
          packing = p.packing;
          filled = p.filled;
          sound = rw (heads_more, leaves_more_are) (sound_extended a.cid now (page_of a) h₀ hs ls t k.sound seen_before (rw z more_ordered));
        };
        seen = ap (λ (gs : List Head). view_of gs (leaves_of page_more P' U')) heads_more
            ∙ ap (view_of (heads_of_renewed hs)) leaves_more_are
            ∙ v ∙ z;
        lent = p.lent;
      }
    where
      heads_of_renewed : List Head → List Head
      heads_of_renewed hs = set hs (prefix (λ h. not (is_head_of 0 a.cid h)) hs) (renewed now (get_or hs (prefix (λ h. not (is_head_of 0 a.cid h)) hs) h₀))

-- ── a partial source is listed ──
-- page rows turned: the leaves turned, in the same pool
pub leaves_turned : (c : Cid) (rs : List (List ℕ)) (us : List ℕ) → leaves (map (turned_row c) rs) us ≡ map (turned c) (leaves rs us)
unfolding leaves
leaves_turned c [] us = refl
leaves_turned c (r ∷ rs) us =
    let e = leaves_turned c rs (drop (amount r) us) in
    split (owned 0 c r)
    (λ h. rw h (ap (λ (ls : List Leaf). record { mark = 1; cid = cid_at r; page = record { number = get_or r 3 0; universes = take (amount r) us } } ∷ ls) e))
    (λ h. rw h (ap (λ (ls : List Leaf). leaf_at r us ∷ ls) e))

total_turned : (c : Cid) (rs : List (List ℕ)) → total (map (turned_row c) rs) ≡ total rs
unfolding total
total_turned c [] = refl
total_turned c (r ∷ rs) = let e = total_turned c rs in split (owned 0 c r) (λ h. rw (h, e)) (λ h. rw (h, e))

few_turned : (c : Cid) (rs : List (List ℕ)) → Few rs → Few (map (turned_row c) rs)
few_turned c [] f = tt
few_turned c (r ∷ rs) f = let e = few_turned c rs f.1 in split (owned 0 c r) (λ h. rw h (f.0, e)) (λ h. rw h (f.0, e))

listed_absent : (c : Cid) (hs : List Head) (ls : List Leaf) → any (is_head_of 1 c) hs ≡ false → any (λ s. same s.cid c) (view_of hs ls).listed ≡ false
unfolding view_of
listed_absent c hs ls b = any_sources 1 c hs (pages_at 1 ls) ∙ b

-- listing holds no more pages
ordered_listed : (c : Cid) (d : Discovered) (t : Source) → Ordered d → lookup c d.partial ≡ some t → any (λ s. same s.cid c) d.listed ≡ false
    → Ordered (record { partial = drop_source c d.partial; listed = d.listed ++ t ∷ [] })
unfolding drop_source
ordered_listed c d t o e a =
    let i : t.cid ≡ c = lookup_cid c d.partial t e in
    let x : pages_of (lookup c d.partial) + page_count (drop_source c d.partial) ≡ page_count d.partial = count_drop c d.partial o.partial_once in
    let y : length t.pages + page_count (drop_source c d.partial) ≡ page_count d.partial = rw e at x in
    let h : pages_held d ≤ capacity = o.fit in
    record {
      partial_once = once_drop c d.partial o.partial_once;
      listed_once = once_append d.listed t (rw i a) o.listed_once;
      partial_proper = all_keep (λ s. not (same s.cid c)) d.partial o.partial_proper;
      listed_proper = all_append d.listed t o.listed_proper (proper_lookup c d.partial t o.partial_proper e);
      fit = omega (arith, y, count_append d.listed t);
    }

module _ (d : Discovery) (S N P : List (List ℕ)) (U : List ℕ) (k : Kept d S N P U) (c : Cid) (at : ℕ)
    (place : at ≡ prefix (λ r. not (owned 0 c r)) (take d.source_count S)) (inside : at < d.source_count)
    (absent : any (is_head_of 1 c) (heads_of d S N) ≡ false) (S' N' P' : List (List ℕ)) (s64 : length S' ≡ capacity) (n64 : length N' ≡ capacity) (p64 : length P' ≡ capacity)
    (s : take d.source_count S' ≡ remove_at at (take d.source_count S) ++ listed_row (get_or S at []) ∷ [])
    (n : take d.source_count N' ≡ remove_at at (take d.source_count N) ++ get_or N at [] ∷ [])
    (p : take d.page_count P' ≡ map (turned_row c) (take d.page_count P))
    (t : Source) (e : lookup c (discovered_of d S N P U).partial ≡ some t) where
  h₁ : Head
  h₁ = record { mark = 0; cid = c; name = []; last_page = 0; reading = 0 }

  seen_partial : lookup c (view_of (heads_of d S N) (leaves_of d P U)).partial ≡ some t
  unfolding discovered_of
  seen_partial = e

  heads_turned_are : heads_of d S' N' ≡ heads_turned c h₁ (heads_of d S N) (leaves_of d P U) t k.sound seen_partial absent
  unfolding heads_of
  heads_turned_are =
      let m = d.source_count in
      let x : length S ≡ capacity = k.source_rows in
      let y : length N ≡ capacity = k.name_rows in
      let w : m ≤ capacity = k.within in
      let hs = heads (take m S) (take m N) in
      let q : at ≡ prefix (λ h. not (is_head_of 0 c h)) hs = place ∙ sym (heads_prefix 0 c (take m S) (take m N)) in
      let l : length (remove_at at (take m S)) ≡ length (remove_at at (take m N)) =
      omega (arith, length_remove_at at (take m S) (omega (arith, length-take m S)), length_remove_at at (take m N) (omega (arith, length-take m N)), length-take m S, length-take m N) in
      let g : get_or hs at h₁ ≡ head_of (get_or S at []) (get_or N at []) =
      heads_get_d at (take m S) (take m N) h₁ (omega (arith, length-take m S))
      ∙ ap (λ (z : List ℕ). head_of z (get_or (take m N) at [])) (get_or-take m S at [] inside)
      ∙ ap (head_of (get_or S at [])) (get_or-take m N at [] inside) in
      let b : remove_at at hs ≡ others 0 c hs =
      ap (λ (i : ℕ). remove_at i hs) q
      ∙ sym (keep_single (is_head_of 0 c) hs (single_sound 0 c hs (leaves_of d P U) k.sound (omega arith)) (omega (arith, q, length_heads (take m S) (take m N), length-take m S))) in
      ap (λ (rs : List (List ℕ)). heads rs (take m N')) s
      ∙ ap (heads (remove_at at (take m S) ++ listed_row (get_or S at []) ∷ [])) n
      ∙ heads_append (remove_at at (take m S)) (remove_at at (take m N)) (listed_row (get_or S at [])) (get_or N at []) l
      ∙ ap (λ (hs' : List Head). hs' ++ listed_head (head_of (get_or S at []) (get_or N at [])) ∷ []) (heads_remove_at at (take m S) (take m N) ∙ b)
      ∙ ap (λ (h : Head). others 0 c hs ++ listed_head h ∷ []) (sym g ∙ ap (λ (i : ℕ). get_or hs i h₁) q)

  leaves_turned_are : leaves_of d P' U ≡ map (turned c) (leaves_of d P U)
  unfolding leaves_of
  leaves_turned_are = ap (λ (rs : List (List ℕ)). leaves rs U) p ∙ leaves_turned c (take d.page_count P) U

  pub source_listed : Holds U d S' N' P' U (record { partial = drop_source c (discovered_of d S N P U).partial; listed = (discovered_of d S N P U).listed ++ t ∷ [] })
  unfolding discovered_of
  source_listed =
      let hs = heads_of d S N in
      let ls = leaves_of d P U in
      let a : any (λ s. same s.cid c) (view_of hs ls).listed ≡ false = listed_absent c hs ls absent in
      let o = ordered_listed c (view_of hs ls) t k.sound.ordered e a in
      record {
        kept = record {
          source_rows = s64;
          name_rows = n64;
          within = k.within;
          packing = record { rows = p64; within = k.packing.within; few = rw p (few_turned c (take d.page_count P) k.packing.few); pool = k.packing.pool };
          filled = k.filled ∙ sym (ap total p ∙ total_turned c (take d.page_count P));
          sound = rw (heads_turned_are, leaves_turned_are) (sound_turned c h₁ hs ls t k.sound seen_partial absent o);
        };
        seen = ap (λ (gs : List Head). view_of gs (leaves_of d P' U)) heads_turned_are
            ∙ ap (view_of (heads_turned c h₁ hs ls t k.sound seen_partial absent)) leaves_turned_are
            ∙ view_turned c h₁ hs ls t k.sound seen_partial absent;
        lent = lent_none U;
      }

-- an owner that has a head has its place
pub found_inside : (m : ℕ) (c : Cid) (d : Discovery) (S N P : List (List ℕ)) (U : List ℕ) (k : Kept d S N P U) → any (is_head_of m c) (heads_of d S N) ≡ true
    → prefix (λ r. not (owned m c r)) (take d.source_count S) < d.source_count
found_inside m c d S N P U k a =
    let p = prefix (λ r. not (owned m c r)) (take d.source_count S) in
    split (ltb p d.source_count)
    (λ h. ltb-true p d.source_count h)
    (λ h. clash a (absent_heads m c d S N P U k (ltb-false p d.source_count h)))

-- ── the old listed entry is dropped, then the partial one turned ──
module _ (c : Cid) (d : Discovery) (S N P : List (List ℕ)) (U : List ℕ) (d₁ : Discovery) (S₁ N₁ P₁ : List (List ℕ)) (U₁ : List ℕ)
    (g : Dropped 1 c d S N P U d₁ S₁ N₁ P₁ U₁) where
  partial_same : (discovered_of d₁ S₁ N₁ P₁ U₁).partial ≡ (discovered_of d S N P U).partial
  partial_same = ap (λ (v : Discovered). v.partial) g.view

  listed_less : (discovered_of d₁ S₁ N₁ P₁ U₁).listed ≡ drop_source c (discovered_of d S N P U).listed
  listed_less = ap (λ (v : Discovered). v.listed) g.view

  pub still_partial : any (is_head_of 0 c) (heads_of d S N) ≡ true → any (is_head_of 0 c) (heads_of d₁ S₁ N₁) ≡ true
  unfolding discovered_of view_of
  still_partial a =
      sym (any_sources 0 c (heads_of d₁ S₁ N₁) (pages_at 0 (leaves_of d₁ P₁ U₁)))
      ∙ ap (any (λ s. same s.cid c)) partial_same
      ∙ any_sources 0 c (heads_of d S N) (pages_at 0 (leaves_of d P U))
      ∙ a

  pub list_done : (at : ℕ) → at ≡ prefix (λ r. not (owned 0 c r)) (take d₁.source_count S₁) → at < d₁.source_count
      → (S' N' P' : List (List ℕ)) → length S' ≡ capacity → length N' ≡ capacity → length P' ≡ capacity
      → take d₁.source_count S' ≡ remove_at at (take d₁.source_count S₁) ++ listed_row (get_or S₁ at []) ∷ []
      → take d₁.source_count N' ≡ remove_at at (take d₁.source_count N₁) ++ get_or N₁ at [] ∷ []
      → take d₁.page_count P' ≡ map (turned_row c) (take d₁.page_count P₁)
      → (t : Source) → lookup c (discovered_of d S N P U).partial ≡ some t → Holds U d₁ S' N' P' U₁ (noting (list t) (discovered_of d S N P U))
  unfolding noting relisted
  list_done at place inside S' N' P' s64 n64 p64 s n p t e =
      let e' : lookup c (discovered_of d₁ S₁ N₁ P₁ U₁).partial ≡ some t = ap (lookup c) partial_same ∙ e in
      let h = source_listed d₁ S₁ N₁ P₁ U₁ g.kept c at place inside g.gone S' N' P' s64 n64 p64 s n p t e' in
      let i : t.cid ≡ c = lookup_cid c (discovered_of d S N P U).partial t e in
      let x : drop_source c (discovered_of d₁ S₁ N₁ P₁ U₁).partial ≡ drop_source t.cid (discovered_of d S N P U).partial =
      ap (drop_source c) partial_same ∙ ap (λ (b : Cid). drop_source b (discovered_of d S N P U).partial) (sym i) in
      let y : (discovered_of d₁ S₁ N₁ P₁ U₁).listed ++ t ∷ [] ≡ drop_source t.cid (discovered_of d S N P U).listed ++ t ∷ [] =
      ap (λ (l : List Source). l ++ t ∷ []) (listed_less ∙ ap (λ (b : Cid). drop_source b (discovered_of d S N P U).listed) (sym i)) in
      record { kept = h.kept; seen = h.seen ∙ (λ j. record { partial = x j; listed = y j }); lent = g.lent }
