-- What is read out of the sources' rows: the k-th entry of a list that passes a test, where it stands, and how many there are.
-- Assumes nothing.
use Rattle.std.specs.Prelude.{◌≡◌, Bool, true, false, ltb, drop, get_or}
use Rattle.std.specs.List.{fold}
use Rattle.std.proofs.Math.Path.{refl, sym, ap}
use Rattle.std.proofs.Common.{◌∙◌, drop_of_length-le, get_or-take, drop-drop, take-take}
use mathlib.Core.List.{List, [], ◌∷◌}
use Prim.Native.Nat.{ℕ, zero, suc, ◌+◌, ◌-◌, ◌≤◌, ◌<◌, min}
use native.Mathlib.Omega.{arith}
use Rattle.std.proofs.Math.ListN.{length, take, length-take, length-drop}
use Rattle.std.proofs.Math.Seq.{take_all, take-nil}
use borrow.Author.Tests.{ltb-true, ltb-false}
use Rattle.laws.specs.Cases.{split}
use Rattle.laws.specs.Table.{keep}
use Rattle.laws.specs.Arrays.{next}
use Rattle.rules.specs.declared.Cid.{Cid}
use Rattle.discovery_calls.specs.declared.Discovery.{Discovery}
use Rattle.discovery.specs.Discovery.{Page, Source, capacity}
use Rattle.discovery_rows.specs.Store.{pages_at, source_of, sources_at, view_of}
use Rattle.discovery_rows.specs.Rows.{owned, head_of, leaf_at, heads, leaves, total, amount}
use Rattle.discovery_calls.specs.View.{heads_of, leaves_of, discovered_of}
use Rattle.discovery_reads.specs.Reads.{PageAt, SourceAt, marked_row, nth, page_of_row, pages_of, source_of_row, sources_of}

module _ {A : Type 0} (p : A → Bool) where
  -- it is the k-th of those that pass
  pub nth_keep : (k : ℕ) (l : List A) (d : A) → k < length (keep p l) → (nth p k l < length l) × (get_or l (nth p k l) d ≡ get_or (keep p l) k d)
  unfolding nth keep
  nth_keep k [] d h = absurd (omega arith)
  nth_keep zero (x ∷ l) d h =
      split (p x)
      (λ e. rw e (omega arith, refl))
      (λ e. let r = nth_keep zero l d (rw e at h) in let q = r.0 in rw e (omega arith, r.1))
  nth_keep (suc k) (x ∷ l) d h =
      split (p x)
      (λ e. let g : suc k < length (x ∷ keep p l) = rw e at h in let r = nth_keep k l d (omega arith) in let q = r.0 in rw e (omega arith, r.1))
      (λ e. let r = nth_keep (suc k) l d (rw e at h) in let q = r.0 in rw e (omega arith, r.1))

  -- there are not so many
  pub nth_none : (k : ℕ) (l : List A) → length (keep p l) ≤ k → nth p k l ≡ length l
  unfolding nth keep
  nth_none k [] h = refl
  nth_none zero (x ∷ l) h =
      split (p x)
      (λ e. let g : length (x ∷ keep p l) ≤ 0 = rw e at h in absurd (omega arith))
      (λ e. let r = nth_none zero l (rw e at h) in rw e (ap suc r))
  nth_none (suc k) (x ∷ l) h =
      split (p x)
      (λ e. let g : length (x ∷ keep p l) ≤ suc k = rw e at h in let r = nth_none k l (omega arith) in rw e (ap suc r))
      (λ e. let r = nth_none (suc k) l (rw e at h) in rw e (ap suc r))

  -- the next entry looked at
  module _ (a : List A) (n r : ℕ) (d : A) (h : r < n) (l : r < length a) where
    pub nth_here : p (get_or a r d) ≡ true → r + nth p 0 (drop r (take n a)) ≡ r
    unfolding nth
    nth_here e = rw (next a n r d h l, e) (omega arith)

    pub nth_past : (k : ℕ) → p (get_or a r d) ≡ true → r + 1 + nth p k (drop (r + 1) (take n a)) ≡ r + nth p (suc k) (drop r (take n a))
    unfolding nth
    nth_past k e = rw (next a n r d h l, e) (omega arith)

    pub nth_over : (k : ℕ) → p (get_or a r d) ≡ false → r + 1 + nth p k (drop (r + 1) (take n a)) ≡ r + nth p k (drop r (take n a))
    unfolding nth
    nth_over zero e = rw (next a n r d h l, e) (omega arith)
    nth_over (suc k) e = rw (next a n r d h l, e) (omega arith)

    pub count_one : p (get_or a r d) ≡ true → suc (length (keep p (drop (r + 1) (take n a)))) ≡ length (keep p (drop r (take n a)))
    unfolding keep
    count_one e = rw (next a n r d h l, e)

    pub count_none : p (get_or a r d) ≡ false → length (keep p (drop (r + 1) (take n a))) ≡ length (keep p (drop r (take n a)))
    unfolding keep
    count_none e = rw (next a n r d h l, e)

-- a sum that stops at the most, row by row
pub summed : (most : ℕ) (rows : List (List ℕ)) (start : ℕ) → start ≤ most → fold (λ (s : ℕ) (row : List ℕ). min (s + amount row) most) start rows ≡ min (start + total rows) most
unfolding total
summed most [] start h = omega arith
summed most (row ∷ rows) start h = omega (arith, summed most rows (min (start + amount row) most) (omega arith))

pub sources_count : (m : ℕ) (rs ns : List (List ℕ)) (Q : Cid → List Page) → length (sources_at m (heads rs ns) Q) ≡ length (keep (marked_row m) rs)
unfolding sources_at heads keep
sources_count m [] ns Q = refl
sources_count m (r ∷ rs) ns Q =
    let e = sources_count m rs (drop 1 ns) Q in
    split (marked_row m r) (λ h. rw h (ap suc e)) (λ h. rw h e)

-- the k-th source of a mark is that of the k-th row
pub sources_nth : (m k : ℕ) (rs ns : List (List ℕ)) (Q : Cid → List Page) (s₀ : Source) → k < length (sources_at m (heads rs ns) Q)
    → (nth (marked_row m) k rs < length rs)
    × (get_or (sources_at m (heads rs ns) Q) k s₀ ≡ source_of Q (head_of (get_or rs (nth (marked_row m) k rs) []) (get_or ns (nth (marked_row m) k rs) [])))
unfolding sources_at heads nth
sources_nth m k [] ns Q s₀ h = absurd (omega arith)
sources_nth m zero (r ∷ rs) ns Q s₀ h =
    split (marked_row m r)
    (λ e. rw e (omega arith, refl))
    (λ e. let g = sources_nth m zero rs (drop 1 ns) Q s₀ (rw e at h) in let q = g.0 in rw e (omega arith, g.1 ∙ later ns))
  where
    later : (ns : List (List ℕ)) → source_of Q (head_of (get_or rs (nth (marked_row m) zero rs) []) (get_or (drop 1 ns) (nth (marked_row m) zero rs) [])) ≡ source_of Q (head_of (get_or rs (nth (marked_row m) zero rs) []) (get_or ns (suc (nth (marked_row m) zero rs)) []))
    later [] = refl
    later (n ∷ ns) = refl
sources_nth m (suc k) (r ∷ rs) ns Q s₀ h =
    split (marked_row m r)
    (λ e.
    let b : suc k < length (source_of Q (head_of r (get_or ns 0 [])) ∷ sources_at m (heads rs (drop 1 ns)) Q) = rw e at h in
    let g = sources_nth m k rs (drop 1 ns) Q s₀ (omega arith) in
    let q = g.0 in
    rw e (omega arith, g.1 ∙ later (nth (marked_row m) k rs) ns))
    (λ e. let g = sources_nth m (suc k) rs (drop 1 ns) Q s₀ (rw e at h) in let q = g.0 in rw e (omega arith, g.1 ∙ later (nth (marked_row m) (suc k) rs) ns))
  where
    later : (i : ℕ) (ns : List (List ℕ)) → source_of Q (head_of (get_or rs i []) (get_or (drop 1 ns) i [])) ≡ source_of Q (head_of (get_or rs i []) (get_or ns (suc i) []))
    later i [] = refl
    later i (n ∷ ns) = refl

-- ── the pages of an owner ──
pub pages_count : (m : ℕ) (c : Cid) (rs : List (List ℕ)) (us : List ℕ) → length (pages_at m (leaves rs us) c) ≡ length (keep (owned m c) rs)
unfolding pages_at leaves keep
pages_count m c [] us = refl
pages_count m c (r ∷ rs) us =
    let e = pages_count m c rs (drop (amount r) us) in
    split (owned m c r) (λ h. rw h (ap suc e)) (λ h. rw h e)

-- the k-th page of an owner is that of the k-th row: its number, and the universes from where those of the rows before it end
pub pages_nth : (m : ℕ) (c : Cid) (k : ℕ) (rs : List (List ℕ)) (us : List ℕ) (p₀ : Page) → k < length (pages_at m (leaves rs us) c)
    → (nth (owned m c) k rs < length rs)
    × (get_or (pages_at m (leaves rs us) c) k p₀ ≡ (leaf_at (get_or rs (nth (owned m c) k rs) []) (drop (total (take (nth (owned m c) k rs) rs)) us)).page)
unfolding pages_at leaves keep nth total
pages_nth m c k [] us p₀ h = absurd (omega arith)
pages_nth m c zero (r ∷ rs) us p₀ h =
    split (owned m c r)
    (λ e. rw e (omega arith, refl))
    (λ e.
    let g = pages_nth m c zero rs (drop (amount r) us) p₀ (rw e at h) in
    let q = g.0 in
    rw e (omega arith, g.1 ∙ ap (λ (v : List ℕ). (leaf_at (get_or rs (nth (owned m c) zero rs) []) v).page) (drop-drop (total (take (nth (owned m c) zero rs) rs)) (amount r) us)))
pages_nth m c (suc k) (r ∷ rs) us p₀ h =
    split (owned m c r)
    (λ e.
    let b : suc k < suc (length (pages_at m (leaves rs (drop (amount r) us)) c)) = rw e at h in
    let g = pages_nth m c k rs (drop (amount r) us) p₀ (omega arith) in
    let q = g.0 in
    rw e (omega arith, g.1 ∙ ap (λ (v : List ℕ). (leaf_at (get_or rs (nth (owned m c) k rs) []) v).page) (drop-drop (total (take (nth (owned m c) k rs) rs)) (amount r) us)))
    (λ e.
    let g = pages_nth m c (suc k) rs (drop (amount r) us) p₀ (rw e at h) in
    let q = g.0 in
    rw e (omega arith, g.1 ∙ ap (λ (v : List ℕ). (leaf_at (get_or rs (nth (owned m c) (suc k) rs) []) v).page) (drop-drop (total (take (nth (owned m c) (suc k) rs) rs)) (amount r) us)))

-- ── read out of the state ──
module _ (d : Discovery) (S : List (List ℕ)) where
  pub partial_total : (N P : List (List ℕ)) (U : List ℕ) → length (discovered_of d S N P U).partial ≡ length (keep (marked_row 0) (take d.source_count S))
  unfolding discovered_of view_of heads_of
  partial_total N P U = sources_count 0 (take d.source_count S) (take d.source_count N) (pages_at 0 (leaves_of d P U))

  pub listed_total : (N P : List (List ℕ)) (U : List ℕ) → length (discovered_of d S N P U).listed ≡ length (keep (marked_row 1) (take d.source_count S))
  unfolding discovered_of view_of heads_of
  listed_total N P U = sources_count 1 (take d.source_count S) (take d.source_count N) (pages_at 1 (leaves_of d P U))

-- a count past the rows is the count of the rows
pub take_within : (count n : ℕ) (rows : List (List ℕ)) → length rows ≡ capacity → n ≡ min count capacity → take n rows ≡ take count rows
take_within count n rows l e =
    split (ltb capacity count)
    (λ h.
    let g = ltb-true capacity count h in
    take_all n rows (omega arith) ∙ sym (take_all count rows (omega arith)))
    (λ h. let g = ltb-false capacity count h in let z : n ≡ count = omega arith in ap (λ (m : ℕ). take m rows) z)

module _ (m : ℕ) (d : Discovery) (S N P : List (List ℕ)) (U : List ℕ) (k : ℕ) where
  source_placed : (s₀ : Source) → k < length (sources_of m d S N P U)
      → (nth (marked_row m) k (take d.source_count S) < d.source_count)
      × (get_or (sources_of m d S N P U) k s₀ ≡ source_of_row m d S N P U (nth (marked_row m) k (take d.source_count S)))
  unfolding heads_of source_of_row
  source_placed s₀ h =
      let n = d.source_count in
      let Q = pages_at m (leaves_of d P U) in
      let g = sources_nth m k (take n S) (take n N) Q s₀ h in
      let r = nth (marked_row m) k (take n S) in
      let b : r < length (take n S) = g.0 in
      let i : r < n = omega (arith, length-take n S) in (
        i,
        g.1
            ∙ ap (λ (x : List ℕ). source_of Q (head_of x (get_or (take n N) r []))) (get_or-take n S r [] i)
            ∙ ap (λ (x : List ℕ). source_of Q (head_of (get_or S r []) x)) (get_or-take n N r [] i),
      )

  source_past : length (sources_of m d S N P U) ≤ k → nth (marked_row m) k (take d.source_count S) ≡ length (take d.source_count S)
  unfolding heads_of
  source_past h =
      let n = d.source_count in
      let e = sources_count m (take n S) (take n N) (pages_at m (leaves_of d P U)) in
      nth_none (marked_row m) k (take n S) (omega arith)

  source_inside : k < length (sources_of m d S N P U) → nth (marked_row m) k (take d.source_count S) < length (take d.source_count S)
  unfolding heads_of
  source_inside h =
      let n = d.source_count in
      let e = sources_count m (take n S) (take n N) (pages_at m (leaves_of d P U)) in
      (nth_keep (marked_row m) k (take n S) [] (omega arith)).0

  -- as far as there are rows: a row holds it, or there are not so many
  pub source_at : (n r : ℕ) → length S ≡ capacity → n ≡ min d.source_count capacity → r ≡ nth (marked_row m) k (take n S) → r < n → SourceAt m k r d S N P U
  source_at n r l f e h =
      let c = d.source_count in
      let x : r ≡ nth (marked_row m) k (take c S) = e ∙ ap (nth (marked_row m) k) (take_within c n S l f) in
      record {
        held = λ s₀ g. rw x (source_placed s₀ g);
        past = λ g. absurd (omega (arith, x, source_past g, length-take c S));
        inside = λ g. omega arith;
      }

  pub source_none : (n r : ℕ) → length S ≡ capacity → n ≡ min d.source_count capacity → r ≡ nth (marked_row m) k (take n S) → n ≤ r → SourceAt m k d.source_count d S N P U
  source_none n r l f e h =
      let c = d.source_count in
      let x : r ≡ nth (marked_row m) k (take c S) = e ∙ ap (nth (marked_row m) k) (take_within c n S l f) in
      record {
        held = λ s₀ g. absurd (omega (arith, x, source_inside g, length-take c S));
        past = λ g. refl;
        inside = λ g. absurd (omega arith);
      }

module _ (m : ℕ) (c : Cid) (d : Discovery) (P : List (List ℕ)) (U : List ℕ) (k : ℕ) where
  page_placed : (p₀ : Page) → k < length (pages_of m c d P U)
      → (nth (owned m c) k (take d.page_count P) < d.page_count)
      × (get_or (pages_of m c d P U) k p₀ ≡ page_of_row P U (nth (owned m c) k (take d.page_count P)))
  unfolding leaves_of page_of_row
  page_placed p₀ h =
      let n = d.page_count in
      let g = pages_nth m c k (take n P) U p₀ h in
      let r = nth (owned m c) k (take n P) in
      let b : r < length (take n P) = g.0 in
      let i : r < n = omega (arith, length-take n P) in
      let j : r ≤ n = omega arith in (
        i,
        g.1
            ∙ ap (λ (x : List ℕ). (leaf_at x (drop (total (take r (take n P))) U)).page) (get_or-take n P r [] i)
            ∙ ap (λ (x : List (List ℕ)). (leaf_at (get_or P r []) (drop (total x) U)).page) (take-take r n P j),
      )

  page_past : length (pages_of m c d P U) ≤ k → nth (owned m c) k (take d.page_count P) ≡ length (take d.page_count P)
  unfolding leaves_of
  page_past h =
      let n = d.page_count in
      let e = pages_count m c (take n P) U in
      nth_none (owned m c) k (take n P) (omega arith)

  page_held : k < length (pages_of m c d P U) → nth (owned m c) k (take d.page_count P) < length (take d.page_count P)
  unfolding leaves_of
  page_held h =
      let n = d.page_count in
      let e = pages_count m c (take n P) U in
      (nth_keep (owned m c) k (take n P) [] (omega arith)).0

  pub page_at : (n r : ℕ) → length P ≡ capacity → n ≡ min d.page_count capacity → r ≡ nth (owned m c) k (take n P) → r < n → PageAt m c k r d P U
  page_at n r l f e h =
      let q = d.page_count in
      let x : r ≡ nth (owned m c) k (take q P) = e ∙ ap (nth (owned m c) k) (take_within q n P l f) in
      record {
        held = λ p₀ g. rw x (page_placed p₀ g);
        past = λ g. absurd (omega (arith, x, page_past g, length-take q P));
        inside = λ g. omega arith;
      }

  pub page_none : (n r : ℕ) → length P ≡ capacity → n ≡ min d.page_count capacity → r ≡ nth (owned m c) k (take n P) → n ≤ r → PageAt m c k d.page_count d P U
  page_none n r l f e h =
      let q = d.page_count in
      let x : r ≡ nth (owned m c) k (take q P) = e ∙ ap (nth (owned m c) k) (take_within q n P l f) in
      record {
        held = λ p₀ g. absurd (omega (arith, x, page_held g, length-take q P));
        past = λ g. refl;
        inside = λ g. absurd (omega arith);
      }

pub page_number : (m : ℕ) (c : Cid) (d : Discovery) (P : List (List ℕ)) (U : List ℕ) → length (pages_at m (leaves_of d P U) c) ≡ length (keep (owned m c) (take d.page_count P))
unfolding leaves_of
page_number m c d P U = pages_count m c (take d.page_count P) U

-- ── a page's universes in the pool ──
get_d_past : {A : Type 0} (l : List A) (i : ℕ) (d : A) → length l ≤ i → get_or l i d ≡ d
get_d_past [] i d h = refl
get_d_past (x ∷ l) zero d h = absurd (omega arith)
get_d_past (x ∷ l) (suc i) d h = get_d_past l i d (omega arith)

-- as far as they lie in the pool
module _ (P : List (List ℕ)) (U : List ℕ) (at start end : ℕ) (s : start ≡ min (total (take at P)) (length U)) (e : end ≡ min (start + amount (get_or P at [])) (length U)) where
  pub page_part : take (end - start) (drop start U) ≡ (page_of_row P U at).universes
  unfolding page_of_row
  page_part =
      let t = total (take at P) in
      let n = amount (get_or P at []) in
      split (ltb t (length U))
      (λ h.
      let g = ltb-true t (length U) h in
      let x : start ≡ t = omega arith in
      let q : take (end - start) (drop t U) ≡ take n (drop t U) = part_within n (end - start) (drop t U) (omega (arith, length-drop t U)) in
      ap (λ (j : ℕ). take (end - start) (drop j U)) x ∙ q)
      (λ h.
      let g = ltb-false t (length U) h in
      let x : start ≡ length U = omega arith in
      ap (take (end - start)) (drop_of_length-le U {i = start} (omega arith)) ∙ take-nil (end - start) ∙ sym (ap (take n) (drop_of_length-le U {i = t} g) ∙ take-nil n))
    where
      -- no more can be taken than there is
      part_within : (n m : ℕ) (l : List ℕ) → m ≡ min n (length l) → take m l ≡ take n l
      part_within n m l e =
          split (ltb (length l) n)
          (λ h. let g = ltb-true (length l) n h in take_all m l (omega arith) ∙ sym (take_all n l (omega arith)))
          (λ h. let g = ltb-false (length l) n h in let z : m ≡ n = omega arith in ap (λ (j : ℕ). take j l) z)

-- no row has no universes
pub page_missing : (P : List (List ℕ)) (U : List ℕ) (at : ℕ) → length P ≤ at → (page_of_row P U at).universes ≡ []
unfolding page_of_row
page_missing P U at h = ap (λ (r : List ℕ). take (get_or r 4 0) (drop (total (take at P)) U)) (get_d_past P at [] h)
