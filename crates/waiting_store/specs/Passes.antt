-- The loops over entries: what holds between two turns, one law for a turn, one for the end.
-- Assumes nothing.
use Rattle.std.specs.Prelude.{◌≡◌, refl, Bool, true, false, ℕ, suc, ◌+◌, ◌-◌, ◌≤◌, ◌<◌, length, drop, get_or, set}
use Rattle.std.proofs.Math.Path.{sym, ap}
use Rattle.std.proofs.Common.{◌∙◌, arith, add-one, take-take}
use mathlib.Core.List.{List, [], ◌++◌, append-nil}
use Rattle.std.proofs.Math.ListN.{take}
use Rattle.laws.specs.Table.{keep}
use Rattle.laws.specs.Place.{insert_at, remove_at}
use Rattle.laws.specs.Arrays.{spent, move, compact_keep, compact_drop}
use Rattle.laws.specs.Gap.{gap, gap_start, gap_move, gap_fill}
use Rattle.merge.specs.declared.DmxData.{DmxData}
use Rattle.merge.specs.Merge.{Dmx}
use Rattle.waiting.specs.Waiting.{capacity}
use Rattle.waiting_store.specs.Entries.{head_of, entries, nothing, Room, Lent, lent_none, lent_then, length_entries, entry_at}
use Rattle.waiting_store.specs.Posts.{Changed, Held}

-- as many entries as rows
pub length_64 : (rows₀ rows : List (List ℕ)) (store₀ store : List ℕ) → Room rows₀ store₀ → Lent rows₀ store₀ rows store → length (entries rows store) ≡ capacity
length_64 rows₀ rows store₀ store r l = length_entries rows store ∙ l.rows_same ∙ r.rows_length

-- the header of an entry is its row's
pub head_at : (rows : List (List ℕ)) (store : List ℕ) (i : ℕ) → i < length rows → (get_or (entries rows store) i nothing).head ≡ head_of (get_or rows i [])
head_at rows store i h = ap (λ (d : Dmx). d.head) (entry_at rows store i nothing h)

module _ (rows₀ : List (List ℕ)) (store₀ : List ℕ) (n : ℕ) where
  -- ── an entry is taken out: place w counts for nothing ──
  pub record Removing (i : ℕ) (rows : List (List ℕ)) (store : List ℕ) (w : ℕ) : Type 0 where
    pub inside : w < n
    pub lent : Lent rows₀ store₀ rows store
    pub so_far : take w (entries rows store) ++ drop (w + 1) (take n (entries rows store)) ≡ remove_at i (take n (entries rows₀ store₀))

  pub removing_start : (i : ℕ) → i < n → Removing i rows₀ store₀ i
  removing_start i h = record {
    inside = h;
    lent = lent_none rows₀ store₀;
    so_far = rw (add-one i) (ap (λ (x : List Dmx). x ++ drop (suc i) (take n (entries rows₀ store₀))) (sym (take-take i n (entries rows₀ store₀) (omega arith))));
  }

  pub removing_turn : (i : ℕ) (rows rows' : List (List ℕ)) (store store' : List ℕ) (w : ℕ) → Room rows₀ store₀ → n ≤ capacity → Removing i rows store w → w + 1 < n
      → Changed rows store rows' store' (set (entries rows store) w (get_or (entries rows store) (w + 1) nothing)) → Removing i rows' store' (w + 1)
  removing_turn i rows rows' store store' w r b v h c =
      let l = length_64 rows₀ rows store₀ store r v.lent in
      record {
        inside = h;
        lent = lent_then v.lent c.lent;
        so_far = rw c.becomes (move (entries rows store) n w (w + 1) nothing (omega arith) h (omega arith) ∙ v.so_far);
      }

  pub removing_end : (i : ℕ) (rows : List (List ℕ)) (store : List ℕ) (w : ℕ) → Room rows₀ store₀ → n ≤ capacity → Removing i rows store w → n ≤ w + 1
      → Held rows₀ store₀ rows store (n - 1) (remove_at i (take n (entries rows₀ store₀)))
  removing_end i rows store w r b v h =
      let g = v.inside in
      let e : n - 1 ≡ w = omega arith in
      let s = spent (entries rows store) n (w + 1) (omega arith) in
      record { lends = v.lent; holds = rw e (sym (append-nil (take w (entries rows store))) ∙ ap (λ (x : List Dmx). take w (entries rows store) ++ x) (sym s) ∙ v.so_far) }

  -- ── an entry is put in: place j counts for nothing ──
  pub record Inserting (i : ℕ) (rows : List (List ℕ)) (store : List ℕ) (j : ℕ) : Type 0 where
    pub low : i ≤ j
    pub high : j ≤ n
    pub lent : Lent rows₀ store₀ rows store
    pub so_far : gap n j (entries rows store) ≡ take n (entries rows₀ store₀)

  pub inserting_start : (i : ℕ) → Room rows₀ store₀ → i ≤ n → n < capacity → Inserting i rows₀ store₀ n
  inserting_start i r h b =
      let l = length_64 rows₀ rows₀ store₀ store₀ r (lent_none rows₀ store₀) in
      record { low = h; high = omega arith; lent = lent_none rows₀ store₀; so_far = gap_start (entries rows₀ store₀) n (omega arith) }

  pub inserting_turn : (i : ℕ) (rows rows' : List (List ℕ)) (store store' : List ℕ) (j : ℕ) → Room rows₀ store₀ → n < capacity → Inserting i rows store j → i < j
      → Changed rows store rows' store' (set (entries rows store) j (get_or (entries rows store) (j - 1) nothing)) → Inserting i rows' store' (j - 1)
  inserting_turn i rows rows' store store' j r b v h c =
      let l = length_64 rows₀ rows store₀ store r v.lent in
      let g = v.high in
      record {
        low = omega arith;
        high = omega arith;
        lent = lent_then v.lent c.lent;
        so_far = rw c.becomes (gap_move (entries rows store) n (omega arith) j nothing (omega arith) g ∙ v.so_far);
      }

  pub inserting_end : (i : ℕ) (rows rows' : List (List ℕ)) (store store' : List ℕ) (x : Dmx) → Room rows₀ store₀ → n < capacity → Inserting i rows store i
      → Changed rows store rows' store' (set (entries rows store) i x) → Held rows₀ store₀ rows' store' (n + 1) (insert_at i x (take n (entries rows₀ store₀)))
  inserting_end i rows rows' store store' x r b v c =
      let l = length_64 rows₀ rows store₀ store r v.lent in
      let g = v.high in
      record {
        lends = lent_then v.lent c.lent;
        holds = rw c.becomes (gap_fill (entries rows store) n (omega arith) i x (take n (entries rows₀ store₀)) g v.so_far);
      }

  -- ── a pass keeps the entries whose header passes the test ──
  module _ (t : DmxData → Bool) where
    pub record Keeping (rows : List (List ℕ)) (store : List ℕ) (kept i : ℕ) : Type 0 where
      pub behind : kept ≤ i
      pub inside : i ≤ n
      pub lent : Lent rows₀ store₀ rows store
      pub so_far : take kept (entries rows store) ++ keep (λ (e : Dmx). t e.head) (drop i (take n (entries rows store)))
          ≡ keep (λ (e : Dmx). t e.head) (take n (entries rows₀ store₀))

    pub keeping_start : Keeping rows₀ store₀ 0 0
    keeping_start = record { behind = omega arith; inside = omega arith; lent = lent_none rows₀ store₀; so_far = refl }

    module _ (rows : List (List ℕ)) (store : List ℕ) (kept i : ℕ) (r : Room rows₀ store₀) (b : n ≤ capacity) (v : Keeping rows store kept i) where
      pub keeping_drop : i < n → t (head_of (get_or rows i [])) ≡ false → Keeping rows store kept (i + 1)
      keeping_drop h e =
          let l = length_64 rows₀ rows store₀ store r v.lent in
          let k = length_entries rows store in
          let g = v.behind in
          record {
            behind = omega arith;
            inside = omega arith;
            lent = v.lent;
            so_far = compact_drop (entries rows store) n (λ (x : Dmx). t x.head) kept i nothing h (omega arith) (ap t (head_at rows store i (omega arith)) ∙ e) ∙ v.so_far;
          }

      pub keeping_keep : (rows' : List (List ℕ)) (store' : List ℕ) → i < n → t (head_of (get_or rows i [])) ≡ true
          → Changed rows store rows' store' (set (entries rows store) kept (get_or (entries rows store) i nothing)) → Keeping rows' store' (kept + 1) (i + 1)
      keeping_keep rows' store' h e c =
          let l = length_64 rows₀ rows store₀ store r v.lent in
          let k = length_entries rows store in
          let g = v.behind in
          record {
            behind = omega arith;
            inside = omega arith;
            lent = lent_then v.lent c.lent;
            so_far = rw c.becomes (compact_keep (entries rows store) n (λ (x : Dmx). t x.head) kept i nothing h (omega arith) g (ap t (head_at rows store i (omega arith)) ∙ e) ∙ v.so_far);
          }

      pub keeping_end : n ≤ i → Held rows₀ store₀ rows store kept (keep (λ (e : Dmx). t e.head) (take n (entries rows₀ store₀)))
      unfolding keep
      keeping_end h =
          let s = spent (entries rows store) n i (omega arith) in
          record {
            lends = v.lent;
            holds = sym (append-nil (take kept (entries rows store)))
                ∙ ap (λ (x : List Dmx). take kept (entries rows store) ++ keep (λ (e : Dmx). t e.head) x) (sym s) ∙ v.so_far;
          }
