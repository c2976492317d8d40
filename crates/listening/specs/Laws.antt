-- One law for each loop turn and each return of the code, over lists.
-- Assumes nothing.
use Rattle.std.specs.Prelude.{◌≡◌, ◌≢◌, true, false, List, [], ◌∷◌, ℕ, ◌+◌, ◌-◌, zero, suc, ◌≤◌, ◌<◌, not, drop, get_or, Result, Ok, Err, Some, None}
use Rattle.std.specs.List as list
use Rattle.std.specs.List.Sorted.{IsPartitionedBy, IsPartitionPoint, IsBinarySearchResult}
use Rattle.std.specs.Ordering.{nat_cmp}
use Rattle.std.proofs.lemmas.List.Sorted.{IsNonDecreasingBy-from_default, IsPartitionedBy-ltb, searched}
use Rattle.std.proofs.Math.Path.{refl, sym, ap}
use Rattle.std.proofs.Common.{◌∙◌, arith, add-one, get_or-take}
use Rattle.std.proofs.Math.Option.{Option, none, some}
use Rattle.std.proofs.Math.Dec.{ltb}
use Rattle.std.proofs.Math.ListN.{length, take, length-take}
use Rattle.std.proofs.Math.Seq.{drop-cons}
use borrow.Author.Tests.{lt-ltb, le-ltb, ltb-true, ltb-false}
use Rattle.laws.specs.Cases.{found, split}
use Rattle.laws.specs.Order.{ℕOrder}
use Rattle.laws.specs.Halving.{under_at, place_behind, place_front}
use Rattle.laws.specs.Table.{Ascending, find, store, remove, find_key, store_known, ascending_store, ascending_remove, length_store_new, length_store_known}
use Rattle.laws.specs.Place.{place, insert_at, remove_at, prefix_le, prefix_stop, present, absent, absent_end, found_place, store_insert, remove_place}
use Rattle.rules.specs.Universe.{legal}
use Rattle.model.specs.declared.ListenAnswer.TheVariants as listen
use Rattle.model.specs.declared.MuteAnswer.TheVariants as muting
use Rattle.model.specs.State.{itself, listens}
use Rattle.model.specs.Step.{most_listened, illegal, joined_by, listen_all}
use Rattle.model.specs.Calls.{muted}
use Rattle.listening.specs.declared.Listened.{Listened}
use Rattle.listening.specs.View.{listened_of, listened, Kept, spot, spot_of, illegal_of, Stands, Joins, Listens, Mutes}

-- ── where a universe stands ──
module _ (u n : ℕ) (rows : List ℕ) (fits : n ≤ length rows) (i : ℕ) (at : i ≡ place ltb itself u (take n rows)) where
  read : i < n → get_or (take n rows) (place ltb itself u (take n rows)) 0 ≡ get_or rows i 0
  read h = ap (λ (j : ℕ). get_or (take n rows) j 0) (sym at) ∙ get_or-take n rows i 0 h

  pub spot_hit : i < n → get_or rows i 0 ≡ u → Ok i ≡ spot_of u (take n rows)
  spot_hit h e =
      let p = present ltb itself ℕOrder u (take n rows) 0 (omega (arith, length-take n rows)) (read h ∙ e) in
      ap Ok at ∙ ap (spot (place ltb itself u (take n rows))) (sym p)

  pub spot_miss : i < n → get_or rows i 0 ≢ u → Err i ≡ spot_of u (take n rows)
  spot_miss h e =
      let p = absent ltb itself ℕOrder u (take n rows) 0 (omega (arith, length-take n rows)) (λ f. e (sym (read h) ∙ f)) in
      ap Err at ∙ ap (spot (place ltb itself u (take n rows))) (sym p)

  pub spot_end : n ≤ i → Err i ≡ spot_of u (take n rows)
  spot_end h =
      let p = absent_end ltb itself ℕOrder u (take n rows) (omega (arith, length-take n rows)) in
      ap Err at ∙ ap (spot (place ltb itself u (take n rows))) (sym p)

-- what the library's partition point is among universes that ascend
pub apart : (l : List ℕ) → Ascending ltb itself l → (i j : ℕ) → i < j → j < length l → get_or l i 0 < get_or l j 0
apart [] a i j h r = absurd (omega arith)
apart (x ∷ l) a i zero h r = absurd (omega arith)
apart (x ∷ l) a zero (suc j) h r = ltb-true x (get_or l j 0) (under_at ltb itself x l j 0 a.0 (omega arith))
apart (x ∷ l) a (suc i) (suc j) h r = apart l a.1 i j (omega arith) (omega arith)

module _ (u n : ℕ) (rows : List ℕ) (fits : n ≤ length rows) (a : Ascending ltb itself (take n rows)) where
  rises : (i j : ℕ) → i ≤ j → j < length (take n rows) → get_or (take n rows) i 0 ≤ get_or (take n rows) j 0
  rises i j h r =
      split (ltb i j)
      (λ e. omega (arith, apart (take n rows) a i j (ltb-true i j e) r))
      (λ e. let same : i ≡ j = omega (arith, ltb-false i j e) in rw same (omega arith))

  pub parted : IsPartitionedBy (λ y. ltb y u) (take n rows)
  parted = IsPartitionedBy-ltb (λ y. y) (take n rows) u (IsNonDecreasingBy-from_default (λ y. y) (take n rows) 0 rises)

  pub place_parted : (i : ℕ) → i ≤ length (take n rows) → IsPartitionPoint (λ y. ltb y u ≡ true) (λ y. ltb y u ≡ false) (take n rows) i
      → i ≡ place ltb itself u (take n rows)
  place_parted i h p =
      let l = take n rows in
      let below : place ltb itself u l ≤ i =
      split (ltb i (length l))
      (λ e. let r = ltb-true i _ e in place_front ltb itself u l i 0 r (p.1 i 0 (omega arith) r))
      (λ e. omega (arith, prefix_le (λ e. ltb e u) l, ltb-false i _ e)) in
      let above : i ≤ place ltb itself u l =
      split (ltb 0 i)
      (λ e.
      let r = ltb-true 0 i e in
      let q = place_behind ltb itself u ℕOrder l (i - 1) 0 a (omega arith) (p.0 (i - 1) 0 (omega arith) (omega arith)) in
      omega arith)
      (λ e. omega (arith, ltb-false 0 i e)) in
      omega arith

  -- what the library's binary search finds among them: the same spot
  -- the universe at the place, if there is one, is not below
  at_place : place ltb itself u (take n rows) < length (take n rows) → u ≤ get_or (take n rows) (place ltb itself u (take n rows)) 0
  at_place h = ltb-false _ u (prefix_stop (λ e. ltb e u) (take n rows) 0 h)

  pub spot_searched : (r : Result ℕ ℕ) → IsBinarySearchResult (λ y. nat_cmp y u) (take n rows) r → r ≡ spot_of u (take n rows)
  spot_searched (Ok i) s =
      let m = searched (take n rows) u (Ok i) s rises in
      let long = length-take n rows in
      let below : place ltb itself u (take n rows) ≤ i = place_front ltb itself u (take n rows) i 0 m.0 (le-ltb _ u (omega (arith, m.1))) in
      let above : i ≤ place ltb itself u (take n rows) =
      split (ltb (place ltb itself u (take n rows)) i)
      (λ e.
      let p = ltb-true _ i e in
      absurd (omega (arith, m.0, m.1, apart (take n rows) a (place ltb itself u (take n rows)) i p m.0, at_place (omega (arith, m.0)))))
      (λ e. ltb-false _ i e) in
      spot_hit u n rows fits i (omega arith) (omega (arith, m.0)) (sym (get_or-take n rows i 0 (omega (arith, m.0))) ∙ m.1)
  spot_searched (Err i) s =
      let m = searched (take n rows) u (Err i) s rises in
      let long = length-take n rows in
      let below : place ltb itself u (take n rows) ≤ i =
      split (ltb i (length (take n rows)))
      (λ e. let h = ltb-true i _ e in place_front ltb itself u (take n rows) i 0 h (le-ltb _ u (omega (arith, m.2 i (omega arith) h))))
      (λ e. omega (arith, prefix_le (λ e. ltb e u) (take n rows), ltb-false i _ e)) in
      let above : i ≤ place ltb itself u (take n rows) =
      split (ltb (place ltb itself u (take n rows)) i)
      (λ e.
      let p = ltb-true _ i e in
      absurd (omega (arith, m.0, m.1 (place ltb itself u (take n rows)) p, at_place (omega (arith, m.0)))))
      (λ e. ltb-false _ i e) in
      split (ltb i n)
      (λ e.
      let h = ltb-true i n e in
      spot_miss u n rows fits i (omega arith) h (λ f. omega (arith, f, get_or-take n rows i 0 h, m.2 i (omega arith) (omega arith))))
      (λ e. spot_end u n rows fits i (omega arith) (ltb-false i n e))

-- what each spot says of the list
module _ (u i : ℕ) (l : List ℕ) where
  pub taken : spot_of u l ≡ Ok i → (find ltb itself u l ≡ some u) × (i ≡ place ltb itself u l)
  taken h =
      found (find ltb itself u l)
      (λ n. let z : ◌≡◌ {A = ℕ} 0 1 = cc in absurd (omega arith))
      (λ e s. let k = find_key ltb itself ℕOrder u e l s in ((cc), (cc)))

  pub free : spot_of u l ≡ Err i → (find ltb itself u l ≡ none) × (i ≡ place ltb itself u l)
  free h =
      found (find ltb itself u l)
      (λ n. (n, (cc)))
      (λ e s. let z : ◌≡◌ {A = ℕ} 0 1 = cc in absurd (omega arith))

  pub listens_taken : spot_of u l ≡ Ok i → true ≡ listens u l
  listens_taken h = let t = (taken h).0 in cc

  pub listens_free : spot_of u l ≡ Err i → false ≡ listens u l
  listens_free h = let t = (free h).0 in cc

module _ (u i n : ℕ) (rows : List ℕ) where
  pub taken_within : spot_of u (take n rows) ≡ Ok i → i < n
  taken_within h =
      let t = taken u i (take n rows) h in
      let p = found_place ltb itself ℕOrder u (take n rows) u 0 t.0 in
      omega (arith, t.1, p.0, length-take n rows)

  pub free_within : spot_of u (take n rows) ≡ Err i → i ≤ n
  free_within h =
      let t = free u i (take n rows) h in
      omega (arith, t.1, prefix_le (λ e. ltb e u) (take n rows), length-take n rows)

-- ── one universe put in ──
module _ (u n : ℕ) (rows : List ℕ) (k : Kept (listened n) rows) where
  pub join_known : (i : ℕ) → spot_of u (take n rows) ≡ Ok i → Joins u n rows (Some n) rows
  join_known i h = record {
    stands = (k, sym (store_known ltb itself ℕOrder u (take n rows) k.ascending (taken u i (take n rows) h).0));
    refused = λ e. refl;
  }

  pub join_new : (i : ℕ) (after : List ℕ) → spot_of u (take n rows) ≡ Err i → n < most_listened → length after ≡ most_listened
      → take (n + 1) after ≡ insert_at i u (take n rows) → Joins u n rows (Some (n + 1)) after
  join_new i after h r l e =
      let f = free u i (take n rows) h in
      let s : take (n + 1) after ≡ store ltb itself u (take n rows) =
      e ∙ ap (λ (j : ℕ). insert_at j u (take n rows)) f.1 ∙ sym (store_insert ltb itself ℕOrder u (take n rows) u refl f.0) in
      record {
        stands = (record { room = l; within = omega arith; ascending = rw s (ascending_store ltb itself ℕOrder u (take n rows) k.ascending) }, s);
        refused = λ e. let z : ◌≡◌ {A = ℕ} 0 1 = cc in absurd (omega arith);
      }

  pub join_full : (i : ℕ) → spot_of u (take n rows) ≡ Err i → most_listened ≤ n → Joins u n rows None rows
  join_full i h r = record {
    stands = omega (arith, length_store_new ltb itself ℕOrder u (take n rows) (free u i (take n rows) h).0, length-take n rows, k.room);
    refused = λ e. refl;
  }

-- ── universes put in one by one ──
pub length_store : (u : ℕ) (l : List ℕ) → length l ≤ length (store ltb itself u l)
length_store u l =
    found (find ltb itself u l)
    (λ h. omega (arith, length_store_new ltb itself ℕOrder u l h))
    (λ e h. omega (arith, length_store_known ltb itself ℕOrder u e l h))

-- the set never shrinks
pub length_joined : (us l : List ℕ) → length l ≤ length (joined_by us l)
unfolding joined_by
length_joined [] l = omega arith
length_joined (u ∷ us) l = omega (arith, length_store u l, length_joined us (store ltb itself u l))

module _ (us : List ℕ) (i : ℕ) (h : i < length us) where
  pub joined_next : (l : List ℕ) → joined_by (drop i us) l ≡ joined_by (drop (i + 1) us) (store ltb itself (get_or us i 0) l)
  unfolding joined_by
  joined_next l = rw (add-one, drop-cons us i 0 h)

  -- once too long, always
  pub joined_over : (l : List ℕ) → most_listened < length (store ltb itself (get_or us i 0) l) → most_listened < length (joined_by (drop i us) l)
  joined_over l g = rw (joined_next l) (omega (arith, length_joined (drop (i + 1) us) (store ltb itself (get_or us i 0) l)))

  pub illegal_next : legal (get_or us i 0) ≡ true → illegal (drop (i + 1) us) ≡ illegal (drop i us)
  unfolding illegal
  illegal_next e = rw (add-one, drop-cons us i 0 h, e)

  pub illegal_here : legal (get_or us i 0) ≡ false → illegal (drop i us) ≡ some (get_or us i 0)
  unfolding illegal
  illegal_here e = rw (drop-cons us i 0 h, e)

pub joined_end : (l : List ℕ) → joined_by [] l ≡ l
unfolding joined_by
joined_end l = refl

pub joined_one : (u : ℕ) (l : List ℕ) → joined_by (u ∷ []) l ≡ store ltb itself u l
unfolding joined_by
joined_one u l = refl

pub illegal_end : illegal [] ≡ none
unfolding illegal
illegal_end = refl

-- the library's search for it
pub illegal_found : (us : List ℕ) → illegal_of (illegal us) ≡ list.find (λ u. not (legal u)) us
unfolding illegal
illegal_found [] = refl
illegal_found (u ∷ us) = split (legal u) (λ h. rw (h, illegal_found us)) (λ h. rw h)

pub illegal_one : (u : ℕ) → legal u ≡ false → illegal (u ∷ []) ≡ some u
unfolding illegal
illegal_one u e = rw e

pub legal_one : (u : ℕ) → legal u ≡ true → illegal (u ∷ []) ≡ none
unfolding illegal
legal_one u e = rw e

-- what the pass for illegal universes found
pub first_some : (o : Option ℕ) (u : ℕ) → illegal_of o ≡ Some u → o ≡ some u
first_some none u h = let z : ◌≡◌ {A = ℕ} 0 1 = cc in absurd (omega arith)
first_some (some x) u h = cc

pub nothing_none : (o : Option ℕ) → illegal_of o ≡ None → o ≡ none
nothing_none none h = refl
nothing_none (some x) h = let z : ◌≡◌ {A = ℕ} 0 1 = cc in absurd (omega arith)

-- ── the returns of `listen_universes` ──
module _ (us : List ℕ) (l : Listened) (rows : List ℕ) (k : Kept l rows) where
  pub listens_illegal : (u : ℕ) → illegal us ≡ some u → Listens us l rows (record { left = l; answer = listen.IllegalUniverse u }) rows
  unfolding listen_all
  listens_illegal u h = record { view = rw (h, listen_all); kept = k; refused = λ e. refl }

  pub listens_full : illegal us ≡ none → most_listened < length (joined_by us (listened_of l rows))
      → Listens us l rows (record { left = l; answer = listen.ListenedFull }) rows
  unfolding listen_all
  listens_full h g = record {
    view = rw (h, listen_all, lt-ltb most_listened (length (joined_by us (listened_of l rows))) g);
    kept = k;
    refused = λ e. refl;
  }

  pub listens_all : (n : ℕ) (after : List ℕ) → illegal us ≡ none → Stands (Some n) (joined_by us (listened_of l rows)) after
      → Listens us l rows (record { left = listened n; answer = listen.Listening }) after
  unfolding listen_all
  listens_all n after h s =
      let g : length (joined_by us (listened_of l rows)) ≤ most_listened = omega (arith, ap length s.1, length-take n after, s.0.room) in
      record {
        view = rw (h, listen_all, le-ltb most_listened (length (joined_by us (listened_of l rows))) g, s.1);
        kept = s.0;
        refused = λ e. absurd (e refl);
      }

-- ── the returns of `mute_universe` ──
module _ (u : ℕ) (l : Listened) (rows : List ℕ) (k : Kept l rows) where
  pub mutes_illegal : legal u ≡ false → Mutes u l rows (record { left = l; answer = muting.IllegalUniverse u }) rows
  unfolding muted
  mutes_illegal h = record { view = rw h; kept = k; refused = λ e. refl }

  pub mutes_unknown : (i : ℕ) → legal u ≡ true → spot_of u (listened_of l rows) ≡ Err i
      → Mutes u l rows (record { left = l; answer = muting.UniverseNotRegistered u }) rows
  unfolding muted
  mutes_unknown i h f = record { view = rw (h, ← (listens_free u i (listened_of l rows) f)); kept = k; refused = λ e. refl }

  pub mutes_known : (i n : ℕ) (after : List ℕ) → legal u ≡ true → spot_of u (listened_of l rows) ≡ Ok i → n ≤ most_listened
      → length after ≡ most_listened → take n after ≡ remove_at i (listened_of l rows)
      → Mutes u l rows (record { left = listened n; answer = muting.Muted }) after
  unfolding muted
  mutes_known i n after h f r g e =
      let t = taken u i (listened_of l rows) f in
      let s : take n after ≡ remove ltb itself u (listened_of l rows) =
      e ∙ ap (λ (j : ℕ). remove_at j (listened_of l rows)) t.1 ∙ sym (remove_place ltb itself ℕOrder u (listened_of l rows) u t.0) in
      record {
        view = rw (h, ← (listens_taken u i (listened_of l rows) f), s);
        kept = record { room = g; within = r; ascending = rw s (ascending_remove ltb itself ℕOrder u (listened_of l rows) k.ascending) };
        refused = λ e. absurd (e refl);
      }

-- ── a list that is refused ──
-- an address that is refused leaves the list
pub refused_list : (us L : List ℕ) → (listen_all us L).1 ≢ listen.Listening → (listen_all us L).0 ≡ L
refused_list us L n =
    found (illegal us)
    (λ e. split (ltb most_listened (length (joined_by us L)))
    (λ f. unfold listen_all in cc)
    (λ f. absurd (n (unfold listen_all in cc))))
    (λ u e. unfold listen_all in cc)
