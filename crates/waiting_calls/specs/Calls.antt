-- What each call shows: the waiting data that it makes, in order and within its count, and the memory that it keeps.
-- Assumes nothing.
use Rattle.std.specs.Prelude.{◌≡◌, Bool, true, false, ℕ, ◌+◌, ◌-◌, ◌*◌, ◌≤◌, ◌<◌, length, take, drop, get_or, set, replicate, Ok, Err}
use Rattle.std.proofs.Math.Path.{refl, sym, ap}
use Rattle.std.proofs.Common.{◌∙◌, subst, arith, length-take, get_or-take, le-leb, lt-ltb, le-ltb, ltb-true, ltb-false}
use Rattle.std.proofs.Math.Bool.{not}
use Rattle.std.proofs.Math.Option.{Option, none, some}
use mathlib.Core.List.{List, []}
use Rattle.std.proofs.Math.Dec.{ltb}
use Rattle.std.proofs.Math.ListN.{get_or-eq_default}
use Rattle.std.proofs.lemmas.Bool.{lt-leb}
use Rattle.std.specs.List.{list_any}
use Rattle.laws.specs.Cases.{split, clash}
use Rattle.laws.specs.Library.{any_is}
use Rattle.laws.specs.Lent.{Part}
use Rattle.laws.specs.Order.{ℕOrder}
use Rattle.laws.specs.Table.{keep, any, store as put, remove, Ascending, keep_all, remove_absent}
use Rattle.laws.specs.Place.{prefix, prefix_le, place, insert_at, remove_at, absent_end, absent, present, store_insert, store_replace, remove_place}
use Rattle.laws.specs.Arrays.{replace}
use Rattle.settings.specs.declared.MergeChoice.{MergeChoice}
use Rattle.merge.specs.declared.DmxData.{DmxData}
use Rattle.merge.specs.Merge.{Dmx, most_values}
use Rattle.rules.specs.Age.{expired}
use Rattle.waiting.specs.declared.StoreAnswer.{StoreAnswer}
use Rattle.waiting.specs.declared.StoreAnswer.TheVariants.{Stored, MergeRefused, WaitingFull}
use Rattle.waiting.specs.declared.StoreCall.{StoreCall}
use Rattle.waiting.specs.declared.StoreCall.TheVariants.{Taken, TooLong}
use Rattle.waiting.specs.declared.ReleaseAnswer.{ReleaseAnswer}
use Rattle.waiting.specs.declared.ReleaseAnswer.TheVariants.{Released, OutputShort}
use Rattle.waiting.specs.Waiting.{universe_of, waiting_for, capacity, merged, stored, released, cleared, held, fresh, swept, left, of_address}
use Rattle.waiting.specs.Records.{records, most_bytes}
use Rattle.waiting.specs.Answers.{store_call, store_number_of, store_values_of, store_told, release_call, release_output, release_number_of, release_values_of, release_told}
use Rattle.waiting_store.specs.Written.{Writing}
use Rattle.waiting.proofs.Laws.{ordered_stored, ordered_cleared, ordered_swept, ordered_left, stored_merged, stored_refused, stored_full, stored_new, merged_universe, store_answer_told, release_answer_told}
use Rattle.waiting_store.specs.Entries.{head_of, count_of, entries, nothing, waiting_of, Room, Kept, Lent, lent_none, lent_then, lent_room, kept_ordered, length_waiting, prefix_entries, any_entries, read_entry}
use Rattle.waiting_store.specs.Posts.{Held, below, Sought}
use Rattle.waiting_store.specs.Passes.{head_at}
use Rattle.waiting_joins.specs.Joins.{Joined}

-- what every call yields: the waiting data ds, ready for the next call, in memory that is else unchanged
pub record Yields (rows : List (List ℕ)) (store : List ℕ) (rows' : List (List ℕ)) (store' : List ℕ) (n : ℕ) (ds : List Dmx) : Type 0 where
  pub kept : Kept n rows' store'
  pub lent : Lent rows store rows' store'
  pub view : waiting_of n rows' store' ≡ ds

-- of lent rows and a lent store
abbrev pub YieldsIn : Part (List (List ℕ)) → Part (List ℕ) → ℕ → List Dmx → Type 0
YieldsIn rows store n ds = Yields rows.entry.now store.entry.now rows.exit.now store.exit.now n ds

-- storing values within 513, with the answer
pub record StoredCall (n : ℕ) (rows : List (List ℕ)) (store : List ℕ) (choice : MergeChoice) (p : Dmx) (rows' : List (List ℕ)) (store' : List ℕ) (m : ℕ) (a : StoreAnswer) : Type 0 where
  pub yields : Yields rows store rows' store' m (stored choice p (waiting_of n rows store)).0
  pub answers : a ≡ (stored choice p (waiting_of n rows store)).1
  pub full_unchanged : a ≡ WaitingFull → (rows' ≡ rows) × (store' ≡ store)

-- `store_waiting_data`; values over 513 leave all
pub record StoreCalled (n : ℕ) (rows : List (List ℕ)) (store : List ℕ) (choice : MergeChoice) (p : Dmx) (rows' : List (List ℕ)) (store' : List ℕ) (m : ℕ) (c : StoreCall) : Type 0 where
  pub yields : Yields rows store rows' store' m (store_call choice p (waiting_of n rows store)).0
  pub answers : c ≡ (store_call choice p (waiting_of n rows store)).1
  pub told : (store_number_of c, store_values_of c) ≡ store_told choice p (waiting_of n rows store)
  pub full_unchanged : c ≡ Taken WaitingFull → (rows' ≡ rows) × (store' ≡ store)
  pub long_unchanged : most_values < length p.values → (m ≡ n) × (rows' ≡ rows) × (store' ≡ store)

-- `rtrv_waiting_data`; an output that is too short leaves all
pub record ReleaseCalled (n : ℕ) (rows : List (List ℕ)) (store : List ℕ) (now a : ℕ) (out : List ℕ) (rows' : List (List ℕ)) (store' out' : List ℕ) (m : ℕ) (r : ReleaseAnswer) : Type 0 where
  pub yields : Yields rows store rows' store' m (release_call (length out) now a (waiting_of n rows store)).0
  pub answers : r ≡ (release_call (length out) now a (waiting_of n rows store)).1
  pub told : (release_number_of r, release_values_of r) ≡ release_told (length out) now a (waiting_of n rows store)
  pub written : out' ≡ release_output now a (waiting_of n rows store) out
  pub short_unchanged : length out < most_bytes → (m ≡ n) × (rows' ≡ rows) × (store' ≡ store) × (out' ≡ out)

-- `check_waiting_data_timeouts`; where nothing is expired, nothing is written
pub record SweptCall (n : ℕ) (rows : List (List ℕ)) (store : List ℕ) (now : ℕ) (rows' : List (List ℕ)) (store' : List ℕ) (m : ℕ) : Type 0 where
  pub yields : Yields rows store rows' store' m (swept now (waiting_of n rows store))
  pub quiet : any (λ (d : Dmx). not (fresh now d)) (waiting_of n rows store) ≡ false → (rows' ≡ rows) × (store' ≡ store)

-- nothing waits: there is nothing to sweep, nor to clear
module _ (n : ℕ) (rows : List (List ℕ)) (store : List ℕ) (e : n ≡ 0) (k : Kept n rows store) where
  pub none_swept : (now : ℕ) → SweptCall n rows store now rows store n
  none_swept now = record {
    yields = record { kept = k; lent = lent_none rows store; view = subst (λ (x : ℕ). waiting_of x rows store ≡ swept now (waiting_of x rows store)) (sym e) (unfold keep in refl) };
    quiet = λ z. (refl, refl);
  }

  pub none_cleared : (u : ℕ) → Yields rows store rows store n (cleared u (waiting_of n rows store)).0
  none_cleared u = record { kept = k; lent = lent_none rows store; view = subst (λ (x : ℕ). waiting_of x rows store ≡ (cleared u (waiting_of x rows store)).0) (sym e) (unfold cleared remove in refl) }

-- no data at all, whatever the memory holds
pub record Empty (n : ℕ) : Type 0 where
  pub none_waits : (rows : List (List ℕ)) (store : List ℕ) → waiting_of n rows store ≡ []
  pub kept : (rows : List (List ℕ)) (store : List ℕ) → Room rows store → Kept n rows store

pub empty_zero : Empty 0
empty_zero = record { none_waits = λ rows store. refl; kept = λ rows store r. record { room = r; count_fits = omega arith; ascends = tt } }

yield : (n m : ℕ) (rows rows' : List (List ℕ)) (store store' : List ℕ) (ds : List Dmx) → Kept n rows store → Lent rows store rows' store' → m ≤ capacity
    → waiting_of m rows' store' ≡ ds → Ascending ltb universe_of ds → Yields rows store rows' store' m ds
yield n m rows rows' store store' ds k l f v a = record {
  kept = record { room = lent_room k.room l; count_fits = f; ascends = rw v a };
  lent = l;
  view = v;
}

not_full : {C : Type 0} → Stored ≡ WaitingFull → C
not_full e = let z : ◌≡◌ {A = ℕ} 0 1 = cc in absurd (omega arith)

not_refused : {C : Type 0} → MergeRefused ≡ WaitingFull → C
not_refused e = let z : ◌≡◌ {A = ℕ} 0 1 = cc in absurd (omega arith)

-- nothing changes
pub unchanged : (n : ℕ) (rows : List (List ℕ)) (store : List ℕ) (ds : List Dmx) → Kept n rows store → waiting_of n rows store ≡ ds → Yields rows store rows store n ds
unchanged n rows store ds k v = record { kept = k; lent = lent_none rows store; view = v }

module _ (n : ℕ) (rows : List (List ℕ)) (store : List ℕ) (k : Kept n rows store) where
  -- what waits
  abbrev ds : List Dmx
  ds = waiting_of n rows store

  -- ── a universe sought ──
  module _ (u i : ℕ) where
    placed : i ≡ prefix (λ row. below u (head_of row)) (take n rows) → place ltb universe_of u ds ≡ i
    placed e = sym (e ∙ prefix_entries (below u) n rows store)

    row_at : i < n → (get_or ds i nothing).head ≡ head_of (get_or rows i [])
    row_at h =
        let a = k.room.rows_length in
        let b = k.count_fits in
        ap (λ (d : Dmx). d.head) (get_or-take n (entries rows store) i nothing h) ∙ head_at rows store i (omega arith)

    pub found_at : Sought u n rows (Ok i) → waiting_for u ds ≡ some (get_or (entries rows store) i nothing)
    found_at s =
        let p = placed s.0 in
        let h = s.1 in
        let l = length_waiting k in
        let e : universe_of (get_or ds (place ltb universe_of u ds) nothing) ≡ u = rw p (ap (λ (d : DmxData). d.universe) (row_at h) ∙ s.2) in
        present ltb universe_of ℕOrder u ds nothing (omega arith) e ∙ ap some (rw p (get_or-take n (entries rows store) i nothing h))

    pub found_none : Sought u n rows (Err i) → waiting_for u ds ≡ none
    found_none s =
        let p = placed s.0 in
        let l = length_waiting k in
        split (ltb i n)
        (λ f.
        let h = ltb-true i n f in
        absent ltb universe_of ℕOrder u ds nothing (omega arith) (λ e. s.1 h (sym (ap (λ (d : DmxData). d.universe) (row_at h)) ∙ ap (λ (j : ℕ). universe_of (get_or ds j nothing)) (sym p) ∙ e)))
        (λ f. let h = ltb-false i n f in absent_end ltb universe_of ℕOrder u ds (omega arith))

    taken : Sought u n rows (Ok i) → remove ltb universe_of u ds ≡ remove_at i ds
    taken s = remove_place ltb universe_of ℕOrder u ds (get_or (entries rows store) i nothing) (found_at s) ∙ ap (λ (j : ℕ). remove_at j ds) (placed s.0)

    -- ── `clear_waiting_data` ──
    pub clears : (rows' : List (List ℕ)) (store' : List ℕ) → Sought u n rows (Ok i) → Held rows store rows' store' (n - 1) (remove_at i (take n (entries rows store)))
        → Yields rows store rows' store' (n - 1) (cleared u ds).0 × (true ≡ (cleared u ds).1)
    unfolding cleared
    clears rows' store' s c =
        let b = k.count_fits in
        (yield n (n - 1) rows rows' store store' (remove ltb universe_of u ds) k c.lends (omega arith) (c.holds ∙ sym (taken s)) (unfold cleared in (ordered_cleared u ds (kept_ordered k)).ascends), ap held (sym (found_at s)))

    pub clears_none : Sought u n rows (Err i) → Yields rows store rows store n (cleared u ds).0 × (false ≡ (cleared u ds).1)
    unfolding cleared
    clears_none s =
        (unchanged n rows store (remove ltb universe_of u ds) k (sym (remove_absent ltb universe_of ℕOrder u ds (found_none s))), ap held (sym (found_none s)))

  -- ── `store_waiting_data` ──
  module _ (choice : MergeChoice) (p : Dmx) (i : ℕ) (f : length p.values ≤ most_values) where
    making : (rows' : List (List ℕ)) (store' : List ℕ) (m : ℕ) (a : StoreAnswer) (es : List Dmx) → stored choice p ds ≡ (es, a) → (a ≡ WaitingFull → (rows' ≡ rows) × (store' ≡ store))
        → Lent rows store rows' store' → m ≤ capacity → waiting_of m rows' store' ≡ es → StoredCall n rows store choice p rows' store' m a
    making rows' store' m a es e z l h v =
        let o = ordered_stored choice p ds (kept_ordered k) f in
        let q : (stored choice p ds).0 ≡ es = ap (λ (x : List Dmx × StoreAnswer). x.0) e in
        record {
          yields = yield n m rows rows' store store' (stored choice p ds).0 k l h (v ∙ sym q) o.ascends;
          answers = sym (ap (λ (x : List Dmx × StoreAnswer). x.1) e);
          full_unchanged = z;
        }

    pub stores_full : Sought (universe_of p) n rows (Err i) → capacity ≤ n → StoredCall n rows store choice p rows store n WaitingFull
    stores_full s h =
        let l = length_waiting k in
        making rows store n WaitingFull ds (stored_full choice p ds (found_none (universe_of p) i s) (le-leb capacity (length ds) (omega arith))) (λ e. (refl, refl)) (lent_none rows store) k.count_fits refl

    pub stores_new : (rows' : List (List ℕ)) (store' : List ℕ) → Sought (universe_of p) n rows (Err i) → n < capacity
        → Held rows store rows' store' (n + 1) (insert_at i p (take n (entries rows store))) → StoredCall n rows store choice p rows' store' (n + 1) Stored
    stores_new rows' store' s h c =
        let l = length_waiting k in
        let e = store_insert ltb universe_of ℕOrder (universe_of p) ds p refl (found_none (universe_of p) i s) ∙ ap (λ (j : ℕ). insert_at j p ds) (placed (universe_of p) i s.0) in
        making rows' store' (n + 1) Stored (put ltb universe_of p ds) (stored_new choice p ds (found_none (universe_of p) i s) (lt-leb capacity (length ds) (omega arith))) (λ z. not_full z) c.lends (omega arith) (c.holds ∙ sym e)

    -- the merge of the entry found
    module _ (s : Sought (universe_of p) n rows (Ok i)) where
      abbrev waits : Dmx
      waits = get_or (entries rows store) i nothing

      pub stores_merged : (rows' : List (List ℕ)) (store' : List ℕ) → Joined rows store rows' store' i (merged choice waits p) true → StoredCall n rows store choice p rows' store' n Stored
      stores_merged rows' store' j = go (merged choice waits p) refl j
        where
          go : (o : Option Dmx) → merged choice waits p ≡ o → Joined rows store rows' store' i o true → StoredCall n rows store choice p rows' store' n Stored
          go none m j = let z : true ≡ false = j.joins in let y : ◌≡◌ {A = ℕ} 0 1 = cc in absurd (omega arith)
          go (some d) m j =
              let w = found_at (universe_of p) i s in
              let u = merged_universe choice waits p d (ap (λ (h : DmxData). h.universe) (sym (ap (λ (x : Dmx). x.head) (get_or-take n (entries rows store) i nothing s.1)) ∙ row_at (universe_of p) i s.1) ∙ s.2) m in
              let e = store_replace ltb universe_of ℕOrder (universe_of p) ds d waits u w ∙ ap (λ (q : ℕ). set ds q d) (placed (universe_of p) i s.0) in
              making rows' store' n Stored (put ltb universe_of d ds) (stored_merged choice p ds waits d w m) (λ z. not_full z) j.changed.lent k.count_fits
              (ap (take n) j.changed.becomes ∙ replace (entries rows store) n i d ∙ sym e)

      -- refused: the entry is taken out of what the merge left as it was
      pub stores_refused : (rows₁ rows' : List (List ℕ)) (store₁ store' : List ℕ) → Joined rows store rows₁ store₁ i (merged choice waits p) false
          → Held rows₁ store₁ rows' store' (n - 1) (remove_at i (take n (entries rows₁ store₁))) → StoredCall n rows store choice p rows' store' (n - 1) MergeRefused
      stores_refused rows₁ rows' store₁ store' j c = go (merged choice waits p) refl j
        where
          go : (o : Option Dmx) → merged choice waits p ≡ o → Joined rows store rows₁ store₁ i o false → StoredCall n rows store choice p rows' store' (n - 1) MergeRefused
          go (some d) m j = let z : false ≡ true = j.joins in let y : ◌≡◌ {A = ℕ} 0 1 = cc in absurd (omega arith)
          go none m j =
              let b = k.count_fits in
              making rows' store' (n - 1) MergeRefused (remove ltb universe_of (universe_of p) ds) (stored_refused choice p ds waits (found_at (universe_of p) i s) m) (λ z. not_refused z) (lent_then j.changed.lent c.lends) (omega arith)
              (c.holds ∙ ap (λ (x : List Dmx). remove_at i (take n x)) j.changed.becomes ∙ sym (taken (universe_of p) i s))

  -- ── `check_waiting_data_timeouts` ──
  pub sweeps : (now : ℕ) (rows' : List (List ℕ)) (store' : List ℕ) (m : ℕ) → any (λ row. not (not (expired now (head_of row).recv_timestamp))) (take n rows) ≡ true → m ≤ n
      → Held rows store rows' store' m (keep (fresh now) (take n (entries rows store))) → SweptCall n rows store now rows' store' m
  sweeps now rows' store' m e h c =
      let b = k.count_fits in
      record {
        yields = yield n m rows rows' store store' (swept now ds) k c.lends (omega arith) c.holds (ordered_swept now ds (kept_ordered k)).ascends;
        quiet = λ q. clash (sym (any_entries (λ (d : DmxData). not (not (expired now d.recv_timestamp))) n rows store) ∙ e) q;
      }

  pub sweeps_none : (now : ℕ) → any (λ row. not (not (expired now (head_of row).recv_timestamp))) (take n rows) ≡ false → SweptCall n rows store now rows store n
  sweeps_none now e =
      let q = sym (any_entries (λ (d : DmxData). not (not (expired now d.recv_timestamp))) n rows store) ∙ e in
      record {
        yields = unchanged n rows store (swept now ds) k (sym (keep_all (fresh now) (λ d. not (fresh now d)) ds (λ d h. back (fresh now d) h) q));
        quiet = λ z. (refl, refl);
      }
    where
      back : (b : Bool) → not b ≡ false → b ≡ true
      back true h = refl
      back false h = cc

  -- the same by the library's look
  pub sweeps_look : (now : ℕ) (rows' : List (List ℕ)) (store' : List ℕ) (m : ℕ) → list_any (λ row. not (not (expired now (head_of row).recv_timestamp))) (take n rows) ≡ true → m ≤ n
      → Held rows store rows' store' m (keep (fresh now) (take n (entries rows store))) → SweptCall n rows store now rows' store' m
  sweeps_look now rows' store' m e h c = sweeps now rows' store' m (any_is (λ row. not (not (expired now (head_of row).recv_timestamp))) (take n rows) ∙ e) h c

  pub sweeps_look_none : (now : ℕ) → list_any (λ row. not (not (expired now (head_of row).recv_timestamp))) (take n rows) ≡ false → SweptCall n rows store now rows store n
  sweeps_look_none now e = sweeps_none now (any_is (λ row. not (not (expired now (head_of row).recv_timestamp))) (take n rows) ∙ e)

  -- ── `rtrv_waiting_data`: what is left ──
  pub leaves : (a : ℕ) (rows' : List (List ℕ)) (store' : List ℕ) (m : ℕ) → m ≤ n
      → Held rows store rows' store' m (keep (λ (d : Dmx). not (of_address a d)) (take n (entries rows store))) → Yields rows store rows' store' m (left a ds)
  unfolding left
  leaves a rows' store' m h c =
      let b = k.count_fits in
      yield n m rows rows' store store' (keep (λ (d : Dmx). not (of_address a d)) ds) k c.lends (omega arith) c.holds (unfold left in (ordered_left a ds (kept_ordered k)).ascends)

-- ── `store_waiting_data`, with the test of the values before it ──
module _ (n : ℕ) (rows : List (List ℕ)) (store : List ℕ) (choice : MergeChoice) (p : Dmx) where
  within_call : length p.values ≤ most_values
      → store_call choice p (waiting_of n rows store) ≡ ((stored choice p (waiting_of n rows store)).0, Taken (stored choice p (waiting_of n rows store)).1)
  unfolding store_call
  within_call f = rw (le-ltb most_values (length p.values) f)

  long_call : most_values < length p.values → store_call choice p (waiting_of n rows store) ≡ (waiting_of n rows store, TooLong (length p.values))
  unfolding store_call
  long_call h = rw (lt-ltb most_values (length p.values) h)

  pub called_long : Kept n rows store → most_values < length p.values → StoreCalled n rows store choice p rows store n (TooLong (length p.values))
  called_long k h =
      let q = long_call h in
      let e = ap (λ (x : List Dmx × StoreCall). x.1) (sym q) in
      record {
        yields = unchanged n rows store (store_call choice p (waiting_of n rows store)).0 k (ap (λ (x : List Dmx × StoreCall). x.0) (sym q));
        answers = e;
        told = store_answer_told choice p (waiting_of n rows store) (TooLong (length p.values)) e;
        full_unchanged = λ z. (refl, refl);
        long_unchanged = λ z. (refl, refl, refl);
      }

  module _ (rows' : List (List ℕ)) (store' : List ℕ) (m : ℕ) (f : length p.values ≤ most_values) where
    pub called_taken : (a : StoreAnswer) → StoredCall n rows store choice p rows' store' m a → StoreCalled n rows store choice p rows' store' m (Taken a)
    called_taken a c =
        let q = within_call f in
        let e = ap Taken c.answers ∙ ap (λ (x : List Dmx × StoreCall). x.1) (sym q) in
        record {
          yields = subst (λ (ds : List Dmx). Yields rows store rows' store' m ds) (ap (λ (x : List Dmx × StoreCall). x.0) (sym q)) c.yields;
          answers = e;
          told = store_answer_told choice p (waiting_of n rows store) (Taken a) e;
          full_unchanged = λ z. c.full_unchanged (cc);
          long_unchanged = λ z. absurd (omega arith);
        }

    -- for callers: values within 513 are taken
    pub taken_is : (c : StoreCall) → StoreCalled n rows store choice p rows' store' m c → c ≡ Taken (stored choice p (waiting_of n rows store)).1
    taken_is c s = s.answers ∙ ap (λ (x : List Dmx × StoreCall). x.1) (within_call f)

    pub taken_call : (c : StoreCall) → StoreCalled n rows store choice p rows' store' m c → StoredCall n rows store choice p rows' store' m (stored choice p (waiting_of n rows store)).1
    taken_call c s = record {
      yields = subst (λ (ds : List Dmx). Yields rows store rows' store' m ds) (ap (λ (x : List Dmx × StoreCall). x.0) (within_call f)) s.yields;
      answers = refl;
      full_unchanged = λ z. s.full_unchanged (taken_is c s ∙ ap Taken z);
    }

-- ── `rtrv_waiting_data`, with the test of the output before it ──
module _ (n : ℕ) (rows : List (List ℕ)) (store : List ℕ) (now a : ℕ) (out : List ℕ) where
  abbrev due : List Dmx
  due = released now a (waiting_of n rows store)

  pub called_short : Kept n rows store → length out < most_bytes → ReleaseCalled n rows store now a out rows store out n (OutputShort most_bytes)
  called_short k h =
      let q : release_call (length out) now a (waiting_of n rows store) ≡ (waiting_of n rows store, OutputShort most_bytes) = unfold release_call in (rw (lt-ltb (length out) most_bytes h)) in
      let e = ap (λ (x : List Dmx × ReleaseAnswer). x.1) (sym q) in
      record {
        yields = unchanged n rows store (release_call (length out) now a (waiting_of n rows store)).0 k (ap (λ (x : List Dmx × ReleaseAnswer). x.0) (sym q));
        answers = e;
        told = release_answer_told (length out) now a (waiting_of n rows store) (OutputShort most_bytes) e;
        written = unfold release_output in (rw (lt-ltb (length out) most_bytes h));
        short_unchanged = λ z. (refl, refl, refl, refl);
      }

  module _ (rows' : List (List ℕ)) (store' out' : List ℕ) (m : ℕ) (f : most_bytes ≤ length out) where
    roomy_call : release_call (length out) now a (waiting_of n rows store) ≡ (left a (waiting_of n rows store), Released (length due) (length (records due)))
    unfolding release_call
    roomy_call = rw (le-ltb (length out) most_bytes f)

    pub called_released : (c b : ℕ) → Yields rows store rows' store' m (left a (waiting_of n rows store)) → Writing due out out' c b
        → ReleaseCalled n rows store now a out rows' store' out' m (Released c b)
    called_released c b y w =
        let q = roomy_call in
        let e = (λ i. Released (w.record_count i) (w.byte_count i)) ∙ ap (λ (x : List Dmx × ReleaseAnswer). x.1) (sym q) in
        record {
          yields = subst (λ (ds : List Dmx). Yields rows store rows' store' m ds) (ap (λ (x : List Dmx × ReleaseAnswer). x.0) (sym q)) y;
          answers = e;
          told = release_answer_told (length out) now a (waiting_of n rows store) (Released c b) e;
          written = unfold release_output in (rw (le-ltb (length out) most_bytes f) w.written);
          short_unchanged = λ z. absurd (omega arith);
        }

    -- for callers: an output with room is written
    module _ (r : ReleaseAnswer) (s : ReleaseCalled n rows store now a out rows' store' out' m r) where
      pub released_is : r ≡ Released (length due) (length (records due))
      released_is = s.answers ∙ ap (λ (x : List Dmx × ReleaseAnswer). x.1) roomy_call

      pub released_leaves : Yields rows store rows' store' m (left a (waiting_of n rows store))
      released_leaves = subst (λ (ds : List Dmx). Yields rows store rows' store' m ds) (ap (λ (x : List Dmx × ReleaseAnswer). x.0) roomy_call) s.yields

      pub released_writes : Writing due out out' (length due) (length (records due))
      unfolding release_output
      released_writes = record {
        written = s.written ∙ (rw (le-ltb (length out) most_bytes f));
        record_count = refl;
        byte_count = refl;
      }

-- a place to insert at is within the count
pub before_within : (u n i : ℕ) (rows : List (List ℕ)) → Sought u n rows (Err i) → i ≤ n
before_within u n i rows s = omega (arith, s.0, prefix_le (λ row. below u (head_of row)) (take n rows), length-take n rows)

-- ── the read-outs ──
pub data_at : (n i : ℕ) (rows : List (List ℕ)) (store : List ℕ) (d : DmxData) → i < n → n ≤ capacity → length rows ≡ capacity → d ≡ head_of (get_or rows i [])
    → d ≡ (get_or (waiting_of n rows store) i nothing).head
data_at n i rows store d h b l e =
    e ∙ sym (ap (λ (x : Dmx). x.head) (get_or-take n (entries rows store) i nothing h) ∙ head_at rows store i (omega arith))

-- past the last
past : (n i : ℕ) (rows : List (List ℕ)) (store : List ℕ) → n ≤ i → get_or (waiting_of n rows store) i nothing ≡ nothing
past n i rows store h = get_or-eq_default (waiting_of n rows store) nothing (omega (arith, length-take n (entries rows store)))

pub data_past : (n i : ℕ) (rows : List (List ℕ)) (store : List ℕ) (d : DmxData) → n ≤ i → d ≡ head_of (replicate 9 0) → d ≡ (get_or (waiting_of n rows store) i nothing).head
unfolding head_of
data_past n i rows store d h e = e ∙ sym (ap (λ (x : Dmx). x.head) (past n i rows store h))

pub values_past : (n i : ℕ) (rows : List (List ℕ)) (store : List ℕ) → n ≤ i → [] ≡ (get_or (waiting_of n rows store) i nothing).values
values_past n i rows store h = sym (ap (λ (x : Dmx). x.values) (past n i rows store h))

pub values_at : (n i m : ℕ) (rows : List (List ℕ)) (store : List ℕ) → Kept n rows store → i < n → m ≡ count_of (get_or rows i [])
    → take (i * most_values + m - i * most_values) (drop (i * most_values) store) ≡ (get_or (waiting_of n rows store) i nothing).values
values_at n i m rows store k h e =
    let b = k.count_fits in
    ap (λ (x : Dmx). x.values) (read_entry rows store i k.room (omega arith) (head_of (get_or rows i [])) m refl e ∙ sym (get_or-take n (entries rows store) i nothing h))
