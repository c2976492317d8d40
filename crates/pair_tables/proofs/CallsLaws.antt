-- What each return of a call comes to, from what its parts have done to the rows.
-- Assumes nothing.
use Rattle.std.specs.Prelude.{◌≡◌, refl, Bool, true, false, not, ◌&&◌, ℕ, ◌+◌, ◌-◌, ◌≤◌, ◌<◌, min, length, take}
use Rattle.std.proofs.Math.Path.{sym, ap, subst}
use Rattle.std.proofs.Common.{◌∙◌, arith, length-take, le-leb}
use Rattle.std.proofs.Math.Logic.{⊎_elim}
use Rattle.std.proofs.Math.Option.{Option, none, some}
use mathlib.Core.List.{List, map}
use Rattle.std.proofs.lemmas.List.{length-map}
use Rattle.std.proofs.lemmas.Bool.{lt-leb}
use Rattle.laws.specs.Cases.{split, clash}
use Rattle.laws.specs.Table.{keep, find, store, remove}
use Rattle.rules.specs.declared.Cid.{Cid}
use Rattle.rules.specs.Cid.{before}
use Rattle.rules.specs.Age.{expired}
use Rattle.settings.specs.declared.SourceLimit.{SourceLimit}
use Rattle.pairs.specs.declared.Pair.{Pair}
use Rattle.pair_tables.specs.declared.PairTable.{PairTable}
use Rattle.pairs.specs.declared.Checked.{Checked}
use Rattle.pairs.specs.declared.Checked.TheVariants.{Accepted, UniverseTimeout, SourcesExceeded, PairsFull}
use Rattle.pairs.specs.declared.SweepAnswer.TheVariants.{Quiet, TimedOut}
use Rattle.pairs.specs.Table.{Key, key, key_of, key_before, itself, Table, capacity, pair_at, has, listed, leave, without, live, swept, noted, told, sweep, reached, stop, recorded, admit, check, accepted, Ordered}
use Rattle.pairs.proofs.Laws.{accepted_is, without_unknown, without_known, ordered_without, ordered_swept, noted_none, swept_quiet, admit_stored, admit_stopped, ordered_admit, check_quiet, check_told}
use Rattle.pairs.specs.Answers.{answer_of}
use Rattle.pair_rows.specs.View.{Rows, cid_of, pairs_of, listed_sources_of, older, lonely, lower, last_reading, note_of}
use Rattle.pair_tables.specs.View.{table_of, renewed, quiet, reading_noted, Kept, Follows, Unmoved, answered, removal, Renews, pair_stop, PairsKept, Stored, Admitted, RenewsPair}
use Rattle.pair_rows.specs.Rows.{older_lower, lower_fresh}
use Rattle.pair_sweeps.specs.Sweep.{fresh, note_none, note_some}
use Rattle.pair_rows.specs.Notes.{older_removed, older_stored, lonely_without, lonely_swept, lonely_recorded}
use Rattle.pair_tables.proofs.AdmitLaws.{swept_idle, stop_listed, stop_limit, stop_full, stop_unlisted, listed_some, listed_none, recorded_listed, never_accepted}

-- the number of rows in use is what the header says
pub used : {E : Type 0} (f : List ℕ → E) (n : ℕ) (rows : Rows) → n ≤ capacity → length rows ≡ capacity → length (map f (take n rows)) ≡ n
used f n rows h l = length-map (take n rows) f ∙ omega (arith, length-take n rows)

-- a pair is stored among the rows
pub stored_as : (t : PairTable) (pairs : Rows) (p : Pair) (n o : ℕ) (after : Rows) → PairsKept t pairs → length after ≡ capacity → n ≤ capacity
    → pairs_of n after ≡ store key_before key_of p (pairs_of t.count pairs) → o ≡ min t.oldest p.reading
    → Stored t pairs (record { count = n; source_count = t.source_count; oldest = o; tidy = t.tidy }) after p
stored_as t pairs p n o after k l nf e m = record {
  pairs_are = e;
  same_sources = refl;
  same_tidy = refl;
  kept = record {
    pairs_room = l;
    count_fits = nf;
    none_older = subst (λ (ps : List Pair). older o ps ≡ false) (sym e) (older_stored t.oldest o p (pairs_of t.count pairs) (omega arith) (omega arith) k.none_older);
  };
}

module _ (t : PairTable) (pairs sources : Rows) (k : Kept t pairs sources) where
  abbrev here : Table
  here = table_of t pairs sources

  -- ── removal ──
  pub removal_none : (j : Key) → pair_at j here.pairs ≡ none → Follows t pairs sources false (removal j here)
  removal_none j h = record { table_is = sym (without_unknown j here h); answer_is = rw h; kept = k }

  module _ (j : Key) (p : Pair) (h : pair_at j here.pairs ≡ some p) (n m : ℕ) (pairs' sources' : Rows) (lp : length pairs' ≡ capacity) (ls : length sources' ≡ capacity)
      (nf : n ≤ capacity) (mf : m ≤ capacity)
      (ep : pairs_of n pairs' ≡ remove key_before key_of j here.pairs) (es : listed_sources_of m sources' ≡ leave j.cid (remove key_before key_of j here.pairs) here.sources) where
    abbrev after : PairTable
    after = record { count = n; source_count = m; oldest = t.oldest; tidy = t.tidy }

    removed : table_of after pairs' sources' ≡ without j here
    removed = (λ i. record { pairs = ep i; sources = es i }) ∙ sym (without_known j p here h)

    pub removal_some : Follows after pairs' sources' true (removal j here)
    removal_some = record {
      table_is = removed;
      answer_is = rw h;
      kept = record {
        pairs_room = lp;
        sources_room = ls;
        count_fits = nf;
        source_count_fits = mf;
        ordered = subst Ordered (sym removed) (ordered_without j here k.ordered);
        none_older = subst (λ (ps : List Pair). older t.oldest ps ≡ false) (sym ep) (older_removed t.oldest j here.pairs k.none_older);
        none_lonely = λ e. rw (ep, es) (lonely_without j here.pairs here.sources k.ordered.sources_ascend (k.none_lonely e));
      };
    }

  -- ── the sweep without announcement ──
  pub sweep_idle : (now : ℕ) → t.tidy && not (expired now t.oldest) ≡ true → Follows t pairs sources Quiet (answered (sweep false now here))
  sweep_idle now h =
      let d : t.tidy ≡ true = split t.tidy (λ e. e) (λ e. clash h (rw e)) in
      let o : expired now t.oldest ≡ false = split (expired now t.oldest) (λ e. clash h (rw (d, e))) (λ e. e) in
      record {
        table_is = sym (swept_idle now here (fresh t.oldest now here.pairs k.none_older o) (k.none_lonely d)) ∙ sym (ap (λ (r : Table × Option Key). r.0) (swept_quiet now here));
        answer_is = sym (ap (λ (r : Table × Option Key). answer_of r.1) (swept_quiet now here));
        kept = k;
      }

  module _ (now n m o : ℕ) (pairs' sources' : Rows) (lp : length pairs' ≡ capacity) (ls : length sources' ≡ capacity) (nf : n ≤ capacity) (mf : m ≤ capacity)
      (ep : pairs_of n pairs' ≡ keep (live now) here.pairs) (es : listed_sources_of m sources' ≡ keep (has (pairs_of n pairs')) here.sources)
      (old : o ≡ lower last_reading (pairs_of n pairs')) where
    abbrev cleaned : PairTable
    cleaned = record { count = n; source_count = m; oldest = o; tidy = true }

    clean : table_of cleaned pairs' sources' ≡ swept now here
    unfolding swept
    clean = λ i. record { pairs = ep i; sources = (es ∙ ap (λ (ps : List Pair). keep (has ps) here.sources) ep) i }

    pub sweep_done : Follows cleaned pairs' sources' Quiet (answered (sweep false now here))
    sweep_done = record {
      table_is = clean ∙ sym (ap (λ (r : Table × Option Key). r.0) (swept_quiet now here));
      answer_is = sym (ap (λ (r : Table × Option Key). answer_of r.1) (swept_quiet now here));
      kept = record {
        pairs_room = lp;
        sources_room = ls;
        count_fits = nf;
        source_count_fits = mf;
        ordered = subst Ordered (sym clean) (ordered_swept now here k.ordered);
        none_older = older_lower last_reading o (pairs_of n pairs') (omega arith);
        none_lonely = λ e. rw es (lonely_swept (pairs_of n pairs') here.sources);
      };
    }

  -- ── the header's notes made anew ──
  pub renews : (o : ℕ) (b : Bool) → o ≡ lower last_reading here.pairs → b ≡ not (lonely here.pairs here.sources)
      → record { count = t.count; source_count = t.source_count; oldest = o; tidy = b } ≡ renewed t pairs sources
  renews o b e d = λ i. record { count = t.count; source_count = t.source_count; oldest = e i; tidy = d i }

  pub tidy_known : t.tidy ≡ true → true ≡ not (lonely here.pairs here.sources)
  tidy_known h = sym (ap not (k.none_lonely h))

  pub renewed_kept : Kept (renewed t pairs sources) pairs sources
  renewed_kept = record {
    pairs_room = k.pairs_room;
    sources_room = k.sources_room;
    count_fits = k.count_fits;
    source_count_fits = k.source_count_fits;
    ordered = k.ordered;
    none_older = older_lower last_reading (lower last_reading here.pairs) here.pairs (omega arith);
    none_lonely = λ e. split (lonely here.pairs here.sources) (λ l. clash e (ap not l)) (λ l. l);
  }

  -- ── the rows after a sweep with nothing to do ──
  pub rows_stay : (now : ℕ) → Unmoved t pairs sources now pairs sources
  rows_stay now = record { rows_same = λ s l. (refl, refl) }

  -- notes made anew that leave something to do: a pair is expired, or a CID has no pair
  pub rows_busy : (now : ℕ) (u : PairTable) (pairs' sources' : Rows) → now ≤ last_reading → u ≡ renewed t pairs sources → u.tidy && not (expired now u.oldest) ≡ false
      → Unmoved t pairs sources now pairs' sources'
  rows_busy now u pairs' sources' f e h = record {
    rows_same = λ s l.
        let o = lower_fresh now last_reading here.pairs (lt-leb 2500 (now - last_reading) (omega arith)) s in
        let g : not (lonely here.pairs here.sources) && not (expired now (lower last_reading here.pairs)) ≡ true = rw (l, o) in
        clash (rw e g) h;
  }

  -- a pair that is told was expired
  pub rows_told : (now : ℕ) (c : Cid) (u : ℕ) (pairs' sources' : Rows) → note_of (noted now here.pairs here.sources) ≡ TimedOut c u → Unmoved t pairs sources now pairs' sources'
  rows_told now c u pairs' sources' e = record {
    rows_same = λ s l.
        let q : Quiet ≡ TimedOut c u = sym (ap note_of (noted_none now here.pairs here.sources s)) ∙ e in
        let z : ◌≡◌ {A = ℕ} 0 1 = cc in absurd (omega arith);
  }

  -- ── the announced sweep ──
  announced : (now : ℕ) (o : Option Pair) → noted now here.pairs here.sources ≡ o → sweep true now here ≡ told here o
  unfolding sweep
  announced now o e = ap (told here) e

  announced_quiet : (now : ℕ) → noted now here.pairs here.sources ≡ none → Follows t pairs sources Quiet (answered (sweep true now here))
  unfolding told
  announced_quiet now e = record {
    table_is = sym (ap (λ (r : Table × Option Key). r.0) (announced now none e));
    answer_is = sym (ap (λ (r : Table × Option Key). answer_of r.1) (announced now none e));
    kept = k;
  }

  pub announced_idle : (now : ℕ) → expired now t.oldest ≡ false → Follows t pairs sources Quiet (answered (sweep true now here))
  announced_idle now o = announced_quiet now (noted_none now here.pairs here.sources (fresh t.oldest now here.pairs k.none_older o))

  pub announced_none : (now : ℕ) → note_of (noted now here.pairs here.sources) ≡ Quiet → Follows t pairs sources Quiet (answered (sweep true now here))
  announced_none now e = announced_quiet now (note_none (noted now here.pairs here.sources) e)

  pub announced_some : (now : ℕ) (c : Cid) (u : ℕ) (t' : PairTable) (pairs' sources' : Rows) (known : Bool) → note_of (noted now here.pairs here.sources) ≡ TimedOut c u
      → Follows t' pairs' sources' known (removal (key c u) here) → Follows t' pairs' sources' (TimedOut c u) (answered (sweep true now here))
  unfolding told
  announced_some now c u t' pairs' sources' known e f =
      let p = note_some (noted now here.pairs here.sources) c u e in
      let a = announced now (some p.0) p.1 in
      let g : TimedOut p.0.cid p.0.universe ≡ TimedOut c u = sym (ap note_of p.1) ∙ e in
      let q : key_of p.0 ≡ key c u = cc in
      record {
        table_is = f.table_is ∙ ap (λ (j : Key). without j here) (sym q) ∙ sym (ap (λ (r : Table × Option Key). r.0) a);
        answer_is = sym g ∙ sym (ap (λ (r : Table × Option Key). answer_of r.1) a);
        kept = f.kept;
      }

  -- ── an arrival after the sweep ──
  module _ (limit : SourceLimit) (p : Pair) where
    pub admit_stays : (a : Checked) → stop limit p here ≡ some a → Follows t pairs sources a (admit limit p here)
    admit_stays a e =
        let s = admit_stopped limit p here a e in
        record { table_is = sym (ap (λ (r : Table × Checked). r.0) s); answer_is = sym (ap (λ (r : Table × Checked). r.1) s); kept = k }

    module _ (e : stop limit p here ≡ none) (u : PairTable) (pairs' sources' : Rows) (kp : PairsKept u pairs') (ls : length sources' ≡ capacity) (mf : u.source_count ≤ capacity)
        (tidy : u.tidy ≡ t.tidy) (ep : pairs_of u.count pairs' ≡ store key_before key_of p here.pairs)
        (es : listed_sources_of u.source_count sources' ≡ store before itself p.cid here.sources) where
      kept_pair : table_of u pairs' sources' ≡ recorded p here
      unfolding recorded
      kept_pair = λ i. record { pairs = ep i; sources = es i }

      pub admit_goes : Follows u pairs' sources' Accepted (admit limit p here)
      admit_goes =
          let s = admit_stored limit p here e in
          let same : table_of u pairs' sources' ≡ (admit limit p here).0 = kept_pair ∙ sym (ap (λ (r : Table × Checked). r.0) s) in
          record {
            table_is = same;
            answer_is = sym (ap (λ (r : Table × Checked). r.1) s);
            kept = record {
              pairs_room = kp.pairs_room;
              sources_room = ls;
              count_fits = kp.count_fits;
              source_count_fits = mf;
              ordered = subst Ordered (sym same) (ordered_admit limit p here k.ordered);
              none_older = kp.none_older;
              none_lonely = λ d. rw (ep, es) (lonely_recorded p here.pairs here.sources (k.none_lonely (sym tidy ∙ d)));
            };
          }

    -- the CID is listed: the pairs decide
    pub admit_listed : (d : Cid) (u : PairTable) (pairs' : Rows) (a : Checked) → find before itself p.cid here.sources ≡ some d
        → Admitted t pairs u pairs' a p → Follows u pairs' sources a (admit limit p here)
    unfolding recorded
    admit_listed d u pairs' a f =
        let s = stop_listed limit p here (listed_some p.cid d here.sources f) in
        ⊎_elim
        (λ w.
        let es : listed_sources_of u.source_count sources ≡ store before itself p.cid here.sources =
        ap (λ (n : ℕ). listed_sources_of n sources) w.2.same_sources ∙ sym (ap (λ (v : Table). v.sources) (recorded_listed p d here k.ordered.sources_ascend f)) in
        let g = admit_goes (s ∙ w.0) u pairs' sources w.2.kept k.sources_room (subst (λ (n : ℕ). n ≤ capacity) (sym w.2.same_sources) k.source_count_fits) w.2.same_tidy w.2.pairs_are es in
        subst (λ (b : Checked). Follows u pairs' sources b (admit limit p here)) (sym w.1) g)
        (λ w. stays u pairs' a (s ∙ w.0) w.1 w.2)
      where
        stays : (u : PairTable) (pairs' : Rows) (a : Checked) → stop limit p here ≡ some a → u ≡ t → pairs' ≡ pairs → Follows u pairs' sources a (admit limit p here)
        stays u pairs' a e f g = subst (λ (v : PairTable). Follows v pairs' sources a (admit limit p here)) (sym f) (subst (λ (r : Rows). Follows t r sources a (admit limit p here)) (sym g) (admit_stays a e))

    -- the CID is not listed: the limit, the room on the list, then the pairs
    module _ (f : find before itself p.cid here.sources ≡ none) where
      off : listed p.cid here.sources ≡ false
      off = listed_none p.cid here.sources f

      long : length here.sources ≡ t.source_count
      long = used cid_of t.source_count sources k.source_count_fits k.sources_room

      pub admit_limit : reached limit t.source_count ≡ true → Follows t pairs sources (SourcesExceeded t.source_count) (admit limit p here)
      admit_limit r = admit_stays (SourcesExceeded t.source_count) (stop_limit limit p here off (rw long r) ∙ ap (λ (n : ℕ). some (SourcesExceeded n)) long)

      module _ (r : reached limit t.source_count ≡ false) where
        pub admit_full : capacity ≤ t.source_count → Follows t pairs sources PairsFull (admit limit p here)
        admit_full h = admit_stays PairsFull (stop_full limit p here off (rw long r) (le-leb capacity (length here.sources) (omega (arith, long))))

        module _ (h : t.source_count < capacity) (u : PairTable) (pairs' : Rows) (a : Checked) (w : Admitted t pairs u pairs' a p) where
          by_pairs : stop limit p here ≡ pair_stop p here.pairs
          by_pairs = stop_unlisted limit p here off (rw long r) (lt-leb capacity (length here.sources) (omega (arith, long)))

          pub admit_refused : accepted a ≡ false → Follows u pairs' sources a (admit limit p here)
          admit_refused g =
              ⊎_elim
              (λ v. clash (ap accepted v.1) g)
              (λ v. subst (λ (x : PairTable). Follows x pairs' sources a (admit limit p here)) (sym v.1) (subst (λ (x : Rows). Follows t x sources a (admit limit p here)) (sym v.2) (admit_stays a (by_pairs ∙ v.0))))
              w

          module _ (sources' : Rows) (ls : length sources' ≡ capacity) (es : listed_sources_of (t.source_count + 1) sources' ≡ store before itself p.cid here.sources) where
            abbrev joined : PairTable
            joined = record { count = u.count; source_count = t.source_count + 1; oldest = u.oldest; tidy = u.tidy }

            pub admit_joins : accepted a ≡ true → Follows joined pairs' sources' Accepted (admit limit p here)
            admit_joins g =
                ⊎_elim
                (λ v.
                let q = v.2.kept in
                admit_goes (by_pairs ∙ v.0) joined pairs' sources'
                (record { pairs_room = q.pairs_room; count_fits = q.count_fits; none_older = q.none_older }) ls (omega arith) v.2.same_tidy v.2.pairs_are es)
                (λ v. absurd (never_accepted p here.pairs (v.0 ∙ ap some (accepted_is a g))))
                w

  -- ── the whole arrival ──
  pub check_timeout : (limit : SourceLimit) (announce : Bool) (p : Pair) (now : Table × Option Key) (c : Cid) (u : ℕ) → sweep announce p.reading here ≡ now → TimedOut c u ≡ answer_of now.1
      → check limit announce p here ≡ (now.0, UniverseTimeout c u)
  check_timeout limit announce p (v, none) c u e f = let z : ◌≡◌ {A = ℕ} 0 1 = cc in absurd (omega arith)
  check_timeout limit announce p (v, some j) c u e f =
      check_told limit announce p here v j e ∙ (let g : UniverseTimeout j.cid j.universe ≡ UniverseTimeout c u = cc in ap (λ (a : Checked). (v, a)) g)

  pub check_goes : (limit : SourceLimit) (announce : Bool) (p : Pair) (now : Table × Option Key) → sweep announce p.reading here ≡ now → Quiet ≡ answer_of now.1
      → check limit announce p here ≡ admit limit p now.0
  check_goes limit announce p (v, none) e f = check_quiet limit announce p here v e
  check_goes limit announce p (v, some j) e f = let z : ◌≡◌ {A = ℕ} 0 1 = cc in absurd (omega arith)

  -- ── quiet notes ──
  pub sweep_quiet : (announce : Bool) (now : ℕ) → quiet announce now t ≡ true → Follows t pairs sources Quiet (answered (sweep announce now here))
  sweep_quiet true now h = announced_idle now (split (expired now t.oldest) (λ e. clash h (rw e)) (λ e. e))
  sweep_quiet false now h = sweep_idle now h

  check_quietly : (limit : SourceLimit) (announce : Bool) (p : Pair) → quiet announce p.reading t ≡ true → check limit announce p here ≡ admit limit p here
  check_quietly limit announce p h =
      let f = sweep_quiet announce p.reading h in
      check_goes limit announce p (sweep announce p.reading here) refl f.answer_is ∙ ap (admit limit p) (sym f.table_is)

  -- an arrival that no sweep precedes
  module _ (announce : Bool) (p : Pair) where
    pub renews_listed : (d : Cid) (pairs' : Rows) (done : Bool) → quiet announce p.reading t ≡ true → find before itself p.cid here.sources ≡ some d
        → RenewsPair t pairs p pairs' done → Renews announce p t pairs sources pairs' done
    renews_listed d pairs' done h f r = record {
      accepted = λ e limit.
          subst (λ (said : Table × Checked). Follows (reading_noted p.reading t) pairs' sources Accepted said) (sym (check_quietly limit announce p h))
          (admit_listed limit p d (reading_noted p.reading t) pairs' Accepted f (r.stored e));
      left = r.left;
    }

    pub renews_nothing : Renews announce p t pairs sources pairs false
    renews_nothing = record { accepted = λ e. clash e refl; left = λ e. refl }

    pub checked_renewed : (limit : SourceLimit) (u : PairTable) (pairs' : Rows) (done : Bool) → Renews announce p t pairs sources pairs' done → done ≡ true → u ≡ reading_noted p.reading t
        → Follows u pairs' sources Accepted (check limit announce p here)
    checked_renewed limit u pairs' done r e g = subst (λ (v : PairTable). Follows v pairs' sources Accepted (check limit announce p here)) (sym g) (r.accepted e limit)

-- a sweep that the notes made anew show to be idle
pub sweep_renewed : (t : PairTable) (pairs sources : Rows) (k : Kept t pairs sources) (now : ℕ) (u : PairTable) → u ≡ renewed t pairs sources → u.tidy && not (expired now u.oldest) ≡ true
    → Follows u pairs sources Quiet (answered (sweep false now (table_of t pairs sources)))
sweep_renewed t pairs sources k now u e =
    subst (λ (v : PairTable). v.tidy && not (expired now v.oldest) ≡ true → Follows v pairs sources Quiet (answered (sweep false now (table_of t pairs sources)))) (sym e)
    (sweep_idle (renewed t pairs sources) pairs sources (renewed_kept t pairs sources k) now)

-- a walk that notes nothing, after which the notes are made anew
pub announced_renewed : (t : PairTable) (pairs sources : Rows) (k : Kept t pairs sources) (now : ℕ) (u : PairTable) → u ≡ renewed t pairs sources
    → note_of (noted now (table_of t pairs sources).pairs (table_of t pairs sources).sources) ≡ Quiet
    → Follows u pairs sources Quiet (answered (sweep true now (table_of t pairs sources)))
announced_renewed t pairs sources k now u e n =
    subst (λ (v : PairTable). Follows v pairs sources Quiet (answered (sweep true now (table_of t pairs sources)))) (sym e)
    (announced_none (renewed t pairs sources) pairs sources (renewed_kept t pairs sources k) now n)
