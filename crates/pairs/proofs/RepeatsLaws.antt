-- Document 02, F-4: "State after either refusal is as before", as swept. A repeat renews neither sequence number nor reading,
-- so a source that only repeats itself expires.
-- Assumes nothing.
use Rattle.std.specs.Prelude.{◌≡◌, ◌≢◌, Bool, true, false, List, [], ◌∷◌, ℕ, pos}
use Rattle.std.proofs.Common.{sym, ap, ◌∙◌}
use Rattle.std.proofs.Math.Option.{none, some}
use Rattle.laws.specs.Cases.{clash, found, missing}
use Rattle.rules.specs.Age.{expired}
use Rattle.rules.specs.Sequence.{difference}
use Rattle.rules.proofs.SequenceLaws.{difference_same}
use Rattle.settings.specs.declared.SourceLimit.{SourceLimit}
use Rattle.pairs.specs.declared.Pair.{Pair}
use Rattle.pairs.specs.declared.Checked.TheVariants.{Repeated}
use Rattle.pairs.specs.Table.{Key, key_of, Table, pair_at, live, swept, sweep, told, noted, full, sequence_stop, source_stop, stop, admit, check, Ordered}
use Rattle.pairs.specs.Laws.{GoodTable}
use Rattle.pairs.proofs.Laws.{has_found, source_stop_good, full_good, admit_stored, admit_stopped, check_quiet, check_told, ordered_check, pair_at_swept, pair_at_without_other, pair_at_recorded_other, noted_stands, stop_none}
use Rattle.pairs.specs.Repeats.{Arriving, Repeats, Stands, arrivals}

-- ── one arrival ──
-- the number that is held comes again
pub stop_repeated : (n : ℕ) (q : Pair) → n ≡ q.sequence → sequence_stop n (some q) ≡ some (Repeated n q.sequence (pos 0))
unfolding sequence_stop
stop_repeated n q e = let d : difference n q.sequence ≡ pos 0 = ap (λ (m : ℕ). difference m q.sequence) e ∙ difference_same q.sequence in rw d

-- 21 with arriving, last and 0, and the table is as swept
pub admit_repeated : (limit : SourceLimit) (p q : Pair) (t : Table) → GoodTable t → pair_at (key_of p) t.pairs ≡ some q → p.sequence ≡ q.sequence
    → admit limit p t ≡ (t, Repeated p.sequence q.sequence (pos 0))
unfolding stop
admit_repeated limit p q t g h e =
    let listed = has_found (key_of p) q t.pairs h in
    let known : source_stop limit p.cid t ≡ none = source_stop_good limit p.cid t g ∙ rw listed in
    let room : full p t ≡ false = full_good p t g ∙ rw h in
    admit_stopped limit p t (Repeated p.sequence q.sequence (pos 0)) (rw (known, room, h) (stop_repeated p.sequence q e))

pub ordered_arrivals : (xs : List Arriving) (t : Table) → Ordered t → Ordered (arrivals xs t)
unfolding arrivals
ordered_arrivals [] t o = o
ordered_arrivals (x ∷ xs) t o = ordered_arrivals xs (check x.limit x.announce x.pair t).0 (ordered_check x.limit x.announce x.pair t o)

-- a sweep leaves a live pair
pub sweep_live : (announce : Bool) (now : ℕ) (q : Pair) (t : Table) → Ordered t → live now q ≡ true → Stands q t → Stands q (sweep announce now t).0
unfolding sweep told
sweep_live false now q t o l h = pair_at_swept (key_of q) now t o ∙ rw (h, l)
sweep_live true now q t o l h =
    found (noted now t.pairs t.sources)
    (λ n. rw n h)
    (λ p n. rw n (pair_at_without_other (key_of q) (key_of p) t o (λ e. away p n e) ∙ h))
  where
    away : (p : Pair) → noted now t.pairs t.sources ≡ some p → key_of q ≢ key_of p
    away p n e =
        let s = noted_stands now t.pairs t.sources p o.pairs_ascend n in
        let r : some p ≡ some q = sym s.0 ∙ ap (λ (k : Key). pair_at k t.pairs) (sym e) ∙ h in
        let z : p ≡ q = cc in
        clash (ap (live now) z ∙ l) (rw s.1)

-- and drops an expired one
pub swept_expired : (now : ℕ) (q : Pair) (t : Table) → Ordered t → expired now q.reading ≡ true → Stands q t → pair_at (key_of q) (swept now t).pairs ≡ none
swept_expired now q t o e h = pair_at_swept (key_of q) now t o ∙ rw (h, e)

-- an arrival that repeats q's number, or is of another pair, leaves q
pub check_repeated : (limit : SourceLimit) (announce : Bool) (p q : Pair) (t : Table) → Ordered t → (key_of p ≡ key_of q → p.sequence ≡ q.sequence) → live p.reading q ≡ true
    → Stands q t → Stands q (check limit announce p t).0
check_repeated limit announce p q t o s l h =
    let u = (sweep announce p.reading t).0 in
    let g = sweep_live announce p.reading q t o l h in
    found (sweep announce p.reading t).1
    (λ e. rw (check_quiet limit announce p t u (λ i. (u, e i))) (admitted u g))
    (λ k e. rw (check_told limit announce p t u k (λ i. (u, e i))) g)
  where
    admitted : (u : Table) → Stands q u → Stands q (admit limit p u).0
    admitted u g =
        found (stop limit p u)
        (λ e. rw (admit_stored limit p u e) (pair_at_recorded_other (key_of q) p u (λ f. stopped u g e f) ∙ g))
        (λ a e. rw (admit_stopped limit p u a e) g)
      where
        stopped : (u : Table) → Stands q u → stop limit p u ≡ none → key_of q ≢ key_of p
        stopped u g e f =
            missing (Repeated p.sequence q.sequence (pos 0)) (ap (sequence_stop p.sequence) (ap (λ (k : Key). pair_at k u.pairs) (sym f) ∙ g) ∙ stop_repeated p.sequence q (s (sym f))) (stop_none limit p u e).2

-- q stays as its last accepted arrival left it, whatever comes of other pairs
pub repeats_renew_nothing : (xs : List Arriving) (q : Pair) (t : Table) → Ordered t → Repeats q xs → Stands q t → Stands q (arrivals xs t)
unfolding arrivals
repeats_renew_nothing [] q t o r h = h
repeats_renew_nothing (x ∷ xs) q t o (s, l, r) h =
    repeats_renew_nothing xs q (check x.limit x.announce x.pair t).0 (ordered_check x.limit x.announce x.pair t o) r
    (check_repeated x.limit x.announce x.pair q t o s l h)

-- so it is expired 2,500 after that and goes with the first sweep, announcements off; on, it goes when number 4 names it
pub repeats_expire : (xs : List Arriving) (q : Pair) (t : Table) (now : ℕ) → Ordered t → Repeats q xs → Stands q t → expired now q.reading ≡ true
    → pair_at (key_of q) (swept now (arrivals xs t)).pairs ≡ none
repeats_expire xs q t now o r h e = swept_expired now q (arrivals xs t) (ordered_arrivals xs t o) e (repeats_renew_nothing xs q t o r h)
