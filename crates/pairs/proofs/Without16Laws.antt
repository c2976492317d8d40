-- Document 02, F-11: what the branch for a CID listed without any pair was worth, and what comes in its place.
-- Assumes nothing.
use Rattle.std.specs.Prelude.{◌≡◌, Bool, cond, ℕ, ◌≤◌, ◌<◌, length, ℤ}
use Rattle.std.proofs.Math.Path.{refl, ap}
use Rattle.std.proofs.Common.{◌∙◌}
use Rattle.std.proofs.Math.Bool.{true, false}
use Rattle.std.proofs.Math.Option.{Option, none, some}
use Rattle.std.proofs.Math.Dec.{leb}
use borrow.Author.Tests.{lt-leb, le-leb}
use Rattle.laws.specs.Cases.{split, found, clash, cond_map}
use Rattle.laws.specs.Table.{keep, find, find_keep, find_key}
use Rattle.rules.specs.declared.Cid.{Cid}
use Rattle.rules.specs.Cid.{before}
use Rattle.rules.proofs.CidLaws.{cid_order}
use Rattle.rules.specs.declared.SequenceAnswer.{SequenceAnswer}
use Rattle.rules.specs.declared.SequenceAnswer.TheVariants as sequence
use Rattle.rules.specs.Sequence.{difference, judged}
use Rattle.rules.specs.Answer.{first_of}
use Rattle.settings.specs.declared.SourceLimit.{SourceLimit}
use Rattle.pairs.specs.declared.Pair.{Pair}
use Rattle.pairs.specs.declared.Checked.{Checked}
use Rattle.pairs.specs.declared.Checked.TheVariants.{Accepted, PairsFull}
use Rattle.pairs.specs.Table.{Key, key_of, itself, Table, pair_at, has, listed, live, swept, sweep, recorded, reached, source_stop, full, told_as, stopping, sequence_stop, stop, settle, admit, after_sweep, check, Ordered}
use Rattle.pairs.specs.Laws.{GoodTable}
use Rattle.pairs.proofs.Laws.{listed_good, has_found, has_keep, admit_stored, admit_stopped, good_sweep}
use Rattle.pairs.specs.With16 as old
use Rattle.pairs.specs.Without16.{as_was, each}

-- ── a broken table, handed in: a CID is listed without any pair ──
module _ (p : Pair) (t : Table) (l : listed p.cid t.sources ≡ true) (h : has t.pairs p.cid ≡ false) where
  -- then the pair is unknown
  unknown_there : pair_at (key_of p) t.pairs ≡ none
  unknown_there = found (pair_at (key_of p) t.pairs) (λ n. n) (λ q n. clash (has_found (key_of p) q t.pairs n) h)

  -- "goes on to the pair table's rule 3", whatever the limit: 10 if 1,024 pairs are held
  pub broken_full : (limit : SourceLimit) → 1024 ≤ length t.pairs → admit limit p t ≡ (t, PairsFull)
  unfolding stop source_stop full
  broken_full limit f =
      let e : leb 1024 (length t.pairs) ≡ true = le-leb 1024 (length t.pairs) f in
      admit_stopped limit p t PairsFull (rw (l, unknown_there, e))

  -- and otherwise accepted and stored
  pub broken_stored : (limit : SourceLimit) → length t.pairs < 1024 → admit limit p t ≡ (recorded p t, Accepted)
  unfolding stop source_stop full sequence_stop
  broken_stored limit f =
      let e : leb 1024 (length t.pairs) ≡ false = lt-leb 1024 (length t.pairs) f in
      admit_stored limit p t (rw (l, unknown_there, e))

-- with announcements off the sweep before it unlists such a CID, so that the limit is asked
pub swept_unlists : (now : ℕ) (c : Cid) (t : Table) → Ordered t → has t.pairs c ≡ false → listed c (swept now t).sources ≡ false
unfolding swept listed
swept_unlists now c t o h =
    let gone : has (keep (live now) t.pairs) c ≡ false = split (has (keep (live now) t.pairs) c) (λ e. clash (has_keep c (live now) t.pairs e) h) (λ e. e) in
    let missing : find before itself c (keep (has (keep (live now) t.pairs)) t.sources) ≡ none =
    rw (find_keep before itself cid_order (has (keep (live now) t.pairs)) c t.sources o.sources_ascend)
    (found (find before itself c t.sources)
    (λ n. rw n)
    (λ d n. let e : d ≡ c = find_key before itself cid_order c d t.sources n in rw (n, e, gone))) in
    cc

first_each : (a b : Option Checked) → first_of (each a) (each b) ≡ each (first_of a b)
first_each none b = refl
first_each (some a) b = refl

told_each : (n l : ℕ) (d : ℤ) (x : SequenceAnswer) → old.stopping (old.told_as n l d x) ≡ each (stopping (told_as n l d x))
told_each n l d sequence.Accepted = refl
told_each n l d sequence.Repeated = refl
told_each n l d sequence.Late = refl

sequence_each : (n : ℕ) (o : Option Pair) → old.sequence_stop n o ≡ each (sequence_stop n o)
unfolding old.sequence_stop sequence_stop
sequence_each n none = refl
sequence_each n (some q) = told_each n q.sequence (difference n q.sequence) (judged (difference n q.sequence))

settle_each : (p : Pair) (t : Table) (o : Option Checked) → old.settle p t (each o) ≡ ((settle p t o).0, as_was (settle p t o).1)
unfolding old.settle settle
settle_each p t none = refl
settle_each p t (some a) = refl

module _ (limit : SourceLimit) (p : Pair) where
  source_each : (t : Table) → GoodTable t → old.source_stop limit p.cid t ≡ each (source_stop limit p.cid t)
  unfolding old.source_stop source_stop
  source_each t g =
      let e = listed_good p.cid t g in
      split (listed p.cid t.sources)
      (λ l. let h : has t.pairs p.cid ≡ true = cc in rw (l, h))
      (λ l. rw l (split (reached limit (length t.sources)) (λ r. rw r) (λ r. rw r)))

  stop_each : (t : Table) → GoodTable t → old.stop limit p t ≡ each (stop limit p t)
  unfolding old.stop stop
  stop_each t g =
      rw (source_each t g, cond_map each (full p t) (some PairsFull) none, sequence_each p.sequence (pair_at (key_of p) t.pairs), first_each (cond (full p t) (some PairsFull) none) (sequence_stop p.sequence (pair_at (key_of p) t.pairs)))
      (first_each (source_stop limit p.cid t) _)

  admit_each : (t : Table) → GoodTable t → old.admit limit p t ≡ ((admit limit p t).0, as_was (admit limit p t).1)
  unfolding old.admit admit
  admit_each t g = ap (old.settle p t) (stop_each t g) ∙ settle_each p t (stop limit p t)

  after_each : (r : Table × Option Key) → GoodTable r.0 → old.after_sweep limit p r ≡ ((after_sweep limit p r).0, as_was (after_sweep limit p r).1)
  unfolding old.after_sweep after_sweep
  after_each (t, none) g = admit_each t g
  after_each (t, some k) g = refl

-- it answers the same and leaves the same table
pub check_as_was : (limit : SourceLimit) (announce : Bool) (p : Pair) (t : Table) → GoodTable t → old.check limit announce p t ≡ ((check limit announce p t).0, as_was (check limit announce p t).1)
unfolding old.check check
check_as_was limit announce p t g = after_each limit p (sweep announce p.reading t) (good_sweep announce p.reading t g)
