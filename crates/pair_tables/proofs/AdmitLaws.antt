-- What the returns of sweep and arrival come to: one law for each.
-- Assumes nothing.
use Rattle.std.proofs.Math.Path.{◌≡◌}
use Rattle.std.specs.Prelude.{refl, ◌≢◌, true, false, not, ◌&&◌, List, ℕ, ◌≤◌, ◌<◌, length, is_some}
use Rattle.std.proofs.Common.{ap, ◌∙◌, arith}
use Rattle.std.proofs.Math.Option.{Option, none, some}
use Rattle.std.proofs.Math.Dec.{leb}
use borrow.Author.Tests.{lt-leb, le-leb}
use Rattle.laws.specs.Cases.{split, clash}
use Rattle.laws.specs.Table.{keep, find, store, Ascending, keep_all, find_key, store_known}
use Rattle.rules.specs.declared.Cid.{Cid}
use Rattle.rules.specs.Cid.{before}
use Rattle.rules.proofs.CidLaws.{cid_order}
use Rattle.rules.specs.Age.{expired}
use Rattle.settings.specs.declared.SourceLimit.{SourceLimit}
use Rattle.pairs.specs.declared.Pair.{Pair}
use Rattle.pairs.specs.declared.Checked.TheVariants.{Accepted, SourcesExceeded, PairsFull}
use Rattle.pairs.specs.Table.{key_of, key_before, itself, Table, capacity, pair_at, has, listed, live, swept, unknown, full, check_sequence, stopping, sequence_stop, source_stop, reached, stop, recorded, accepted}
use Rattle.pairs.specs.Laws.{stale}
use Rattle.pairs.proofs.Laws.{refused_either}
use Rattle.pair_rows.specs.View.{lonely, placed}
use Rattle.pair_tables.specs.View.{pair_stop}

-- ── a place that is found has an entry ──
pub placed_some : {A : Type 0} (j : ℕ) (o : Option A) → is_some (placed j o) ≡ true → (a : A) × (o ≡ some a)
placed_some j none e = clash e refl
placed_some j (some a) e = (a, refl)

-- ── a sweep with nothing to do ──
pub swept_idle : (now : ℕ) (t : Table) → stale now t.pairs ≡ false → lonely t.pairs t.sources ≡ false → swept now t ≡ t
unfolding swept
swept_idle now t s l =
    let e : keep (live now) t.pairs ≡ t.pairs = keep_all (live now) (λ p. expired now p.reading) t.pairs (λ p f. rw f) s in
    let g : keep (has t.pairs) t.sources ≡ t.sources = keep_all (has t.pairs) (λ c. not (has t.pairs c)) t.sources (λ c f. split (has t.pairs c) (λ h. h) (λ h. clash (rw h) f)) l in
    rw e (λ i. record { pairs = t.pairs; sources = g i })

-- ── an arrival after the sweep, by the order of its tests ──
module _ (limit : SourceLimit) (p : Pair) (t : Table) where
  pub stop_listed : listed p.cid t.sources ≡ true → stop limit p t ≡ pair_stop p t.pairs
  unfolding stop source_stop full pair_stop
  stop_listed l = split (unknown (pair_at (key_of p) t.pairs) && leb capacity (length t.pairs)) (λ e. cc) (λ e. cc)

  pub stop_limit : listed p.cid t.sources ≡ false → reached limit (length t.sources) ≡ true → stop limit p t ≡ some (SourcesExceeded (length t.sources))
  unfolding stop source_stop
  stop_limit l h = cc

  pub stop_full : listed p.cid t.sources ≡ false → reached limit (length t.sources) ≡ false → leb capacity (length t.sources) ≡ true → stop limit p t ≡ some PairsFull
  unfolding stop source_stop full
  stop_full l h f = split (unknown (pair_at (key_of p) t.pairs) && leb capacity (length t.pairs)) (λ e. cc) (λ e. cc)

  pub stop_unlisted : listed p.cid t.sources ≡ false → reached limit (length t.sources) ≡ false → leb capacity (length t.sources) ≡ false → stop limit p t ≡ pair_stop p t.pairs
  unfolding stop source_stop full pair_stop
  stop_unlisted l h f = split (unknown (pair_at (key_of p) t.pairs) && leb capacity (length t.pairs)) (λ e. cc) (λ e. cc)

pub listed_some : (c d : Cid) (cs : List Cid) → find before itself c cs ≡ some d → listed c cs ≡ true
unfolding listed
listed_some c d cs h = cc

pub listed_none : (c : Cid) (cs : List Cid) → find before itself c cs ≡ none → listed c cs ≡ false
unfolding listed
listed_none c cs h = cc

-- a listed CID is listed already
pub recorded_listed : (p : Pair) (d : Cid) (t : Table) → Ascending before itself t.sources → find before itself p.cid t.sources ≡ some d
    → recorded p t ≡ record { pairs = store key_before key_of p t.pairs; sources = t.sources }
unfolding recorded
recorded_listed p d t a h =
    let e : d ≡ p.cid = find_key before itself cid_order p.cid d t.sources h in
    let s = store_known before itself cid_order p.cid t.sources a (h ∙ ap some e) in
    λ i. record { pairs = store key_before key_of p t.pairs; sources = s i }

-- ── rules 3 and 4 on the pairs ──
module _ (p : Pair) (ps : List Pair) where
  pub pair_full : pair_at (key_of p) ps ≡ none → capacity ≤ length ps → pair_stop p ps ≡ some PairsFull
  unfolding pair_stop
  pair_full h g = let e = le-leb capacity (length ps) g in cc

  pub pair_new : pair_at (key_of p) ps ≡ none → length ps < capacity → pair_stop p ps ≡ none
  unfolding pair_stop sequence_stop
  pair_new h g = let e = lt-leb capacity (length ps) g in cc

  -- a pair that is held: as the sequence rule answers
  pub pair_known : (q : Pair) → pair_at (key_of p) ps ≡ some q → pair_stop p ps ≡ stopping (check_sequence p.sequence q.sequence)
  unfolding pair_stop sequence_stop
  pair_known q h = rw h

  -- a stop is no acceptance
  accepted_by_sequence : sequence_stop p.sequence (pair_at (key_of p) ps) ≢ some Accepted
  accepted_by_sequence e = clash refl (refused_either (λ a. accepted a ≡ false) p.sequence (pair_at (key_of p) ps) Accepted e (λ x y z. refl) (λ x y z. refl))

  pub never_accepted : pair_stop p ps ≢ some Accepted
  unfolding pair_stop
  never_accepted h =
      let z : ◌≡◌ {A = ℕ} 0 1 =
      split (unknown (pair_at (key_of p) ps) && leb capacity (length ps))
      (λ e. cc)
      (λ e. absurd (accepted_by_sequence (cc))) in
      absurd (omega arith)
