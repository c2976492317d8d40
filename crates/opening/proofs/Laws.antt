-- One law for each return of the opening, and what it leaves for the packet.
-- Assumes nothing.
use Rattle.std.specs.Prelude.{◌≡◌, true, false, List, ℕ}
use Rattle.std.proofs.Math.Path.{refl, ap}
use Rattle.std.proofs.Common.{sym, ◌∙◌}
use Rattle.std.proofs.Math.Option.{Option, none, some}
use Rattle.laws.specs.Cases.{clash, missing}
use Rattle.rules.specs.declared.Cid.{Cid}
use Rattle.rules.specs.Answer.{Value, first_of}
use Rattle.settings.specs.declared.Settings.{Settings}
use Rattle.pairs.specs.Answers.{answer_of, sweep_number_of, sweep_values_of}
use Rattle.pair_rows.specs.View.{Rows}
use Rattle.pairs.specs.Table.{Key, key}
use Rattle.pairs.specs.declared.SweepAnswer.{SweepAnswer}
use Rattle.pairs.specs.declared.SweepAnswer.TheVariants.{Quiet, TimedOut}
use Rattle.sequences.specs.declared.SequenceNumbering.{SequenceNumbering}
use Rattle.sequences.specs.View as sequences
use Rattle.sequences.proofs.Laws.{answer_some, answer_none}
use Rattle.waiting_calls.specs.declared.Waiting.{Waiting}
use Rattle.waiting_store.specs.Entries.{lent_none}
use Rattle.discovery_pages.specs.Lent as pool
use Rattle.model.specs.declared.StepAnswer.TheVariants as says
use Rattle.model.specs.Packet.{Packet, too_long}
use Rattle.model.specs.State.{State}
use Rattle.model.specs.Step as model
use Rattle.model.specs.Step.{Space, outcome, too_short, page_bytes, poll, polled, step}
use Rattle.receiver.specs.declared.Receiver.{Receiver}
use Rattle.receiver.specs.Further.{polled_kept}
use Rattle.receiver.specs.View.{Memory, sequences_in, with_sequence_rows, with_waiting_rows, state_of, space_in, KeptWaiting}
use Rattle.timeouts.specs.View.{Polls, idle}
use Rattle.timeouts.specs.Laws.{polls_idle}
use Rattle.opening.specs.View.{opening, Opens}
use Rattle.opening.specs.Laws.{long_enough}

-- ── the opening ──
step_short : (m : Space) (S : Settings) (now n : ℕ) (p : Packet) (s : State) → too_short m ≡ some n → step m S now p s ≡ outcome s (says.TooShort n)
unfolding step
step_short m S now n p s e = rw (e, step)

step_long : (m : Space) (S : Settings) (now n : ℕ) (p : Packet) (s : State) → too_short m ≡ none → too_long p ≡ some n → step m S now p s ≡ outcome s (says.TooLong n)
unfolding step model.measured
step_long m S now n p s e f = rw (e, step, f, model.measured)

step_polled : (m : Space) (S : Settings) (now : ℕ) (p : Packet) (s s' : State) (o : Option Key) → too_short m ≡ none → too_long p ≡ none → poll S now s ≡ (s', o)
    → step m S now p s ≡ polled S now p (s', o)
unfolding step model.measured
step_polled m S now p s s' o e f g = rw (e, step, f, model.measured) (ap (polled S now p) g)

module _ (S : Settings) (now : ℕ) (long : Option ℕ) (r : Receiver) (m : Memory) (out : List ℕ) where
  pub opens_short : (n : ℕ) → too_short (space_in m out) ≡ some n → Opens S now long r m out r m true (says.TooShort n)
  opens_short n z = record {
    ends = λ t p e. step_short (space_in m out) S now n p (state_of r m) z;
    goes_on = λ f. clash refl f;
    fits = λ f. clash refl f;
    all_left = λ k e. (refl, refl);
    kept = λ k. k;
    lent_waiting = lent_none m.rows m.store;
    lent_pages = pool.lent_none m.universes;
    told = λ own i. opening (sym z i) long (poll S now (state_of r m)).1;
  }

  pub opens_long : (n : ℕ) → too_short (space_in m out) ≡ none → long ≡ some n → Opens S now long r m out r m true (says.TooLong n)
  opens_long n z l = record {
    ends = λ t p e. step_long (space_in m out) S now n p (state_of r m) z (e ∙ l);
    goes_on = λ f. clash refl f;
    fits = λ f. clash refl f;
    all_left = λ k e. (refl, refl);
    kept = λ k. k;
    lent_waiting = lent_none m.rows m.store;
    lent_pages = pool.lent_none m.universes;
    told = λ own i. opening (sym z i) (sym l i) (poll S now (state_of r m)).1;
  }

  module _ {q : SequenceNumbering} {n : sequences.Lent} {w : Waiting} {rows : Rows} {store : List ℕ} {a : SweepAnswer} (z : too_short (space_in m out) ≡ none) (l : long ≡ none)
      (p : Polls S now r.sequences (sequences_in m) r.waiting.count m.rows m.store q n w.count rows store a) where
    next : Receiver
    next = record { sequences = q; waiting = w; listened = r.listened; discovery = r.discovery }

    left : Memory
    left = with_sequence_rows n (with_waiting_rows rows store m)

    stepped : (o : Option Key) → p.timed_out ≡ o → (x : Packet) → too_long x ≡ long → step (space_in m out) S now x (state_of r m) ≡ polled S now x (state_of next left, o)
    unfolding next left
    stepped o e x f =
        step_polled (space_in m out) S now x (state_of r m) (state_of next left) o z (f ∙ l)
        (p.state_is (state_of r m) refl refl refl ∙ ap {B = State × Option Key} (λ (k : Option Key). (state_of next left, k)) e)

    tested : (k : ℕ) → first_of (too_short (space_in m out)) long ≡ some k → ⊥
    tested k e = missing k e (ap (λ (x : Option ℕ). first_of x long) z ∙ l)

    -- the sweep's own answer
    swept_told : (poll S now (state_of r m)).1 ≡ p.timed_out
    swept_told = ap (λ (x : State × Option Key). x.1) (p.state_is (state_of r m) refl refl refl)

    sweep_first : (b : SweepAnswer) → a ≡ b → (sweep_number_of b, sweep_values_of b) ≡ opening (too_short (space_in m out)) long (poll S now (state_of r m)).1
    sweep_first b e =
        let x = sym e ∙ p.answer_is ∙ ap answer_of (sym swept_told) in
        ap {B = ℕ × List Value} (λ (y : SweepAnswer). (sweep_number_of y, sweep_values_of y)) x
        ∙ (λ i. opening (sym z i) (sym l i) (poll S now (state_of r m)).1)

    pub opens_told : (c : Cid) (u : ℕ) → a ≡ TimedOut c u
        → Opens S now long r m out (record { sequences = q; waiting = w; listened = r.listened; discovery = r.discovery }) (with_sequence_rows n (with_waiting_rows rows store m)) true (says.UniverseTimeout c u)
    unfolding next left polled
    opens_told c u e = record {
      ends = λ t x f. stepped (some (key c u)) (answer_some p.timed_out c u (sym e ∙ p.answer_is)) x f;
      goes_on = λ f. clash refl f;
      fits = λ f. clash refl f;
      all_left = λ k f. absurd (tested k f);
      kept = polled_kept S now r m p;
      lent_waiting = p.lent_waiting;
      lent_pages = pool.lent_none m.universes;
      told = λ own. sweep_first (TimedOut c u) e;
    }

    pub opens_quiet : a ≡ Quiet
        → Opens S now long r m out (record { sequences = q; waiting = w; listened = r.listened; discovery = r.discovery }) (with_sequence_rows n (with_waiting_rows rows store m)) false says.Nothing
    unfolding next left polled
    opens_quiet e = record {
      ends = λ t. clash t refl;
      goes_on = λ t x f. stepped none (answer_none p.timed_out (sym e ∙ p.answer_is)) x f;
      fits = λ f. (z, l);
      all_left = λ k f. absurd (tested k f);
      kept = polled_kept S now r m p;
      lent_waiting = p.lent_waiting;
      lent_pages = pool.lent_none m.universes;
      told = λ own. sweep_first Quiet e;
    }

  -- the poll has nothing to do
  pub opens_idle : idle S now r.sequences r.waiting.count ≡ true → too_short (space_in m out) ≡ none → long ≡ none → sequences.Kept r.sequences (sequences_in m)
      → KeptWaiting r.waiting.count m.rows m.store → Opens S now long r m out r m false says.Nothing
  opens_idle h z l k w =
      opens_quiet {q = r.sequences} {n = sequences_in m} {w = r.waiting} z l
      (polls_idle S now r.sequences (sequences_in m) r.waiting.count m.rows m.store h k (w (long_enough out m.store m.universes z).held)) refl
