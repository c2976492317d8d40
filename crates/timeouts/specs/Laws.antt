-- One law for each return of the poll.
-- Assumes nothing.
use Rattle.std.specs.Prelude.{◌≡◌, refl, true, List, ℕ, eqb}
use Rattle.std.proofs.Math.Path.{sym}
use Rattle.std.proofs.Common.{ap, ◌∙◌, eqb-true}
use Rattle.std.proofs.Math.Option.{Option, none, some}
use Rattle.laws.specs.Cases.{split, clash}
use Rattle.settings.specs.declared.Settings.{Settings}
use Rattle.waiting.specs.Waiting as waiting
use Rattle.waiting_store.specs.Entries.{lent_none}
use Rattle.waiting_store.specs.Entries as entries
use Rattle.waiting_calls.specs.Calls.{SweptCall, none_swept}
use Rattle.model.specs.State.{State}
use Rattle.model.specs.Step.{with_data, with_sync, poll, poll_sync, poll_waiting}
use Rattle.pairs.specs.Table.{Table, Key, key, sweep}
use Rattle.rules.specs.declared.Cid.{Cid}
use Rattle.pairs.specs.declared.SweepAnswer.{SweepAnswer}
use Rattle.pairs.specs.declared.SweepAnswer.TheVariants.{Quiet, TimedOut}
use Rattle.sequences.specs.declared.SequenceNumbering.{SequenceNumbering}
use Rattle.sequences.specs.View as sequences
use Rattle.sequences.proofs.Laws.{answer_some, answer_none, checks_nothing}
use Rattle.sequences.specs.Sequences.{Numbers, numbers, timeouts, timeouts_data, timeouts_sync}
use Rattle.pair_rows.specs.View.{Rows}
use Rattle.timeouts.specs.View.{Polls, idle}

-- what follows the timeouts of both tables
spread : ℕ → State → Numbers × Option Key → State × Option Key
spread now s (n, some k) = (with_data n.data_table (with_sync n.sync_table s), some k)
spread now s (n, none) = poll_waiting now (with_data n.data_table (with_sync n.sync_table s))

poll_spread : (S : Settings) (now : ℕ) (s : State) → poll S now s ≡ spread now s (timeouts S.announce_timeout now (numbers s.data_pairs s.sync_pairs))
poll_spread S now s = by_data (sweep S.announce_timeout now s.data_pairs) refl
  where
    by_sync : (d : Table) (r : Table × Option Key) → sweep S.announce_timeout now s.sync_pairs ≡ r
        → poll_sync S now (with_data d s) ≡ spread now s (timeouts_sync d r)
    by_sync d (y, some k) e = unfold poll_sync spread timeouts_sync in (rw (e, poll_sync) (ap (λ (r : Table × Option Key). (with_sync r.0 (with_data d s), some k)) e))
    by_sync d (y, none) e = unfold poll_sync spread timeouts_sync in (rw (e, poll_sync) (ap (λ (r : Table × Option Key). poll_waiting now (with_sync r.0 (with_data d s))) e))

    by_data : (r : Table × Option Key) → sweep S.announce_timeout now s.data_pairs ≡ r
        → poll S now s ≡ spread now s (timeouts S.announce_timeout now (numbers s.data_pairs s.sync_pairs))
    by_data (d, some k) e = unfold poll spread timeouts timeouts_data in (rw (e, poll) (ap (λ (r : Table × Option Key). (with_data r.0 s, some k)) e))
    by_data (d, none) e = unfold poll timeouts timeouts_data in (rw (e, poll) (ap (λ (r : Table × Option Key). poll_sync S now (with_data r.0 s)) e ∙ by_sync d (sweep S.announce_timeout now s.sync_pairs) refl))

module _ (S : Settings) (now : ℕ) (q : SequenceNumbering) (m : sequences.Lent) (n : ℕ) (rows : Rows) (store : List ℕ)
    (q' : SequenceNumbering) (m' : sequences.Lent) (a : SweepAnswer)
    (f : sequences.Follows q' m' a (sequences.answered (timeouts S.announce_timeout now (sequences.numbers_of q m)))) where
  -- the timeouts, with their note
  checked_by : (o : Option Key) → (timeouts S.announce_timeout now (sequences.numbers_of q m)).1 ≡ o → (s : State)
      → s.data_pairs ≡ sequences.data_of q m → s.sync_pairs ≡ sequences.sync_of q m → poll S now s ≡ spread now s (sequences.numbers_of q' m', o)
  checked_by o e s x y =
      poll_spread S now s
      ∙ (λ i. spread now s (timeouts S.announce_timeout now (numbers (x i) (y i))))
      ∙ ap (spread now s) (λ i. (sym f.numbers_are i, e i))

  pub polls_told : (c : Cid) (u : ℕ) → a ≡ TimedOut c u → entries.Kept n rows store
      → Polls S now q m n rows store q' m' n rows store (TimedOut c u)
  polls_told c u e kw =
      let o = answer_some (timeouts S.announce_timeout now (sequences.numbers_of q m)).1 c u (sym e ∙ f.answer_is) in
      record {
        timed_out = some (key c u);
        answer_is = refl;
        state_is = λ s x y z. checked_by (some (key c u)) o s x y
            ∙ (unfold spread in (λ i. (record { data_pairs = sequences.data_of q' m'; sync_pairs = sequences.sync_of q' m'; waiting = z i; listened = s.listened; discovered = s.discovered }, some (key c u))));
        kept = f.kept;
        kept_waiting = kw;
        lent_waiting = lent_none rows store;
      }

  pub polls_quiet : (n' : ℕ) (rows' : Rows) (store' : List ℕ) → a ≡ Quiet → SweptCall n rows store now rows' store' n'
      → Polls S now q m n rows store q' m' n' rows' store' Quiet
  polls_quiet n' rows' store' e c =
      let o = answer_none (timeouts S.announce_timeout now (sequences.numbers_of q m)).1 (sym e ∙ f.answer_is) in
      record {
        timed_out = none;
        answer_is = refl;
        state_is = λ s x y z. checked_by none o s x y
            ∙ (unfold spread poll_waiting in (λ i. (record { data_pairs = sequences.data_of q' m'; sync_pairs = sequences.sync_of q' m'; waiting = (ap (waiting.swept now) z ∙ sym c.yields.view) i; listened = s.listened; discovered = s.discovered }, none)));
        kept = f.kept;
        kept_waiting = c.yields.kept;
        lent_waiting = c.yields.lent;
      }

-- an idle receiver: the poll leaves all
pub polls_idle : (S : Settings) (now : ℕ) (q : SequenceNumbering) (m : sequences.Lent) (n : ℕ) (rows : Rows) (store : List ℕ) → idle S now q n ≡ true → sequences.Kept q m → entries.Kept n rows store
    → Polls S now q m n rows store q m n rows store Quiet
polls_idle S now q m n rows store h k kw =
    let w : sequences.quiet S.announce_timeout now q ≡ true = split (sequences.quiet S.announce_timeout now q) (λ e. e) (λ e. clash h (rw e)) in
    let z : eqb n 0 ≡ true = split (eqb n 0) (λ e. e) (λ e. clash h (rw (w, e))) in
    polls_quiet S now q m n rows store q m Quiet (checks_nothing q m k S.announce_timeout now w) n rows store refl
    (none_swept n rows store (eqb-true n 0 z) kw now)
