-- One law for each return of an arrival.
-- Assumes nothing.
use Rattle.std.specs.Prelude.{◌≡◌, refl, true, false, List, [], ◌∷◌, ℕ, ◌≤◌, length, Some, None}
use Rattle.std.proofs.Math.Path.{sym, ap}
use Rattle.std.proofs.Common.{◌∙◌, subst, arith, ne_eqb}
use Rattle.settings.specs.declared.Settings.{Settings}
use Rattle.settings.specs.declared.SourceLimit.{SourceLimit}
use Rattle.merge.specs.Merge.{Dmx}
use Rattle.waiting.specs.declared.ReleaseAnswer.{ReleaseAnswer}
use Rattle.waiting.specs.declared.ReleaseAnswer.TheVariants as releasing
use Rattle.waiting.specs.Waiting.{left}
use Rattle.waiting.specs.Waiting as waiting
use Rattle.waiting.specs.Records.{records, most_bytes}
use Rattle.waiting_store.specs.Entries.{waiting_of, lent_none}
use Rattle.waiting_store.specs.Entries as entries
use Rattle.waiting_store.specs.Written.{Laid, Writing}
use Rattle.waiting_calls.specs.Calls.{Yields, ReleaseCalled, released_is, released_leaves, released_writes, none_cleared}
use Rattle.listening.specs.View as listening
use Rattle.model.specs.declared.StepAnswer.{StepAnswer}
use Rattle.model.specs.declared.StepAnswer.TheVariants as says
use Rattle.model.specs.Packet as model
use Rattle.model.specs.State.{State}
use Rattle.model.specs.Step.{Outcome, outcome, with_waiting, accepted, release, with_data, with_sync, if_accepted, stopped, data_arrival, sync_arrival, synchronise, data_pair, sync_pair}
use Rattle.packets.specs.declared.DataPacket.{DataPacket}
use Rattle.pairs.specs.declared.Checked.{Checked}
use Rattle.pairs.specs.declared.Checked.TheVariants as checked
use Rattle.pairs.specs.Table as pairs
use Rattle.pairs.specs.Table.{Table, check}
use Rattle.pair_tables.specs.declared.PairTable.{PairTable}
use Rattle.pair_tables.specs.View as tables
use Rattle.pair_rows.specs.View.{Rows}
use Rattle.packets.specs.View.{packet_of, data_of}
use Rattle.acceptance.specs.View.{Lent, Accepts}
use Rattle.arrivals.specs.View.{Counted, counts, rows_of, Arrives, Synchronises, Shortens}
use Rattle.answers.specs.View.{release_said}
use Rattle.acceptance.specs.Laws.{releases, accepts_released}

-- ── arrivals ──
stays : (a : Checked) (go stay : Outcome) → pairs.accepted a ≡ false → if_accepted a go stay ≡ stay
unfolding if_accepted
stays a go stay e = rw e

goes : (a : Checked) (go stay : Outcome) → pairs.accepted a ≡ true → if_accepted a go stay ≡ go
unfolding if_accepted
goes a go stay e = rw e

module _ (S : Settings) (now : ℕ) (d : model.DataPacket) (k k' : Counted) (a : Checked)
    (f : tables.Follows k'.table k'.pairs k'.sources a (check S.source_limit S.announce_timeout (data_pair now d) (counts k))) where
  -- the arrival at any state with this table
  data_said : (s : State) → s.data_pairs ≡ counts k
      → data_arrival S now d s ≡ if_accepted a (accepted S now d (with_data (counts k') s)) (outcome (with_data (counts k') s) (stopped a))
  unfolding data_arrival
  data_said s e =
      let x = ap (check S.source_limit S.announce_timeout (data_pair now d)) e in
      let t : (check S.source_limit S.announce_timeout (data_pair now d) s.data_pairs).0 ≡ counts k' = ap (λ (y : Table × Checked). y.0) x ∙ sym f.table_is in
      let b : (check S.source_limit S.announce_timeout (data_pair now d) s.data_pairs).1 ≡ a = ap (λ (y : Table × Checked). y.1) x ∙ sym f.answer_is in
      λ i. if_accepted (b i) (accepted S now d (with_data (t i) s)) (outcome (with_data (t i) s) (stopped (b i)))

  pub arrives_accepted : (m m' : Lent) (out out' : List ℕ) (w : StepAnswer) → pairs.accepted a ≡ true → Accepts S now d m out m' out' w
      → Arrives S now d k m out k' m' out' w
  arrives_accepted m m' out out' w e c = record {
    released = c.released;
    outcome_is = λ s p q r. data_said s p ∙ goes a _ _ e ∙ c.outcome_is (with_data (counts k') s) q r;
    written = c.written;
    kept = f.kept;
    ready = c.ready;
  }

  pub arrives_stopped : (m : Lent) (out : List ℕ) → pairs.accepted a ≡ false → entries.Kept m.count m.rows m.store → listening.Kept m.listened m.heard
      → Arrives S now d k m out k' m out (stopped a)
  unfolding records
  arrives_stopped m out e kw kl = record {
    released = [];
    outcome_is = λ s p q r.
        data_said s p ∙ stays a _ _ e
        ∙ (λ i. outcome (record { data_pairs = counts k'; sync_pairs = s.sync_pairs; waiting = q i; listened = r i; discovered = s.discovered }) (stopped a));
    written = refl;
    kept = f.kept;
    ready = record { kept_waiting = kw; lent_waiting = lent_none m.rows m.store; kept_listened = kl };
  }

-- ── the short way ──
module _ (S : Settings) (now : ℕ) (p : DataPacket) (vs : List ℕ) (t : PairTable) (n : ℕ) (pairs sources : Rows) (out : List ℕ) where
  pub shortens : (pairs' : Rows) (out' : List ℕ) (r : ℕ) → p.address ≡ 0 → n ≡ 0
      → ((limit : SourceLimit) → tables.Follows (tables.reading_noted now t) pairs' sources checked.Accepted (check limit S.announce_timeout (data_pair now (packet_of p vs)) (tables.table_of t pairs sources)))
      → Laid (data_of p now) vs out out' 0 r → Shortens S now (packet_of p vs) t n pairs sources out pairs' out' (Some r)
  shortens pairs' out' r z e f l = record {
    arrives = λ b g m c kw kl.
        let q : r ≡ b = cc in
        let w = releases now p vs m.count m.count m.rows m.rows m.store m.store out out' r (none_cleared m.count m.rows m.store (c ∙ e) kw p.universe) l in
        subst (λ (x : ℕ). Arrives S now (packet_of p vs) (rows_of t pairs sources) m out (rows_of (tables.reading_noted now t) pairs' sources) m out' (says.Released 1 x)) q
        (arrives_accepted S now (packet_of p vs) (rows_of t pairs sources) (rows_of (tables.reading_noted now t) pairs' sources) checked.Accepted (f S.source_limit) m m out out' (says.Released 1 r) refl
        (accepts_released S now (packet_of p vs) m out m.count m.rows m.store out' r z kl w));
    left = λ g. let x : ◌≡◌ {A = ℕ} 0 1 = cc in absurd (omega arith);
  }

  pub shortens_nothing : (pairs' : Rows) → pairs' ≡ pairs → Shortens S now (packet_of p vs) t n pairs sources out pairs' out None
  shortens_nothing pairs' e = record {
    arrives = λ b g. let x : ◌≡◌ {A = ℕ} 0 1 = cc in absurd (omega arith);
    left = λ g. (e, refl);
  }

-- ── synchronisation ──
release_said_lem : (ds : List Dmx) (s : State) (n b : ℕ) → n ≡ length ds → b ≡ length (records ds)
    → release ds s ≡ record { state = s; answer = release_said (releasing.Released n b); released = ds }
unfolding release
release_said_lem [] s n b p q = λ i. record { state = s; answer = release_said (releasing.Released (sym p i) b); released = [] }
release_said_lem (x ∷ ds) s n b p q =
    let e : ◌≡◌ {A = StepAnswer} (says.Released (length (x ∷ ds)) (length (records (x ∷ ds)))) (release_said (releasing.Released n b)) =
    (λ i. says.Released (sym p i) (sym q i)) ∙ sym (rw (ne_eqb n 0 (omega arith))) in
    λ i. record { state = s; answer = e i; released = x ∷ ds }

module _ (S : Settings) (now : ℕ) (y : model.SyncPacket) (k k' : Counted) (a : Checked)
    (f : tables.Follows k'.table k'.pairs k'.sources a (check S.source_limit S.announce_timeout (sync_pair now y) (counts k))) where
  sync_said : (s : State) → s.sync_pairs ≡ counts k
      → sync_arrival S now y s ≡ if_accepted a (synchronise now y.address (with_sync (counts k') s)) (outcome (with_sync (counts k') s) (stopped a))
  unfolding sync_arrival
  sync_said s e =
      let x = ap (check S.source_limit S.announce_timeout (sync_pair now y)) e in
      let t : (check S.source_limit S.announce_timeout (sync_pair now y) s.sync_pairs).0 ≡ counts k' = ap (λ (z : Table × Checked). z.0) x ∙ sym f.table_is in
      let b : (check S.source_limit S.announce_timeout (sync_pair now y) s.sync_pairs).1 ≡ a = ap (λ (z : Table × Checked). z.1) x ∙ sym f.answer_is in
      λ i. if_accepted (b i) (synchronise now y.address (with_sync (t i) s)) (outcome (with_sync (t i) s) (stopped (b i)))

  module _ (n : ℕ) (rows : Rows) (store out : List ℕ) where
    taken_out : (n' : ℕ) (rows' : Rows) (store' : List ℕ) (c b : ℕ) → left y.address (waiting_of n rows store) ≡ waiting_of n' rows' store'
        → c ≡ length (waiting.released now y.address (waiting_of n rows store)) → b ≡ length (records (waiting.released now y.address (waiting_of n rows store)))
        → (s : State) → s.waiting ≡ waiting_of n rows store
        → synchronise now y.address s ≡ record { state = with_waiting (waiting_of n' rows' store') s; answer = release_said (releasing.Released c b); released = waiting.released now y.address (waiting_of n rows store) }
    unfolding synchronise
    taken_out n' rows' store' c b v p q s e =
        (λ i. release (waiting.released now y.address (e i)) (with_waiting (left y.address (e i)) s))
        ∙ release_said_lem (waiting.released now y.address (waiting_of n rows store)) (with_waiting (left y.address (waiting_of n rows store)) s) c b p q
        ∙ (λ i. record { state = with_waiting (v i) s; answer = release_said (releasing.Released c b); released = waiting.released now y.address (waiting_of n rows store) })

    pub synchronises : (n' : ℕ) (rows' : Rows) (store' out' : List ℕ) (c b : ℕ) → pairs.accepted a ≡ true
        → Yields rows store rows' store' n' (left y.address (waiting_of n rows store))
        → Writing (waiting.released now y.address (waiting_of n rows store)) out out' c b
        → Synchronises S now y k n rows store out k' n' rows' store' out' (release_said (releasing.Released c b))
    synchronises n' rows' store' out' c b e v w = record {
      released = waiting.released now y.address (waiting_of n rows store);
      outcome_is = λ s p q. sync_said s p ∙ goes a _ _ e ∙ taken_out n' rows' store' c b (sym v.view) w.record_count w.byte_count (with_sync (counts k') s) q;
      written = w.written;
      kept = f.kept;
      kept_waiting = v.kept;
      lent_waiting = v.lent;
    }

    -- an output with room is written
    pub synchronises_called : (n' : ℕ) (rows' : Rows) (store' out' : List ℕ) (r : ReleaseAnswer) → pairs.accepted a ≡ true → most_bytes ≤ length out
        → ReleaseCalled n rows store now y.address out rows' store' out' n' r
        → Synchronises S now y k n rows store out k' n' rows' store' out' (release_said r)
    synchronises_called n' rows' store' out' r e f c =
        let ds = waiting.released now y.address (waiting_of n rows store) in
        subst (λ (w : StepAnswer). Synchronises S now y k n rows store out k' n' rows' store' out' w)
        (ap release_said (sym (released_is n rows store now y.address out rows' store' out' n' f r c)))
        (synchronises n' rows' store' out' (length ds) (length (records ds)) e
        (released_leaves n rows store now y.address out rows' store' out' n' f r c)
        (released_writes n rows store now y.address out rows' store' out' n' f r c))

    pub synchronises_stopped : pairs.accepted a ≡ false → entries.Kept n rows store → Synchronises S now y k n rows store out k' n rows store out (stopped a)
    unfolding records
    synchronises_stopped e kw = record {
      released = [];
      outcome_is = λ s p q.
          sync_said s p ∙ stays a _ _ e
          ∙ (λ i. outcome (record { data_pairs = s.data_pairs; sync_pairs = counts k'; waiting = q i; listened = s.listened; discovered = s.discovered }) (stopped a));
      written = refl;
      kept = f.kept;
      kept_waiting = kw;
      lent_waiting = lent_none rows store;
    }
