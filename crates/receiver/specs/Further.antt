-- One law for each return of the further calls.
-- Assumes nothing.
use Rattle.std.specs.Prelude.{◌≡◌, refl, Bool, ◌≢◌, length}
use Rattle.std.proofs.Common.{sym, ap, ◌∙◌, arith, length-take}
use Rattle.std.proofs.Math.Option.{Option, none, some}
use mathlib.Core.List.{List}
use Prim.Native.Nat.{ℕ, ◌≤◌}
use Rattle.laws.specs.Cases.{split, clash}
use Rattle.laws.specs.declared.After.{After}
use Rattle.rules.specs.declared.Cid.{Cid}
use Rattle.rules.specs.Universe.{legal}
use Rattle.settings.specs.declared.Settings.{Settings}
use Rattle.pair_rows.specs.View.{Rows}
use Rattle.pairs.specs.Table.{Key, key}
use Rattle.pairs.specs.declared.SweepAnswer.{SweepAnswer}
use Rattle.pairs.specs.declared.SweepAnswer.TheVariants.{Quiet, TimedOut}
use Rattle.sequences.specs.declared.SequenceNumbering.{SequenceNumbering}
use Rattle.sequences.specs.View as sequences
use Rattle.sequences.proofs.Laws.{answer_some, answer_none}
use Rattle.waiting_calls.specs.declared.Waiting.{Waiting}
use Rattle.waiting.specs.Waiting.{cleared}
use Rattle.waiting_store.specs.Entries.{waiting_of, lent_none}
use Rattle.waiting_calls.specs.Calls.{Yields, Empty}
use Rattle.listening.specs.declared.Listened.{Listened}
use Rattle.listening.specs.View.{listened_of, Listens, Mutes, Fresh}
use Rattle.listening.specs.View as listening
use Rattle.discovery_calls.specs.declared.Discovery.{Discovery}
use Rattle.discovery.specs.Discovery.{pool_length, swept}
use Rattle.discovery_calls.specs.View.{Holds, Emptied}
use Rattle.discovery_pages.specs.Lent as pool
use Rattle.lengths.specs.Space.{bytes}
use Rattle.model.specs.declared.PollAnswer.TheVariants as polling
use Rattle.model.specs.declared.ExpiryAnswer.TheVariants as expiry
use Rattle.model.specs.declared.ListenAnswer.{ListenAnswer}
use Rattle.model.specs.declared.ListenAnswer.TheVariants as listen
use Rattle.model.specs.declared.MuteAnswer.{MuteAnswer}
use Rattle.model.specs.declared.MuteAnswer.TheVariants as muting
use Rattle.model.specs.declared.ClearAnswer.TheVariants as clearing
use Rattle.model.specs.Answer.{poll_number, expiry_number, listen_number, mute_number, clear_number}
use Rattle.model.specs.State.{State, listens}
use Rattle.model.specs.Step.{short, waiting_bytes, page_bytes, poll, with_data, with_sync, with_waiting, with_listened, with_discovered}
use Rattle.model.proofs.ExpiryLaws.{sweep_by}
use Rattle.model.specs.Calls.{polled_by, poll_call, expiry_call, listen_call, muted, mute_call, clear_call, clear_all_call, reset_pairs_call, reset_discovery_call, reset_call}
use Rattle.timeouts.specs.View.{Polls}
use Rattle.listening.specs.Laws.{refused_list}
use Rattle.receiver.specs.declared.Receiver.{Receiver}
use Rattle.receiver.specs.View.{Memory, sequences_in, with_sequence_rows, with_waiting_rows, with_listened_rows, with_discovery_rows, state_of, Kept, leaves_all, Begins, Does, Becomes}
use Rattle.lengths.specs.Finds.{room_for}

-- ── a fresh receiver ──
pub begins : (q : SequenceNumbering) (w : Waiting) (l : Listened) (d : Discovery) (m : Memory) → sequences.Emptied q → Empty w.count → Fresh l m.heard → Emptied d
    → Begins (record { sequences = q; waiting = w; listened = l; discovery = d }) m
begins q w l d m a b c e = record {
  state_is = λ i. record {
    data_pairs = a.no_data.is_empty m.data_pairs m.data_sources i;
    sync_pairs = a.no_sync.is_empty m.sync_pairs m.sync_sources i;
    waiting = b.none_waits m.rows m.store i;
    listened = c.view i;
    discovered = e.unknown m.sources m.names m.pages m.universes i;
  };
  kept_listened = c.kept;
  kept = λ z. record {
    kept_sequences = record {
      kept_data = a.no_data.kept m.data_pairs m.data_sources z.data_pairs_room z.data_sources_room;
      kept_sync = a.no_sync.kept m.sync_pairs m.sync_sources z.sync_pairs_room z.sync_sources_room;
    };
    kept_waiting = λ h. b.kept m.rows m.store (record { rows_length = z.rows_room; store_room = h });
    kept_listened = c.kept;
    kept_discovery = λ h. e.kept m.sources m.names m.pages m.universes z.sources_room z.names_room z.pages_room h;
  };
}

-- ── the poll ──
-- a poll leaves what calls presuppose
pub polled_kept : (S : Settings) (now : ℕ) (r : Receiver) (m : Memory) {q : SequenceNumbering} {n : sequences.Lent} {w : Waiting} {rows : Rows} {store : List ℕ} {a : SweepAnswer}
    → Polls S now r.sequences (sequences_in m) r.waiting.count m.rows m.store q n w.count rows store a → Kept r m
    → Kept (record { sequences = q; waiting = w; listened = r.listened; discovery = r.discovery }) (with_sequence_rows n (with_waiting_rows rows store m))
polled_kept S now r m p k = record {
  kept_sequences = p.kept;
  kept_waiting = λ h. p.kept_waiting;
  kept_listened = k.kept_listened;
  kept_discovery = k.kept_discovery;
}

module _ (S : Settings) (now : ℕ) (r : Receiver) (m : Memory) where
  poll_short : (n : ℕ) → short waiting_bytes (length m.store) ≡ some n → poll_call (length m.store) S now (state_of r m) ≡ (state_of r m, polling.TooShort n)
  unfolding poll_call
  poll_short n e = rw (e, poll_call)

  poll_long : short waiting_bytes (length m.store) ≡ none → poll_call (length m.store) S now (state_of r m) ≡ polled_by (poll S now (state_of r m))
  unfolding poll_call
  poll_long e = rw (e, poll_call)

  pub does_poll_short : (n : ℕ) → short waiting_bytes (length m.store) ≡ some n → Does (poll_call (length m.store) S now) poll_number r m r m (polling.TooShort n)
  does_poll_short n e = record { outcome_is = poll_short n e; kept = λ k. k; all_left = λ z. (refl, refl); lent_waiting = lent_none m.rows m.store; lent_pages = pool.lent_none m.universes }

  module _ (q : SequenceNumbering) (n : sequences.Lent) (w : Waiting) (rows : Rows) (store : List ℕ) (a : SweepAnswer) (z : short waiting_bytes (length m.store) ≡ none)
      (p : Polls S now r.sequences (sequences_in m) r.waiting.count m.rows m.store q n w.count rows store a) where
    abbrev next : Receiver
    next = record { sequences = q; waiting = w; listened = r.listened; discovery = r.discovery }

    abbrev left : Memory
    left = with_sequence_rows n (with_waiting_rows rows store m)

    polled : (o : Option Key) → p.timed_out ≡ o → poll_call (length m.store) S now (state_of r m) ≡ polled_by (state_of next left, o)
    polled o e =
        poll_long z
        ∙ ap polled_by (p.state_is (state_of r m) refl refl refl ∙ ap {B = State × Option Key} (λ (k : Option Key). (state_of next left, k)) e)

    pub does_poll_told : (c : Cid) (u : ℕ) → a ≡ TimedOut c u → Does (poll_call (length m.store) S now) poll_number r m next left (polling.UniverseTimeout c u)
    unfolding polled_by
    does_poll_told c u e = record {
      outcome_is = polled (some (key c u)) (answer_some p.timed_out c u (sym e ∙ p.answer_is));
      kept = polled_kept S now r m p;
      all_left = λ f. clash f refl;
      lent_waiting = p.lent_waiting;
      lent_pages = pool.lent_none m.universes;
    }

    pub does_poll : a ≡ Quiet → Does (poll_call (length m.store) S now) poll_number r m next left polling.Polled
    unfolding polled_by
    does_poll e = record {
      outcome_is = polled none (answer_none p.timed_out (sym e ∙ p.answer_is));
      kept = polled_kept S now r m p;
      all_left = λ f. clash f refl;
      lent_waiting = p.lent_waiting;
      lent_pages = pool.lent_none m.universes;
    }

-- ── the discovery sweep ──
module _ (S : Settings) (now : ℕ) (r : Receiver) (m : Memory) where
  pub does_expiry_short : (n : ℕ) → short page_bytes (bytes m.universes) ≡ some n → Does (expiry_call (bytes m.universes) S now) expiry_number r m r m (expiry.TooShort n)
  unfolding expiry_call
  does_expiry_short n e = record { outcome_is = rw (e, expiry_call); kept = λ k. k; all_left = λ z. (refl, refl); lent_waiting = lent_none m.rows m.store; lent_pages = pool.lent_none m.universes }

  pub does_expiry : (d : Discovery) (sources names pages : Rows) (universes : List ℕ) → short page_bytes (bytes m.universes) ≡ none
      → Holds m.universes d sources names pages universes (swept S.discovery_expiry now (state_of r m).discovered)
      → Does (expiry_call (bytes m.universes) S now) expiry_number r m (record { sequences = r.sequences; waiting = r.waiting; listened = r.listened; discovery = d })
      (with_discovery_rows sources names pages universes m) expiry.Swept
  does_expiry d sources names pages universes e h = record {
    outcome_is = sweep_by (bytes m.universes) S now (state_of r m) e ∙ (λ i. (with_discovered (sym h.seen i) (state_of r m), expiry.Swept));
    kept = λ k. record { kept_sequences = k.kept_sequences; kept_waiting = k.kept_waiting; kept_listened = k.kept_listened; kept_discovery = λ z. h.kept };
    all_left = λ f. clash f refl;
    lent_waiting = lent_none m.rows m.store;
    lent_pages = h.lent;
  }

-- what a pool that is long enough says of its length
pub pool_room : (universes : List ℕ) → short page_bytes (bytes universes) ≡ none → pool_length ≤ length universes
pool_room universes e = let h = room_for page_bytes (bytes universes) e in omega arith

-- ── listened universes ──
-- one list in one array has one count
same_count : (l l' : Listened) (rows : List ℕ) → listening.Kept l rows → listening.Kept l' rows → listened_of l' rows ≡ listened_of l rows → l' ≡ l
same_count l l' rows k k' e =
    let a = k.room in
    let b = k.within in
    let c = k'.within in
    let x = length-take l.count rows in
    let y = length-take l'.count rows in
    let z = ap (λ (s : List ℕ). length s) e in
    let f : l'.count ≡ l.count = omega arith in
    λ i. record { count = f i }

-- a universe that is refused leaves the list
muted_refused : (u : ℕ) (l : List ℕ) → (muted u l).1 ≢ muting.Muted → (muted u l).0 ≡ l
unfolding muted
muted_refused u l n =
    split (legal u)
    (λ e. split (listens u l) (λ f. absurd (n (rw (e, f)))) (λ f. rw (e, f)))
    (λ e. rw e)

module _ (r : Receiver) (m : Memory) (k : listening.Kept r.listened m.heard) where
  -- a refused call: the header as it was, too
  left_all : (l : Listened) (heard : List ℕ) → heard ≡ m.heard → listening.Kept l heard → listened_of l heard ≡ listened_of r.listened m.heard
      → (◌≡◌ {A = Receiver} (record { sequences = r.sequences; waiting = r.waiting; listened = l; discovery = r.discovery }) r) × (with_listened_rows heard m ≡ m)
  left_all l heard e k' v =
      let f = same_count r.listened l m.heard k (rw e at k') (sym (ap (listened_of l) e) ∙ v) in
      ((λ i. record { sequences = r.sequences; waiting = r.waiting; listened = f i; discovery = r.discovery }), (λ i. with_listened_rows (e i) m))

  pub does_listen : (us : List ℕ) (a : After Listened ListenAnswer) (heard : List ℕ) → Listens us r.listened m.heard a heard
      → Does (listen_call us) listen_number r m (record { sequences = r.sequences; waiting = r.waiting; listened = a.left; discovery = r.discovery }) (with_listened_rows heard m) a.answer
  unfolding listen_call
  does_listen us a heard l = record {
    outcome_is = λ i. (with_listened (sym l.view i).0 (state_of r m), (sym l.view i).1);
    kept = λ x. record { kept_sequences = x.kept_sequences; kept_waiting = x.kept_waiting; kept_listened = l.kept; kept_discovery = x.kept_discovery };
    all_left = λ f.
        let n : a.answer ≢ listen.Listening = λ e. clash f (ap (λ (x : ListenAnswer). leaves_all (listen_number x)) e) in
        left_all a.left heard (l.refused n) l.kept
        (ap (λ (x : List ℕ × ListenAnswer). x.0) l.view ∙ refused_list us (listened_of r.listened m.heard) (λ e. n (ap (λ (x : List ℕ × ListenAnswer). x.1) l.view ∙ e)));
    lent_waiting = lent_none m.rows m.store;
    lent_pages = pool.lent_none m.universes;
  }

  pub does_mute : (u : ℕ) (a : After Listened MuteAnswer) (heard : List ℕ) → Mutes u r.listened m.heard a heard
      → Does (mute_call u) mute_number r m (record { sequences = r.sequences; waiting = r.waiting; listened = a.left; discovery = r.discovery }) (with_listened_rows heard m) a.answer
  unfolding mute_call
  does_mute u a heard l = record {
    outcome_is = λ i. (with_listened (sym l.view i).0 (state_of r m), (sym l.view i).1);
    kept = λ x. record { kept_sequences = x.kept_sequences; kept_waiting = x.kept_waiting; kept_listened = l.kept; kept_discovery = x.kept_discovery };
    all_left = λ f.
        let n : a.answer ≢ muting.Muted = λ e. clash f (ap (λ (x : MuteAnswer). leaves_all (mute_number x)) e) in
        left_all a.left heard (l.refused n) l.kept
        (ap (λ (x : List ℕ × MuteAnswer). x.0) l.view ∙ muted_refused u (listened_of r.listened m.heard) (λ e. n (ap (λ (x : List ℕ × MuteAnswer). x.1) l.view ∙ e)));
    lent_waiting = lent_none m.rows m.store;
    lent_pages = pool.lent_none m.universes;
  }

-- ── waiting data ──
module _ (u : ℕ) (r : Receiver) (m : Memory) where
  pub does_clear_short : (n : ℕ) → short waiting_bytes (length m.store) ≡ some n → Does (clear_call (length m.store) u) clear_number r m r m (clearing.TooShort n)
  unfolding clear_call
  does_clear_short n e = record { outcome_is = rw (e, clear_call); kept = λ k. k; all_left = λ z. (refl, refl); lent_waiting = lent_none m.rows m.store; lent_pages = pool.lent_none m.universes }

  clear_long : short waiting_bytes (length m.store) ≡ none
      → clear_call (length m.store) u (state_of r m)
      ≡ (with_waiting (cleared u (state_of r m).waiting).0 (state_of r m), clearing.Cleared (cleared u (state_of r m).waiting).1)
  unfolding clear_call
  clear_long e = rw (e, clear_call)

  pub does_clear : (w : Waiting) (rows : Rows) (store : List ℕ) (b : Bool) → short waiting_bytes (length m.store) ≡ none
      → Yields m.rows m.store rows store w.count (cleared u (waiting_of r.waiting.count m.rows m.store)).0
      → b ≡ (cleared u (waiting_of r.waiting.count m.rows m.store)).1
      → Does (clear_call (length m.store) u) clear_number r m (record { sequences = r.sequences; waiting = w; listened = r.listened; discovery = r.discovery })
      (with_waiting_rows rows store m) (clearing.Cleared b)
  does_clear w rows store b e y f = record {
    outcome_is = clear_long e ∙ (λ i. (with_waiting (sym y.view i) (state_of r m), clearing.Cleared (sym f i)));
    kept = λ k. record { kept_sequences = k.kept_sequences; kept_waiting = λ h. y.kept; kept_listened = k.kept_listened; kept_discovery = k.kept_discovery };
    all_left = λ z. clash z refl;
    lent_waiting = y.lent;
    lent_pages = pool.lent_none m.universes;
  }

pub clears_all : (r : Receiver) (w : Waiting) (m : Memory) → Empty w.count
    → Becomes clear_all_call r (record { sequences = r.sequences; waiting = w; listened = r.listened; discovery = r.discovery }) m
unfolding clear_all_call
clears_all r w m e = record {
  state_is = λ i. with_waiting (e.none_waits m.rows m.store i) (state_of r m);
  kept = λ k. record {
    kept_sequences = k.kept_sequences;
    kept_waiting = λ h. e.kept m.rows m.store (k.kept_waiting h).room;
    kept_listened = k.kept_listened;
    kept_discovery = k.kept_discovery;
  };
}

-- ── the sources: each half, and the two in turn ──
pub resets_pairs : (r : Receiver) (q : SequenceNumbering) (m : Memory) → sequences.Emptied q
    → Becomes reset_pairs_call r (record { sequences = q; waiting = r.waiting; listened = r.listened; discovery = r.discovery }) m
unfolding reset_pairs_call
resets_pairs r q m a = record {
  state_is = λ i. with_sync (a.no_sync.is_empty m.sync_pairs m.sync_sources i) (with_data (a.no_data.is_empty m.data_pairs m.data_sources i) (state_of r m));
  kept = λ k.
      let x = k.kept_sequences.kept_data in
      let y = k.kept_sequences.kept_sync in
      record {
        kept_sequences = record {
          kept_data = a.no_data.kept m.data_pairs m.data_sources x.pairs_room x.sources_room;
          kept_sync = a.no_sync.kept m.sync_pairs m.sync_sources y.pairs_room y.sources_room;
        };
        kept_waiting = k.kept_waiting;
        kept_listened = k.kept_listened;
        kept_discovery = k.kept_discovery;
      };
}

pub resets_discovery : (r : Receiver) (d : Discovery) (m : Memory) → Emptied d
    → Becomes reset_discovery_call r (record { sequences = r.sequences; waiting = r.waiting; listened = r.listened; discovery = d }) m
unfolding reset_discovery_call
resets_discovery r d m e = record {
  state_is = λ i. with_discovered (e.unknown m.sources m.names m.pages m.universes i) (state_of r m);
  kept = λ k. record {
    kept_sequences = k.kept_sequences;
    kept_waiting = k.kept_waiting;
    kept_listened = k.kept_listened;
    kept_discovery = λ h. let z = k.kept_discovery h in e.kept m.sources m.names m.pages m.universes z.source_rows z.name_rows z.packing.rows h;
  };
}

pub resets : (r p q : Receiver) (m : Memory) → Becomes reset_pairs_call r p m → Becomes reset_discovery_call p q m → Becomes reset_call r q m
unfolding reset_call
resets r p q m a b = record {
  state_is = b.state_is ∙ ap reset_discovery_call a.state_is;
  kept = λ k. b.kept (a.kept k);
}
