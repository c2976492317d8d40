-- One law for each return of a packet that is taken.
-- Assumes nothing.
use Rattle.std.specs.Prelude.{◌≡◌, refl, Bool, true, false, cond, not, ◌&&◌, List, [], ℕ, ◌≤◌, length, Option, None}
use Rattle.std.proofs.Math.Path.{sym, ap}
use Rattle.std.proofs.Common.{◌∙◌, arith}
use Rattle.std.proofs.Math.Option.{none, some}
use Rattle.laws.specs.Cases.{found}
use Rattle.rules.specs.declared.Cid.{Cid}
use Rattle.settings.specs.declared.Settings.{Settings}
use Rattle.pair_rows.specs.View.{Rows}
use Rattle.pairs.specs.Table.{key, pair_at}
use Rattle.pair_tables.specs.View.{reading_noted}
use Rattle.pair_tables.specs.declared.TableOf.{TableOf}
use Rattle.rules.specs.declared.DataSequence.{DataSequence}
use Rattle.rules.specs.declared.SyncSequence.{SyncSequence}
use Rattle.sequences.specs.declared.SequenceNumbering.{SequenceNumbering}
use Rattle.sequences.specs.Sequences.{numbers, removed}
use Rattle.sequences.specs.View as sequences
use Rattle.sequences.proofs.Laws.{removed_found}
use Rattle.waiting_calls.specs.declared.Waiting.{Waiting}
use Rattle.waiting.proofs.Laws.{over_none}
use Rattle.waiting_store.specs.Entries.{lent_none}
use Rattle.listening.specs.declared.Listened.{Listened}
use Rattle.listening.specs.View as listening
use Rattle.discovery_calls.specs.declared.Discovery.{Discovery}
use Rattle.discovery.specs.declared.PageCall.{PageCall}
use Rattle.laws.specs.declared.After.{After}
use Rattle.discovery.specs.Discovery.{Discovered, arrived, ended}
use Rattle.discovery_calls.specs.View.{discovered_of, Holds}
use Rattle.discovery_calls.specs.Arrive.{Called, page_call_fits}
use Rattle.discovery_pages.specs.Lent as pool
use Rattle.model.specs.declared.StepAnswer.{StepAnswer}
use Rattle.model.specs.declared.StepAnswer.TheVariants as says
use Rattle.model.specs.Packet.{DataPacket, SyncPacket, Packet, data_packet, sync_packet, discovery_packet}
use Rattle.model.specs.State.{State, listens}
use Rattle.model.specs.Step as model
use Rattle.model.specs.Step.{outcome, data_step, terminated, sync_step, discovery_step, listed, packet_step}
use Rattle.receiver.specs.declared.Receiver.{Receiver}
use Rattle.packets.specs.declared.DiscoveryPacket.{DiscoveryPacket}
use Rattle.receiver.specs.View.{Memory, sequences_in, with_sequence_rows, with_data_rows, with_sync_rows, with_waiting_rows, with_listened_rows, with_discovery_rows, state_of}
use Rattle.packets.specs.View.{announcement_of}
use Rattle.acceptance.specs.View.{lent_of}
use Rattle.arrivals.specs.View.{rows_of, Arrives, Synchronises, Shortens}
use Rattle.steps.specs.View.{Ends, Takes, TakesShort}
use Rattle.answers.specs.View.{called}

-- ── a packet that does nothing ──
module _ (S : Settings) (now : ℕ) (p : Packet) (r : Receiver) (m : Memory) (out : List ℕ) where
  pub takes_nothing : (a : StepAnswer) → packet_step S now p (state_of r m) ≡ outcome (state_of r m) a → Takes S now p r m out r m out a
  takes_nothing a e = record {
    released = [];
    outcome_is = e;
    written = sym (over_none out);
    kept = λ k. k;
    lent_waiting = lent_none m.rows m.store;
    lent_pages = pool.lent_none m.universes;
  }

-- ── 4. synchronisation ──
sync_unheard : (S : Settings) (now : ℕ) (y : SyncPacket) (s : State) → listens y.address s.listened ≡ false → packet_step S now (sync_packet y) s ≡ outcome s says.Nothing
unfolding packet_step sync_step
sync_unheard S now y s e = rw e

sync_heard : (S : Settings) (now : ℕ) (y : SyncPacket) (s : State) → listens y.address s.listened ≡ true → packet_step S now (sync_packet y) s ≡ model.sync_arrival S now y s
unfolding packet_step sync_step
sync_heard S now y s e = rw e

module _ (S : Settings) (now : ℕ) (y : SyncPacket) (r : Receiver) (m : Memory) (out : List ℕ) where
  pub takes_sync_unheard : listens y.address (state_of r m).listened ≡ false → Takes S now (sync_packet y) r m out r m out says.Nothing
  takes_sync_unheard e = takes_nothing S now (sync_packet y) r m out says.Nothing (sync_unheard S now y (state_of r m) e)

  pub takes_sync : (t : TableOf SyncSequence) (sp ss : Rows) (w : Waiting) (rows : Rows) (store out' : List ℕ) (a : StepAnswer) → listens y.address (state_of r m).listened ≡ true
      → Synchronises S now y (rows_of r.sequences.sync.table m.sync_pairs m.sync_sources) r.waiting.count m.rows m.store out (rows_of t.table sp ss) w.count rows store out' a
      → Takes S now (sync_packet y) r m out (record { sequences = record { «data» = r.sequences.«data»; sync = t }; waiting = w; listened = r.listened; discovery = r.discovery })
      (with_sync_rows sp ss (with_waiting_rows rows store m)) out' a
  takes_sync t sp ss w rows store out' a e y' = record {
    released = y'.released;
    outcome_is = sync_heard S now y (state_of r m) e ∙ y'.outcome_is (state_of r m) refl refl;
    written = y'.written;
    kept = λ k. record {
      kept_sequences = record { kept_data = k.kept_sequences.kept_data; kept_sync = y'.kept };
      kept_waiting = λ h. y'.kept_waiting;
      kept_listened = k.kept_listened;
      kept_discovery = k.kept_discovery;
    };
    lent_waiting = y'.lent_waiting;
    lent_pages = pool.lent_none m.universes;
  }

-- ── 5. discovery ──
module _ (S : Settings) (now : ℕ) (p : DiscoveryPacket) (name list : List ℕ) (r : Receiver) (m : Memory) (out : List ℕ) where
  pub takes_discovery : (d : After Discovery PageCall) (sources names pages : Rows) (universes : List ℕ) (a : StepAnswer) → length name ≤ 63 → length list ≤ 512
      → Called r.discovery m.sources m.names m.pages m.universes now (announcement_of p name list) d sources names pages universes → a ≡ called S d.answer
      → Takes S now (discovery_packet (announcement_of p name list)) r m out
      (record { sequences = r.sequences; waiting = r.waiting; listened = r.listened; discovery = d.left }) (with_discovery_rows sources names pages universes m) out a
  unfolding packet_step discovery_step
  takes_discovery d sources names pages universes a f h t e =
      let g = arrived now (announcement_of p name list) (state_of r m).discovered in
      let x = page_call_fits now (announcement_of p name list) (state_of r m).discovered f h in
      let u : g.0 ≡ discovered_of d.left sources names pages universes = sym (t.seen ∙ ap (λ (y : Discovered × PageCall). y.0) x) in
      let v : listed S g.1 ≡ a = sym (ap (called S) (t.answered ∙ ap (λ (y : Discovered × PageCall). y.1) x)) ∙ sym e in
      record {
        released = [];
        outcome_is = λ i. outcome (model.with_discovered (u i) (state_of r m)) (v i);
        written = sym (over_none out);
        kept = λ k. record {
          kept_sequences = k.kept_sequences;
          kept_waiting = k.kept_waiting;
          kept_listened = k.kept_listened;
          kept_discovery = λ z. t.kept;
        };
        lent_waiting = lent_none m.rows m.store;
        lent_pages = t.lent;
      }

-- ── 3. data ──
-- a stream that ends: the tables' call says by the unknown pair what the model says by the known one
removed_terminated : (d : DataPacket) (s : State)
    → terminated d s ≡ (let n = removed (key d.cid d.universe) (numbers s.data_pairs s.sync_pairs) in
    record { data_pairs = n.data_table; sync_pairs = n.sync_table; waiting = s.waiting; listened = s.listened; discovered = ended d.cid d.universe s.discovered })
unfolding terminated
removed_terminated d s =
    let k = key d.cid d.universe in
    let n = numbers s.data_pairs s.sync_pairs in
    found (pair_at k s.data_pairs.pairs)
    (λ e. rw (e, removed_found k n none e))
    (λ x e. rw (e, removed_found k n (some x) e))

pub ends_stream : (c : Cid) (u : ℕ) (r : Receiver) (m : Memory) (q : SequenceNumbering) (n : sequences.Lent) (d : Discovery) (pages : Rows) (universes : List ℕ)
    → sequences.numbers_of q n ≡ removed (key c u) (sequences.numbers_of r.sequences (sequences_in m)) → sequences.Kept q n
    → Holds m.universes d m.sources m.names pages universes (ended c u (state_of r m).discovered)
    → Ends c u r m (record { sequences = q; waiting = r.waiting; listened = r.listened; discovery = d }) (with_sequence_rows n (with_discovery_rows m.sources m.names pages universes m))
ends_stream c u r m q n d pages universes e k h = record {
  state_is = λ x f g.
      removed_terminated x (state_of r m)
      ∙ (λ i. (let z = removed (key (f i) (g i)) (sequences.numbers_of r.sequences (sequences_in m)) in
      record { data_pairs = z.data_table; sync_pairs = z.sync_table; waiting = (state_of r m).waiting; listened = (state_of r m).listened; discovered = ended (f i) (g i) (state_of r m).discovered }))
      ∙ (λ i. record { data_pairs = (sym e i).data_table; sync_pairs = (sym e i).sync_table; waiting = (state_of r m).waiting; listened = (state_of r m).listened; discovered = sym h.seen i });
  kept = λ x. record { kept_sequences = k; kept_waiting = x.kept_waiting; kept_listened = x.kept_listened; kept_discovery = λ l. h.kept };
  lent_pages = h.lent;
}

module _ (S : Settings) (now : ℕ) (d : DataPacket) (s : State) where
  data_unwanted : d.preview && not S.process_preview_data ≡ true → packet_step S now (data_packet d) s ≡ outcome s says.Nothing
  unfolding packet_step data_step
  data_unwanted e = rw e

  data_ended : d.preview && not S.process_preview_data ≡ false → d.terminated ≡ true
      → packet_step S now (data_packet d) s ≡ outcome (terminated d s) (cond S.announce_stream_termination (says.UniverseTerminated d.cid d.universe) says.Nothing)
  unfolding packet_step data_step
  data_ended e f = rw (e, f)

  data_unheard : d.preview && not S.process_preview_data ≡ false → d.terminated ≡ false → listens d.universe s.listened ≡ false
      → packet_step S now (data_packet d) s ≡ outcome s says.Nothing
  unfolding packet_step data_step
  data_unheard e f g = rw (e, f, g)

  data_heard : d.preview && not S.process_preview_data ≡ false → d.terminated ≡ false → listens d.universe s.listened ≡ true
      → packet_step S now (data_packet d) s ≡ model.data_arrival S now d s
  unfolding packet_step data_step
  data_heard e f g = rw (e, f, g)

module _ (S : Settings) (now : ℕ) (d : DataPacket) (r : Receiver) (m : Memory) (out : List ℕ) where
  pub takes_unwanted : d.preview && not S.process_preview_data ≡ true → Takes S now (data_packet d) r m out r m out says.Nothing
  takes_unwanted e = takes_nothing S now (data_packet d) r m out says.Nothing (data_unwanted S now d (state_of r m) e)

  pub takes_unheard : d.preview && not S.process_preview_data ≡ false → d.terminated ≡ false → listens d.universe (state_of r m).listened ≡ false
      → Takes S now (data_packet d) r m out r m out says.Nothing
  takes_unheard e f g = takes_nothing S now (data_packet d) r m out says.Nothing (data_unheard S now d (state_of r m) e f g)

  pub takes_ended : (r' : Receiver) (n : sequences.Lent) (pages : Rows) (universes : List ℕ) (a : StepAnswer) → d.preview && not S.process_preview_data ≡ false → d.terminated ≡ true
      → Ends d.cid d.universe r m r' (with_sequence_rows n (with_discovery_rows m.sources m.names pages universes m))
      → cond S.announce_stream_termination (says.UniverseTerminated d.cid d.universe) says.Nothing ≡ a
      → Takes S now (data_packet d) r m out r' (with_sequence_rows n (with_discovery_rows m.sources m.names pages universes m)) out a
  takes_ended r' n pages universes a e f t g = record {
    released = [];
    outcome_is = data_ended S now d (state_of r m) e f ∙ (λ i. outcome (t.state_is d refl refl i) (g i));
    written = sym (over_none out);
    kept = t.kept;
    lent_waiting = lent_none m.rows m.store;
    lent_pages = t.lent_pages;
  }

  pub takes_data : (t : TableOf DataSequence) (dp ds : Rows) (w : Waiting) (l : Listened) (rows : Rows) (store heard out' : List ℕ) (a : StepAnswer)
      → d.preview && not S.process_preview_data ≡ false → d.terminated ≡ false → listens d.universe (state_of r m).listened ≡ true
      → Arrives S now d (rows_of r.sequences.«data».table m.data_pairs m.data_sources) (lent_of r.waiting.count r.listened m.rows m.store m.heard) out
      (rows_of t.table dp ds) (lent_of w.count l rows store heard) out' a
      → Takes S now (data_packet d) r m out (record { sequences = record { «data» = t; sync = r.sequences.sync }; waiting = w; listened = l; discovery = r.discovery })
      (with_sequence_rows (sequences.lent dp ds m.sync_pairs m.sync_sources) (with_waiting_rows rows store (with_listened_rows heard m))) out' a
  takes_data t dp ds w l rows store heard out' a e f g x = record {
    released = x.released;
    outcome_is = data_heard S now d (state_of r m) e f g ∙ x.outcome_is (state_of r m) refl refl refl;
    written = x.written;
    kept = λ k. record {
      kept_sequences = record { kept_data = x.kept; kept_sync = k.kept_sequences.kept_sync };
      kept_waiting = λ h. x.ready.kept_waiting;
      kept_listened = x.ready.kept_listened;
      kept_discovery = k.kept_discovery;
    };
    lent_waiting = x.ready.lent_waiting;
    lent_pages = pool.lent_none m.universes;
  }

  -- the short way
  pub takes_short : (dp : Rows) (out' : List ℕ) (a : Option ℕ) → d.preview ≡ false → d.terminated ≡ false → listens d.universe (state_of r m).listened ≡ true → listening.Kept r.listened m.heard
      → Shortens S now d r.sequences.«data».table r.waiting.count m.data_pairs m.data_sources out dp out' a
      → TakesShort S now d r m out (with_data_rows dp m.data_sources m) out' a
  takes_short dp out' a e f g k x = record {
    takes = λ b h w.
        takes_data (record r.sequences.«data» { table = reading_noted now r.sequences.«data».table }) dp m.data_sources r.waiting r.listened m.rows m.store m.heard out' (says.Released 1 b)
        (ap (λ (y : Bool). y && not S.process_preview_data) e) f g (x.arrives b h (lent_of r.waiting.count r.listened m.rows m.store m.heard) refl w k);
    left = λ h.
        let y = x.left h in
        (ap (λ (z : Rows). with_data_rows z m.data_sources m) y.0, y.1);
  }

  pub takes_short_nothing : TakesShort S now d r m out m out None
  takes_short_nothing = record {
    takes = λ b h. let z : ◌≡◌ {A = ℕ} 0 1 = cc in absurd (omega arith);
    left = λ h. (refl, refl);
  }
