-- One law for each return of a packet that is released or held.
-- Assumes nothing.
use Rattle.std.proofs.Math.Path.{◌≡◌, sym, ap}
use Rattle.std.specs.Prelude.{refl, ◌≢◌, length}
use Rattle.std.proofs.Common.{◌∙◌, subst, arith, zero-add, eq-eqb, ne_eqb}
use mathlib.Core.List.{List, [], ◌∷◌, append-nil}
use Prim.Native.Nat.{ℕ, ◌≤◌}
use Rattle.laws.specs.Parts.{pasted_front}
use Rattle.settings.specs.declared.Settings.{Settings}
use Rattle.merge.specs.Merge.{Dmx}
use Rattle.waiting.specs.declared.StoreAnswer.{StoreAnswer}
use Rattle.waiting.specs.declared.StoreCall.{StoreCall}
use Rattle.waiting.specs.Waiting.{cleared}
use Rattle.waiting.specs.Waiting as waiting
use Rattle.waiting.specs.Records.{encode, records, over}
use Rattle.waiting_store.specs.Entries.{waiting_of, lent_none}
use Rattle.waiting_store.specs.Entries as entries
use Rattle.waiting_store.specs.Written.{Laid}
use Rattle.waiting_calls.specs.Calls.{Yields, StoredCall, StoreCalled, taken_is, taken_call}
use Rattle.laws.specs.declared.After.{After}
use Rattle.listening.specs.declared.Listened.{Listened}
use Rattle.listening.specs.View.{listened_of, Listens}
use Rattle.listening.specs.View as listening
use Rattle.model.specs.declared.StepAnswer.{StepAnswer}
use Rattle.model.specs.declared.StepAnswer.TheVariants as says
use Rattle.model.specs.declared.ListenAnswer.{ListenAnswer}
use Rattle.model.specs.declared.ListenAnswer.TheVariants as listen
use Rattle.model.specs.Packet as model
use Rattle.model.specs.State.{State}
use Rattle.model.specs.Step.{outcome, with_waiting, with_listened, dmx, listen_all, heard, stored, kept, synchronised, unsynchronised, accepted, release}
use Rattle.packets.specs.declared.DataPacket.{DataPacket}
use Rattle.pair_rows.specs.View.{Rows}
use Rattle.packets.specs.View.{packet_of, data_of}
use Rattle.acceptance.specs.View.{Lent, lent_of, waits, hears, Releases, Ready, Holds, Accepts}
use Rattle.answers.specs.View.{store_said}
use Rattle.listening.specs.Laws.{refused_list}

-- one record
one_record : (d : Dmx) → records (d ∷ []) ≡ encode d
unfolding records
one_record d = append-nil (encode d)

pub releases : (now : ℕ) (p : DataPacket) (vs : List ℕ) (n n' : ℕ) (rows rows' : Rows) (store store' out out' : List ℕ) (r : ℕ)
    → Yields rows store rows' store' n' (cleared p.universe (waiting_of n rows store)).0 → Laid (data_of p now) vs out out' 0 r
    → Releases now (packet_of p vs) n rows store out n' rows' store' out' r
releases now p vs n n' rows rows' store store' out out' r y l = record {
  yields = y;
  written = l.laid ∙ pasted_front out (encode (dmx now (packet_of p vs))) ∙ ap (λ (b : List ℕ). over b out) (sym (one_record (dmx now (packet_of p vs))));
  byte_count = l.after ∙ zero-add (length (encode (dmx now (packet_of p vs)))) ∙ ap length (sym (one_record (dmx now (packet_of p vs))));
}

-- ── holding ──
module _ (S : Settings) (now : ℕ) (d : model.DataPacket) (m : Lent) (kw : entries.Kept m.count m.rows m.store) (r : After Listened ListenAnswer) (heard' : List ℕ)
    (l : Listens (d.address ∷ []) m.listened m.heard r heard') where
  after : List ℕ
  after = listened_of r.left heard'

  -- what listening makes of any state with this list
  told : (s : State) → s.listened ≡ hears m → synchronised S now d s ≡ heard r.answer (stored S now d (with_listened after s)) s
  unfolding synchronised after
  told s e =
      ap (λ (x : List ℕ × ListenAnswer). heard x.1 (stored S now d (with_listened x.0 s)) s) (ap (listen_all (d.address ∷ [])) e ∙ sym l.view)

  kept_list : r.answer ≢ listen.Listening → after ≡ hears m
  unfolding after
  kept_list n =
      ap (λ (x : List ℕ × ListenAnswer). x.0) l.view
      ∙ refused_list (d.address ∷ []) (hears m) (λ e. n (ap (λ (x : List ℕ × ListenAnswer). x.1) l.view ∙ e))

  unchanged : (s : State) → s.waiting ≡ waits m → s.listened ≡ hears m → after ≡ hears m → s ≡ with_waiting (waits m) (with_listened after s)
  unchanged s p q e = λ i. record { data_pairs = s.data_pairs; sync_pairs = s.sync_pairs; waiting = p i; listened = (q ∙ sym e) i; discovered = s.discovered }

  ready_refused : Ready m (lent_of m.count r.left m.rows m.store heard')
  ready_refused = record { kept_waiting = kw; lent_waiting = lent_none m.rows m.store; kept_listened = l.kept }

  pub holds_illegal : (u : ℕ) → r.answer ≡ listen.IllegalUniverse u
      → Holds S now d m (lent_of m.count r.left m.rows m.store heard') (says.IllegalUniverse u)
  unfolding heard
  holds_illegal u e = record {
    outcome_is = λ s p q.
        told s q ∙ ap (λ (x : ListenAnswer). heard x (stored S now d (with_listened after s)) s) e
        ∙ (unfold after in ap (λ (x : State). outcome x (says.IllegalUniverse u)) (unfold after in unchanged s p q (kept_list (λ z. let w : ◌≡◌ {A = ℕ} 0 1 = cc in omega arith))));
    ready = ready_refused;
  }

  pub holds_full : r.answer ≡ listen.ListenedFull
      → Holds S now d m (lent_of m.count r.left m.rows m.store heard') says.ListenedFull
  unfolding heard
  holds_full e = record {
    outcome_is = λ s p q.
        told s q ∙ ap (λ (x : ListenAnswer). heard x (stored S now d (with_listened after s)) s) e
        ∙ (unfold after in ap (λ (x : State). outcome x says.ListenedFull) (unfold after in unchanged s p q (kept_list (λ z. let w : ◌≡◌ {A = ℕ} 0 1 = cc in omega arith))));
    ready = ready_refused;
  }

  pub holds_stored : (n' : ℕ) (rows' : Rows) (store' : List ℕ) (a : StoreAnswer) → r.answer ≡ listen.Listening
      → StoredCall m.count m.rows m.store S.merge (dmx now d) rows' store' n' a
      → Holds S now d m (lent_of n' r.left rows' store' heard') (kept a)
  unfolding heard stored
  holds_stored n' rows' store' a e c = record {
    outcome_is = λ s p q.
        told s q ∙ ap (λ (x : ListenAnswer). heard x (stored S now d (with_listened after s)) s) e
        ∙ (unfold after in into s p);
    ready = record { kept_waiting = c.yields.kept; lent_waiting = c.yields.lent; kept_listened = l.kept };
  }
    where
      into : (s : State) → s.waiting ≡ waits m
          → stored S now d (with_listened (listened_of r.left heard') s)
          ≡ record { state = with_waiting (waiting_of n' rows' store') (with_listened (listened_of r.left heard') s); answer = kept a; released = [] }
      into s p =
          let x = ap (waiting.stored S.merge (dmx now d)) p in
          let u : (waiting.stored S.merge (dmx now d) s.waiting).0 ≡ waiting_of n' rows' store' = ap (λ (y : List Dmx × StoreAnswer). y.0) x ∙ sym c.yields.view in
          let v : (waiting.stored S.merge (dmx now d) s.waiting).1 ≡ a = ap (λ (y : List Dmx × StoreAnswer). y.1) x ∙ sym c.answers in
          λ i. record { state = with_waiting (u i) (with_listened (listened_of r.left heard') s); answer = kept (v i); released = [] }

  -- values within 513 are taken
  pub holds_called : (n' : ℕ) (rows' : Rows) (store' : List ℕ) (c : StoreCall) → r.answer ≡ listen.Listening → length d.values ≤ 513
      → StoreCalled m.count m.rows m.store S.merge (dmx now d) rows' store' n' c
      → Holds S now d m (lent_of n' r.left rows' store' heard') (store_said c)
  holds_called n' rows' store' c e f k =
      subst (λ (a : StepAnswer). Holds S now d m (lent_of n' r.left rows' store' heard') a)
      (ap store_said (sym (taken_is m.count m.rows m.store S.merge (dmx now d) rows' store' n' f c k)))
      (holds_stored n' rows' store' (waiting.stored S.merge (dmx now d) (waits m)).1 e (taken_call m.count m.rows m.store S.merge (dmx now d) rows' store' n' f c k))

-- ── an accepted packet ──
module _ (S : Settings) (now : ℕ) (d : model.DataPacket) (m : Lent) (out : List ℕ) where
  pub accepts_held : (m' : Lent) (a : StepAnswer) → (d.address ≡ 0 → ⊥) → Holds S now d m m' a → Accepts S now d m out m' out a
  unfolding accepted records
  accepts_held m' a z h = record {
    released = [];
    outcome_is = λ s p q. rw (ne_eqb d.address 0 z) (h.outcome_is s p q);
    written = refl;
    ready = h.ready;
  }

  released_now : (ds : List Dmx) (bytes : ℕ) → d.address ≡ 0 → (cleared d.universe (waits m)).0 ≡ ds → length (records (dmx now d ∷ [])) ≡ bytes
      → (s : State) → s.waiting ≡ waits m → s.listened ≡ hears m
      → accepted S now d s ≡ record { state = with_waiting ds (with_listened (hears m) s); answer = says.Released 1 bytes; released = dmx now d ∷ [] }
  unfolding accepted unsynchronised release
  released_now ds bytes z e b s p q =
      let w : (cleared d.universe s.waiting).0 ≡ ds = ap (λ (x : List Dmx). (cleared d.universe x).0) p ∙ e in
      rw (eq-eqb d.address 0 z)
      (λ i. record {
        state = record { data_pairs = s.data_pairs; sync_pairs = s.sync_pairs; waiting = w i; listened = q i; discovered = s.discovered };
        answer = says.Released 1 (b i);
        released = dmx now d ∷ [];
      })

  pub accepts_released : (n' : ℕ) (rows' : Rows) (store' out' : List ℕ) (bytes : ℕ) → d.address ≡ 0 → listening.Kept m.listened m.heard
      → Releases now d m.count m.rows m.store out n' rows' store' out' bytes
      → Accepts S now d m out (lent_of n' m.listened rows' store' m.heard) out' (says.Released 1 bytes)
  accepts_released n' rows' store' out' bytes z k r = record {
    released = dmx now d ∷ [];
    outcome_is = released_now (waiting_of n' rows' store') bytes z (sym r.yields.view) (sym r.byte_count);
    written = r.written;
    ready = record { kept_waiting = r.yields.kept; lent_waiting = r.yields.lent; kept_listened = k };
  }
