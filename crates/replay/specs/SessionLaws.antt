-- One law for each kind of command.
-- Assumes nothing.
use Rattle.std.specs.Prelude.{◌≡◌, List, [], ℕ, ◌+◌, ◌-◌, ◌≤◌, take, replicate}
use Rattle.std.proofs.Common.{sym, ap, subst, ◌∙◌, arith, take_at}
use Rattle.std.proofs.lemmas.List.{length-replicate, replicate-append-replicate}
use Rattle.rules.specs.Answer.{Value}
use Rattle.settings.specs.declared.Settings.{Settings}
use Rattle.settings.specs.Settings as setting
use Rattle.waiting.specs.Records.{records, over}
use Rattle.model.specs.declared.StepAnswer.{StepAnswer}
use Rattle.model.specs.Packet.{Packet}
use Rattle.model.specs.State.{State}
use Rattle.model.specs.Step.{step}
use Rattle.model.specs.Step as rules
use Rattle.receiver.specs.declared.Receiver.{Receiver}
use Rattle.receiver.specs.View.{Memory, with_listened_rows, state_of, space_in, Sized, Kept, Begins, Does, Becomes}
use Rattle.handlers.specs.View.{Steps}
use Rattle.replay.specs.declared.calls.Session.{Session}
use Rattle.printing.specs.Text.{Tells}
use Rattle.printing.specs.TextLaws.{tells_as}
use Rattle.printing.specs.Answers.{answer_line, step_line}
use Rattle.replay.specs.Session.{Outcome, outcome, begun, called, changed, stepped, Fit, Carries}

-- the lengths of the lent arrays, out of what calls keep
pub sized : {r : Receiver} {m : Memory} → Fit r m → Sized m
sized f =
    let k = f.kept in
    let w = k.kept_waiting f.store_room in
    let d = k.kept_discovery f.pool_room in
    record {
      data_pairs_room = k.kept_sequences.kept_data.pairs_room;
      data_sources_room = k.kept_sequences.kept_data.sources_room;
      sync_pairs_room = k.kept_sequences.kept_sync.pairs_room;
      sync_sources_room = k.kept_sequences.kept_sync.sources_room;
      rows_room = w.room.rows_length;
      sources_room = d.source_rows;
      names_room = d.name_rows;
      pages_room = d.packing.rows;
    }

module _ {s s' : Session} {m : Memory} {out out' : List ℕ} where
  -- the receiver is as it was
  pub carries_same : {S : Settings} {text : List ℕ} → s'.receiver ≡ s.receiver → s'.settings ≡ S → Tells text out s.at out' s'.at
      → Carries s m out (outcome S (state_of s.receiver m) text) s' m out'
  carries_same r e t = record {
    settings_are = e;
    state_is = ap (λ (x : Receiver). state_of x m) r;
    told = t;
    kept_on = λ f. subst (λ (x : Receiver). Kept x m) (sym r) f.kept;
  }

  -- it has become another, without its memory
  pub carries_change : {call : State → State} → Becomes call s.receiver s'.receiver m → s'.settings ≡ s.settings → Tells (answer_line 0 []) out s.at out' s'.at
      → Carries s m out (changed call s.settings (state_of s.receiver m)) s' m out'
  carries_change b e t = record { settings_are = e; state_is = b.state_is; told = t; kept_on = λ f. b.kept f.kept }

module _ {s s' : Session} {m m' : Memory} {out out' : List ℕ} where
  -- a fresh receiver, in a memory as long as the old one
  pub carries_fresh : Begins s'.receiver m' → (Sized m → Sized m') → s'.settings ≡ setting.fresh → Tells (answer_line 0 []) out s.at out' s'.at
      → Carries s m out begun s' m' out'
  carries_fresh b z e t = record { settings_are = e; state_is = b.state_is; told = t; kept_on = λ f. b.kept (z (sized f)) }

  pub carries_call : {A : Type 0} {call : State → State × A} {number : A → ℕ} {answer : A} (values : A → List Value)
      → Does call number s.receiver m s'.receiver m' answer → s'.settings ≡ s.settings → Tells (answer_line (number answer) (values answer)) out s.at out' s'.at
      → Carries s m out (called call number values s.settings (state_of s.receiver m)) s' m' out'
  carries_call {A} {call} {number} {answer} values d e t = record {
    settings_are = e;
    state_is = sym (ap (λ (x : State × A). x.0) d.outcome_is);
    told = tells_as (ap (λ (x : State × A). answer_line (number x.1) (values x.1)) (sym d.outcome_is)) t;
    kept_on = λ f. d.kept f.kept;
  }

  -- the packet and its name as the code has them, and as the line says
  pub carries_step : {now : ℕ} {p q : Packet} {output output' own name : List ℕ} {answer : StepAnswer}
      → Steps s.settings now p s.receiver m output s'.receiver m' output' answer → p ≡ q → own ≡ name → s'.settings ≡ s.settings
      → Tells (step_line own output' answer) out s.at out' s'.at
      → Carries s m out (stepped (space_in m output) output name now q s.settings (state_of s.receiver m)) s' m' out'
  carries_step {now} {p} {q} {output} {output'} {own} {name} {answer} d f g e t =
      let h = ap (λ (x : Packet). step (space_in m output) s.settings now x (state_of s.receiver m)) (sym f) ∙ d.outcome_is in
      record {
        settings_are = e;
        state_is = sym (ap (λ (x : rules.Outcome). x.state) h);
        told =
            tells_as
            (ap (λ (n : List ℕ). step_line n output' answer) g ∙ ap (λ (l : List ℕ). step_line name l answer) d.written
            ∙ ap (λ (x : rules.Outcome). step_line name (over (records x.released) output) x.answer) (sym h))
            t;
        kept_on = λ k. d.kept;
      }

-- the listened universes have no part in the lengths
pub sized_heard : {m : Memory} (heard : List ℕ) → Sized m → Sized (with_listened_rows heard m)
sized_heard heard z = record {
  data_pairs_room = z.data_pairs_room;
  data_sources_room = z.data_sources_room;
  sync_pairs_room = z.sync_pairs_room;
  sync_sources_room = z.sync_sources_room;
  rows_room = z.rows_room;
  sources_room = z.sources_room;
  names_room = z.names_room;
  pages_room = z.pages_room;
}

pub carries_as : {s s' : Session} {m m' : Memory} {out out' : List ℕ} {o p : Outcome} → o ≡ p → Carries s m out o s' m' out' → Carries s m out p s' m' out'
carries_as e x = record {
  settings_are = x.settings_are ∙ ap (λ (o : Outcome). o.settings) e;
  state_is = x.state_is ∙ ap (λ (o : Outcome). o.state) e;
  told = tells_as (ap (λ (o : Outcome). o.text) e) x.told;
  kept_on = x.kept_on;
}

-- the front of bytes that are all alike
pub front_alike : (k x n : ℕ) {l : List ℕ} → l ≡ replicate k x → n ≤ k → take n l ≡ replicate n x
front_alike k x n e h =
    let s : n + (k - n) ≡ k = omega arith in
    ap (take n) (e ∙ sym (replicate-append-replicate n (k - n) x ∙ ap (λ (i : ℕ). replicate i x) s)) ∙ take_at (replicate n x) (replicate (k - n) x) n (length-replicate n x)
