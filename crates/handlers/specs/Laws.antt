-- One law for each return of a step.
-- Assumes nothing.
use Rattle.std.specs.Prelude.{◌≡◌, refl, Bool, true, false, List, [], ℕ, None}
use Rattle.std.specs.Prelude as rust
use Rattle.std.proofs.Common.{sym, ap, subst, ◌∙◌, arith}
use Rattle.std.proofs.Math.Option.{Option}
use Rattle.laws.specs.Cases.{missing}
use Rattle.rules.specs.Answer.{first_of}
use Rattle.settings.specs.declared.Settings.{Settings}
use Rattle.waiting.proofs.Laws.{over_none}
use Rattle.waiting_store.specs.Entries.{lent_then}
use Rattle.discovery_pages.specs.Lent as pool
use Rattle.model.specs.declared.StepAnswer.{StepAnswer}
use Rattle.model.specs.declared.StepAnswer.TheVariants as says
use Rattle.model.specs.Packet.{DataPacket, Packet, data_packet, too_long}
use Rattle.model.specs.Step.{too_short}
use Rattle.receiver.specs.declared.Receiver.{Receiver}
use Rattle.receiver.specs.View.{Memory, space_in, reading_noted, Kept}
use Rattle.opening.specs.View.{Opens, Ready}
use Rattle.steps.specs.View.{Takes, TakesShort}
use Rattle.opening.specs.Laws.{ready_held}
use Rattle.opening.proofs.Laws.{opens_idle}
use Rattle.handlers.specs.View.{Steps, StepsShort}

module _ (S : Settings) (now : ℕ) (p : Packet) (r : Receiver) (m : Memory) (out : List ℕ) (k : Kept r m) (long : Option ℕ) (l : too_long p ≡ long)
    (r₁ : Receiver) (m₁ : Memory) (stopped : Bool) (a₁ : StepAnswer) (o : Opens S now long r m out r₁ m₁ stopped a₁) where
  pub steps_stopped : stopped ≡ true → Steps S now p r m out r₁ m₁ out a₁
  steps_stopped e = record {
    released = [];
    outcome_is = o.ends e p l;
    written = sym (over_none out);
    kept = o.kept k;
    all_left = λ n f. o.all_left n (sym (ap (first_of (too_short (space_in m out))) l) ∙ f);
    lent_waiting = o.lent_waiting;
    lent_pages = o.lent_pages;
  }

  pub steps_taken : (r₂ : Receiver) (m₂ : Memory) (out₂ : List ℕ) (a₂ : StepAnswer) → stopped ≡ false → Takes S now p r₁ m₁ out r₂ m₂ out₂ a₂ → Steps S now p r m out r₂ m₂ out₂ a₂
  steps_taken r₂ m₂ out₂ a₂ e t = record {
    released = t.released;
    outcome_is = o.goes_on e p l ∙ t.outcome_is;
    written = t.written;
    kept = t.kept (o.kept k);
    all_left = λ n f.
        let z = o.fits e in
        missing n f (ap (λ (x : Option ℕ). first_of x (too_long p)) z.0 ∙ l ∙ z.1);
    lent_waiting = lent_then o.lent_waiting t.lent_waiting;
    lent_pages = pool.lent_then o.lent_pages t.lent_pages;
  }

-- ── the short way of a data packet ──
module _ (S : Settings) (now : ℕ) (d : DataPacket) (r : Receiver) (m : Memory) (out : List ℕ) where
  pub steps_short : (long : Option ℕ) (m' : Memory) (out' : List ℕ) (a : rust.Option ℕ) → too_long (data_packet d) ≡ long → Ready S now long r (space_in m out) → TakesShort S now d r m out m' out' a
      → StepsShort S now d r m out m' out' a
  steps_short long m' out' a l y t = record {
    steps = λ b e k.
        let o = opens_idle S now long r m out y.idles y.room y.fits k.kept_sequences k.kept_waiting in
        steps_taken S now (data_packet d) r m out k long l r m false says.Nothing o (reading_noted now r) m' out' (says.Released 1 b) refl
        (t.takes b e (ready_held S now long r m out r m false says.Nothing k o refl));
    left = t.left;
  }

  pub steps_short_nothing : StepsShort S now d r m out m out None
  steps_short_nothing = record {
    steps = λ b e. let z : ◌≡◌ {A = ℕ} 0 1 = cc in absurd (omega arith);
    left = λ e. (refl, refl);
  }

  -- another packet: the step in full, from the same memory
  pub steps_full : (m' : Memory) (out' : List ℕ) (a : rust.Option ℕ) (r₂ : Receiver) (m₂ : Memory) (out₂ : List ℕ) (w : StepAnswer) → StepsShort S now d r m out m' out' a → a ≡ None
      → Steps S now (data_packet d) r m' out' r₂ m₂ out₂ w → Steps S now (data_packet d) r m out r₂ m₂ out₂ w
  steps_full m' out' a r₂ m₂ out₂ w s e t =
      let y = s.left e in
      subst (λ (x : Memory). Steps S now (data_packet d) r x out r₂ m₂ out₂ w) y.0 (subst (λ (x : List ℕ). Steps S now (data_packet d) r m' x r₂ m₂ out₂ w) y.1 t)
