-- What the exported calls' proofs cite: one law for each kind of return.
-- Assumes nothing.
use Rattle.std.specs.Prelude.{Result, ◌≡◌, List, ℕ}
use Rattle.std.proofs.Common.{sym, subst}
use Rattle.rules.specs.Answer.{Value}
use Rattle.settings.specs.declared.Settings.{Settings}
use Rattle.settings_store.specs.declared.Layouts.{Layouts}
use Rattle.settings_store.specs.declared.StoreSettingsError.{StoreSettingsError}
use Rattle.settings_store.specs.declared.LoadSettingsError.{LoadSettingsError}
use Rattle.settings_store.specs.Record.{Stores, Loads}
use Rattle.model.specs.State.{State}
use Rattle.model.specs.Packet.{Packet}
use Rattle.receiver.specs.declared.Receiver.{Receiver}
use Rattle.laws.specs.declared.After.{After}
use Rattle.model.specs.declared.StepAnswer.{StepAnswer}
use Rattle.receiver.specs.View.{Memory, Kept, Does, Begins, Becomes}
use Rattle.handlers.specs.View.{Steps}
use Rattle.boundary.specs.declared.Header.{Header}
use Rattle.boundary.specs.declared.Answer.{Answer}
use Rattle.boundary.specs.declared.Reply.{Reply}
use Rattle.boundary.specs.declared.Choices.{Choices}
use Rattle.boundary.specs.declared.Adjusted.{Adjusted}
use Rattle.boundary.specs.Boundary.{receiver_of, header_of, settings_of, stored_of, loaded_of, reply_of}
use Rattle.tamburelvi.specs.Promises.{Replies, Answers, StoresSettings, LoadsSettings}
use Rattle.boundary.specs.Laws.{Tells}
use Rattle.boundary.proofs.Laws.{step_number_lem, step_values_lem, tells_store, load_number_lem, load_left, load_taken}

pub kept_there : (h : Header) (r : Receiver) (m : Memory) → r ≡ receiver_of h → Kept (receiver_of h) m → Kept r m
kept_there h r m e k = subst (λ (x : Receiver). Kept x m) (sym e) k

-- what the receiver's step ensures, told over the boundary
pub replies : (S : Settings) (now : ℕ) (p : Packet) (h : Header) (m : Memory) (out : List ℕ) (x : After Receiver StepAnswer) (m' : Memory) (out' : List ℕ)
    (T : Settings) (q : Packet) (r : Receiver) (y : Reply) → T ≡ S → q ≡ p → r ≡ receiver_of h → Steps T now q r m out x.left m' out' x.answer → y ≡ reply_of x
    → Replies S now p h m out y m' out'
replies S now p h m out x m' out' T q r y a b c z e =
    subst (λ (w : Reply). Replies S now p h m out w m' out') (sym e)
    (record {
      answer = x.answer;
      steps = subst (λ (w : Receiver). Steps S now p w m out x.left m' out' x.answer) c (subst (λ (w : Packet). Steps S now w r m out x.left m' out' x.answer) b (subst (λ (w : Settings). Steps w now q r m out x.left m' out' x.answer) a z));
      number_is = step_number_lem x.answer;
      values_are = λ own. step_values_lem own x.answer;
    })

-- what the receiver's call ensures, told over the boundary
pub answers : {A : Type 0} (call : State → State × A) (numbers : A → ℕ) (values : A → List Value) (turned : A → Answer) → ((a : A) → Tells numbers values a (turned a))
    → (h : Header) (m : Memory) (r : Receiver) (m' : Memory) (a : A) (f : Receiver) (x : Header) (t : Answer)
    → f ≡ receiver_of h → Does call numbers f m r m' a → x ≡ header_of r → t ≡ turned a → Answers call numbers values h m (record { header = x; answer = t }) m'
answers {A} call numbers values turned tells h m r m' a f x t e z p q =
    subst (λ (w : Header). Answers call numbers values h m (record { header = w; answer = t }) m') (sym p)
    (subst (λ (w : Answer). Answers call numbers values h m (record { header = header_of r; answer = w }) m') (sym q)
    (record {
      answer = a;
      does = subst (λ (w : Receiver). Does call numbers w m r m' a) e z;
      number_is = (tells a).number_is;
      values_are = (tells a).values_are;
    }))

pub begun : (r : Receiver) (m : Memory) (x : Header) → Begins r m → x ≡ header_of r → Begins (receiver_of x) m
begun r m x z e = subst (λ (w : Header). Begins (receiver_of w) m) (sym e) z

pub become : (call : State → State) (h : Header) (m : Memory) (f r : Receiver) (x : Header) → f ≡ receiver_of h → Becomes call f r m → x ≡ header_of r → Becomes call (receiver_of h) (receiver_of x) m
become call h m f r x e z p = subst (λ (w : Header). Becomes call (receiver_of h) (receiver_of w) m) (sym p) (subst (λ (w : Receiver). Becomes call w r m) e z)

-- ── settings records ──
pub stores_settings : (c : Choices) (before after : List ℕ) (S : Settings) (a : Result Unit StoreSettingsError) (r : Answer) → S ≡ settings_of c → Stores S before a after → r ≡ stored_of a → StoresSettings c before r after
stores_settings c before after S a r e z q =
    subst (λ (w : Answer). StoresSettings c before w after) (sym q)
    (record {
      answer = a;
      stores = subst (λ (w : Settings). Stores w before a after) e z;
      number_is = (tells_store a).number_is;
      values_are = (tells_store a).values_are;
    })

pub loads_settings : (layouts : Layouts) (c : Choices) (bytes : List ℕ) (a : Result Settings LoadSettingsError) (r : Adjusted) → Loads layouts bytes a → r ≡ loaded_of c a → LoadsSettings layouts c bytes r
loads_settings layouts c bytes a r z q =
    subst (λ (w : Adjusted). LoadsSettings layouts c bytes w) (sym q)
    (record {
      answer = a;
      loads = z;
      number_is = load_number_lem c a;
      taken = λ s e. load_taken c a s e (z.proper s e);
      left = load_left c a;
    })
