-- Laws of a line's fields: a field as the code has it, and as the line says.
-- Assumes nothing.
use Rattle.std.specs.Prelude.{◌≡◌, refl, Option, Some, None, List, ℕ, ◌≤◌, ◌<◌, length, take}
use Rattle.std.proofs.Common.{sym, ap, ◌∙◌, arith, lt-ltb, le-ltb}
use Rattle.script.specs.Fields.{ending, Decoded}
use Rattle.packets.specs.declared.DataPacket.{DataPacket}
use Rattle.packets.specs.declared.DiscoveryPacket.{DiscoveryPacket}
use Rattle.script.specs.declared.parse.Word.{Word}
use Rattle.script.specs.declared.parse.Command.{Command}
use Rattle.script.specs.declared.parse.Command.TheVariants as says
use Rattle.script.specs.Script.{first_of, rest_of, lone_of, word_of, fields_of, line_of, plain, Reads}

-- what a field gives: v is the field, as a part of t, which is u
pub field : {A : Type 0} {r x : A} {v t u : List ℕ} (f : List ℕ → A) → v ≡ first_of t → t ≡ u → r ≡ f v → r ≡ x → f (first_of u) ≡ x
field f p q e g = ap f (ap first_of (sym q) ∙ sym p) ∙ sym e ∙ g

-- the first field, and a whole part
pub front : {A : Type 0} {r x : A} {v : List ℕ} (s : List ℕ) (f : List ℕ → A) → v ≡ first_of s → r ≡ f v → r ≡ x → f (first_of s) ≡ x
front s f p e g = ap f (sym p) ∙ sym e ∙ g

pub whole : {A : Type 0} {r x : A} {t u : List ℕ} (f : List ℕ → A) → t ≡ u → r ≡ f t → r ≡ x → f u ≡ x
whole f q e g = ap f (sym q) ∙ sym e ∙ g

-- ── what was decoded ──
pub record Found (o : Option (List ℕ)) (n : ℕ) (out : List ℕ) : Type 0 where
  pub found : List ℕ
  pub is_found : o ≡ Some found
  pub counts : n ≡ length found
  pub lies : take (length found) out ≡ found

pub decoded_found : (o : Option (List ℕ)) (n : ℕ) (out : List ℕ) → Decoded o (Some n) out → Found o n out
decoded_found None n out d = let z : ◌≡◌ {A = ℕ} 0 1 = cc in absurd (omega arith)
decoded_found (Some l) n out d = let e : n ≡ length l = cc in record { found = l; is_found = refl; counts = e; lies = d.1 }

pub decoded_none : (o : Option (List ℕ)) (out : List ℕ) → Decoded o None out → o ≡ None
decoded_none None out d = refl
decoded_none (Some l) out d = let z : ◌≡◌ {A = ℕ} 0 1 = cc in absurd (omega arith)

-- ── what a line says ──
-- a command of equal parts
pub data_same : {now : ℕ} {p q : DataPacket} {m n : ℕ} → p ≡ q → m ≡ n → says.Data (record { «now» = now; packet = p; count = m }) ≡ says.Data (record { «now» = now; packet = q; count = n })
data_same {now} e f i = says.Data (record { «now» = now; packet = e i; count = f i })

pub page_same : {now : ℕ} {p : DiscoveryPacket} {k l m n : ℕ} → k ≡ l → m ≡ n
    → says.Discovery (record { «now» = now; packet = p; name = k; count = m }) ≡ says.Discovery (record { «now» = now; packet = p; name = l; count = n })
page_same {now} {p} e f i = says.Discovery (record { «now» = now; packet = p; name = e i; count = f i })

-- a command that counts nothing
pub reads_plain : {r o : Option Command} (bs us : List ℕ) → r ≡ o → Reads (plain o) r bs us
reads_plain {r} {o = None} bs us e = e
reads_plain {r} {o = Some c} bs us e = (e, record { bytes_are = refl; numbers_are = refl })

-- ── a line ──
module _ (room places : ℕ) (s : List ℕ) (e : ℕ) (r : Option Command) (bs us : List ℕ) (h : e ≡ ending 32 s) where
  pub line_lone : length s ≤ e → r ≡ lone_of s → Reads (line_of room places s) r bs us
  unfolding line_of
  line_lone l k = rw (le-ltb (ending 32 s) (length s) (omega arith)) (reads_plain bs us k)

  pub line_unknown : e < length s → word_of (first_of s) ≡ None → r ≡ None → Reads (line_of room places s) r bs us
  unfolding line_of
  line_unknown l w k = rw (lt-ltb (ending 32 s) (length s) (omega arith), w) k

  pub line_known : (w : Word) → e < length s → word_of (first_of s) ≡ Some w → Reads (fields_of room places w (rest_of s)) r bs us → Reads (line_of room places s) r bs us
  unfolding line_of
  line_known w l k x = rw (lt-ltb (ending 32 s) (length s) (omega arith), k) x
