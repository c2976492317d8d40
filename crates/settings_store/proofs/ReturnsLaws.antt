-- A record byte by byte, as code writes and reads it: one law for each return of the writer and of the reader.
-- Assumes nothing.
use Rattle.std.specs.Prelude.{Result, Ok, Err, ◌≡◌, refl, Bool, true, false, cond, ◌&&◌, List, [], ◌∷◌, ◌++◌, ℕ, suc, ◌/◌, ◌%◌, ◌≤◌, ◌<◌, length, drop, get_or}
use Rattle.std.proofs.Common.{sym, ap, ◌∙◌, arith, div-one, mod-eq_of_lt, length-drop, get_or-drop, eq-eqb, ne_eqb, lt-ltb, le-ltb}
use Rattle.std.proofs.Math.Option.{Option, none, some}
use Rattle.laws.specs.Cases.{split}
use Rattle.rules.specs.Bytes.{Bytes, number, big_endian, bit}
use Rattle.fields.specs.Fields.{Field, size, encode, Decoded, values, out_of_range, with_value, decode, joined}
use Rattle.fields.proofs.FieldsLaws.{decode_front, decode_none, decode_append}
use Rattle.settings.specs.declared.Settings.{Settings}
use Rattle.settings.specs.Settings.{in_range}
use Rattle.settings_store.specs.declared.Layouts.{Layouts}
use Rattle.settings_store.specs.declared.Layouts.TheVariants.{First, Both}
use Rattle.settings_store.specs.declared.StoreSettingsError.{StoreSettingsError}
use Rattle.settings_store.specs.declared.StoreSettingsError.TheVariants.{TooShort, LimitZero, ExpiryOutOfRange}
use Rattle.settings_store.specs.declared.LoadSettingsError.{LoadSettingsError}
use Rattle.settings_store.specs.declared.LoadSettingsError.TheVariants.{NoSettingsRecord, UnreadableSettingsRecord}
use Rattle.settings_store.specs.Record.{flag, limit, expiry, layout_1, layout_2, merge_number, limit_number, settings_from, record_of, record_length, zero_limit, store_answer, fields_of, marked, shown, of_layout, loaded, Stores, Loads}
use Rattle.settings_store.specs.Laws.{Narrow}
use Rattle.settings_store.proofs.Laws.{bit_small, merge_small, record_restores, stopped_left, eleven_long, taken_proper, taken_rewrites}
use Rattle.settings_store.specs.Returns.{flags}

-- ── a record byte by byte ──
one_byte : (v : ℕ) → v < 256 → big_endian 1 v ≡ v ∷ []
unfolding big_endian
one_byte v h = rw (div-one v, mod-eq_of_lt h)

two_bytes : (v : ℕ) → big_endian 2 v ≡ v / 256 % 256 ∷ v % 256 ∷ []
unfolding big_endian
two_bytes v = rw (div-one v)

four_bytes : (v : ℕ) → big_endian 4 v ≡ v / 16777216 % 256 ∷ v / 65536 % 256 ∷ v / 256 % 256 ∷ v % 256 ∷ []
unfolding big_endian
four_bytes v = rw (div-one v)

pub record_is : (s : Settings)
    → record_of s
    ≡ 0x53 ∷ 0x54 ∷ 2
    ∷ bit s.process_preview_data ∷ bit s.announce_source_discovery ∷ bit s.announce_stream_termination ∷ bit s.announce_timeout ∷ merge_number s.merge
    ∷ limit_number s.source_limit / 256 % 256 ∷ limit_number s.source_limit % 256
    ∷ s.discovery_expiry / 16777216 % 256 ∷ s.discovery_expiry / 65536 % 256 ∷ s.discovery_expiry / 256 % 256 ∷ s.discovery_expiry % 256 ∷ []
unfolding encode
record_is s =
    rw (
      one_byte (bit s.process_preview_data) (bit_small s.process_preview_data).1,
      one_byte (bit s.announce_source_discovery) (bit_small s.announce_source_discovery).1,
      one_byte (bit s.announce_stream_termination) (bit_small s.announce_stream_termination).1,
      one_byte (bit s.announce_timeout) (bit_small s.announce_timeout).1,
      one_byte (merge_number s.merge) (merge_small s.merge).1,
      two_bytes (limit_number s.source_limit),
      four_bytes s.discovery_expiry,
    )

-- each return of the writer
module _ (s : Settings) (before : List ℕ) where
  stops : (r : Result Unit StoreSettingsError) → store_answer s (length before) ≡ r → (r ≡ Ok tt → ⊥) → Stores s before r before
  stops r e n = record {
    answer_is = sym e;
    bytes_are = sym (stopped_left s before (λ q. n (sym e ∙ q)));
    restores = λ q. absurd (n q);
  }

  pub stores_short : length before < record_length → Stores s before (Err (TooShort record_length)) before
  stores_short h = stops (Err (TooShort record_length)) (rw (lt-ltb (length before) record_length h)) (λ q. let x : ◌≡◌ {A = ℕ} 0 1 = cc in omega arith)

  pub stores_zero : record_length ≤ length before → zero_limit s.source_limit ≡ true → Stores s before (Err LimitZero) before
  stores_zero h z = stops (Err LimitZero) (rw (le-ltb (length before) record_length h, z)) (λ q. let x : ◌≡◌ {A = ℕ} 0 1 = cc in omega arith)

  pub stores_out : record_length ≤ length before → zero_limit s.source_limit ≡ false → in_range s.discovery_expiry ≡ false → Stores s before (Err ExpiryOutOfRange) before
  stores_out h z r = stops (Err ExpiryOutOfRange) (rw (le-ltb (length before) record_length h, z, r)) (λ q. let x : ◌≡◌ {A = ℕ} 0 1 = cc in omega arith)

  pub stores_record : (written after : List ℕ) → record_length ≤ length before → zero_limit s.source_limit ≡ false → in_range s.discovery_expiry ≡ true
      → (written ≡ record_of s) × Narrow s → after ≡ written ++ drop record_length before → Stores s before (Ok tt) after
  stores_record written after h z r w a =
      let e : store_answer s (length before) ≡ Ok tt = rw (le-ltb (length before) record_length h, z, r) in
      record {
        answer_is = sym e;
        bytes_are = rw e (cc);
        restores = λ q. rw (a, w.0) (record_restores s w.1 z r (drop record_length before));
      }

number_1 : (a : ℕ) → number (a ∷ []) ≡ a
unfolding number
number_1 a = omega arith

-- one test more
one_more : (p q : Bool) (v : ℕ) (vs : List ℕ) → cond p (with_value v (cond q (values vs) out_of_range)) out_of_range ≡ cond (p && q) (values (v ∷ vs)) out_of_range
one_more true true v vs = refl
one_more true false v vs = refl
one_more false q v vs = refl

module _ (a b c d m x y : ℕ) (rest : List ℕ) where
  decode_1 : decode layout_1 (a ∷ b ∷ c ∷ d ∷ m ∷ x ∷ y ∷ rest) ≡ cond (flags a b c d m) (values (a ∷ b ∷ c ∷ d ∷ m ∷ number (x ∷ y ∷ []) ∷ [])) out_of_range
  decode_1 =
      rw (
        decode_front flag (flag ∷ flag ∷ flag ∷ flag ∷ limit ∷ []) (a ∷ []) (b ∷ c ∷ d ∷ m ∷ x ∷ y ∷ rest) refl,
        decode_front flag (flag ∷ flag ∷ flag ∷ limit ∷ []) (b ∷ []) (c ∷ d ∷ m ∷ x ∷ y ∷ rest) refl,
        decode_front flag (flag ∷ flag ∷ limit ∷ []) (c ∷ []) (d ∷ m ∷ x ∷ y ∷ rest) refl,
        decode_front flag (flag ∷ limit ∷ []) (d ∷ []) (m ∷ x ∷ y ∷ rest) refl,
        decode_front flag (limit ∷ []) (m ∷ []) (x ∷ y ∷ rest) refl,
        decode_front limit [] (x ∷ y ∷ []) rest refl,
        decode_none rest,
        number_1 a,
        number_1 b,
        number_1 c,
        number_1 d,
        number_1 m,
      )
      (simp one_more)

seven_long : size layout_1 ≡ 7
unfolding size
seven_long = refl

-- enough bytes for layout 1
pub decode_first : (bs : List ℕ) → 7 ≤ length bs
    → decode layout_1 bs
    ≡ cond (flags (get_or bs 0 0) (get_or bs 1 0) (get_or bs 2 0) (get_or bs 3 0) (get_or bs 4 0))
    (values (get_or bs 0 0 ∷ get_or bs 1 0 ∷ get_or bs 2 0 ∷ get_or bs 3 0 ∷ get_or bs 4 0 ∷ number (get_or bs 5 0 ∷ get_or bs 6 0 ∷ []) ∷ [])) out_of_range
decode_first [] h = absurd (omega arith)
decode_first (_ ∷ []) h = absurd (omega arith)
decode_first (_ ∷ _ ∷ []) h = absurd (omega arith)
decode_first (_ ∷ _ ∷ _ ∷ []) h = absurd (omega arith)
decode_first (_ ∷ _ ∷ _ ∷ _ ∷ []) h = absurd (omega arith)
decode_first (_ ∷ _ ∷ _ ∷ _ ∷ _ ∷ []) h = absurd (omega arith)
decode_first (_ ∷ _ ∷ _ ∷ _ ∷ _ ∷ _ ∷ []) h = absurd (omega arith)
decode_first (a ∷ b ∷ c ∷ d ∷ m ∷ x ∷ y ∷ rest) h = decode_1 a b c d m x y rest

-- and four for the expiry
decode_expiry : (bs : List ℕ) → 4 ≤ length bs
    → let n = number (get_or bs 0 0 ∷ get_or bs 1 0 ∷ get_or bs 2 0 ∷ get_or bs 3 0 ∷ []) in decode (expiry ∷ []) bs ≡ cond (in_range n) (values (n ∷ [])) out_of_range
decode_expiry [] h = absurd (omega arith)
decode_expiry (_ ∷ []) h = absurd (omega arith)
decode_expiry (_ ∷ _ ∷ []) h = absurd (omega arith)
decode_expiry (_ ∷ _ ∷ _ ∷ []) h = absurd (omega arith)
decode_expiry (a ∷ b ∷ c ∷ d ∷ rest) h = rw (decode_front expiry [] (a ∷ b ∷ c ∷ d ∷ []) rest refl, decode_none rest)

-- layout 2 is layout 1 and the expiry behind it
pub decode_second : (bs : List ℕ) → 11 ≤ length bs
    → let n = number (get_or bs 7 0 ∷ get_or bs 8 0 ∷ get_or bs 9 0 ∷ get_or bs 10 0 ∷ []) in decode layout_2 bs ≡ joined (decode layout_1 bs) (cond (in_range n) (values (n ∷ [])) out_of_range)
decode_second bs h =
    let e = decode_expiry (drop 7 bs) (omega (arith, length-drop 7 bs)) in
    decode_append layout_1 (expiry ∷ []) bs
    ∙ ap (λ (d : Decoded). joined (decode layout_1 bs) d) ((rw seven_long) ∙ (rw (get_or-drop 7 bs 0 0, get_or-drop 7 bs 1 0, get_or-drop 7 bs 2 0, get_or-drop 7 bs 3 0) at e))

-- which layout a byte says
pub says_1 : (layouts : Layouts) (n : ℕ) → n ≡ 1 → some layout_1 ≡ fields_of layouts n
says_1 First n e = rw (eq-eqb n 1 e)
says_1 Both n e = rw (eq-eqb n 1 e)

pub says_2 : (layouts : Layouts) (n : ℕ) → (n ≡ 1 → ⊥) → n ≡ 2 → layouts ≡ Both → some layout_2 ≡ fields_of layouts n
says_2 layouts n f e q = rw (q, ne_eqb n 1 f, eq-eqb n 2 e)

pub says_2_unknown : (layouts : Layouts) (n : ℕ) → (n ≡ 1 → ⊥) → layouts ≡ First → none ≡ fields_of layouts n
says_2_unknown layouts n f q = rw (q, ne_eqb n 1 f)

pub says_other : (layouts : Layouts) (n : ℕ) → (n ≡ 1 → ⊥) → (n ≡ 2 → ⊥) → none ≡ fields_of layouts n
says_other First n f g = rw (ne_eqb n 1 f)
says_other Both n f g = rw (ne_eqb n 1 f, ne_eqb n 2 g)

-- each return of the reader's parts
module _ (bs : List ℕ) (h : 7 ≤ length bs) where
  abbrev flags_in : Bool
  flags_in = flags (get_or bs 0 0) (get_or bs 1 0) (get_or bs 2 0) (get_or bs 3 0) (get_or bs 4 0)

  pub with_taken : (e l : ℕ) (s : Settings) → flags_in ≡ true → l ≡ number (get_or bs 5 0 ∷ get_or bs 6 0 ∷ [])
      → s ≡ settings_from (get_or bs 0 0 ∷ get_or bs 1 0 ∷ get_or bs 2 0 ∷ get_or bs 3 0 ∷ get_or bs 4 0 ∷ l ∷ e ∷ [])
      → Ok s ≡ shown (joined (decode layout_1 bs) (values (e ∷ [])))
  with_taken e l s f n q = rw (decode_first bs h, f, q, n)

  pub with_refused : (e : ℕ) → flags_in ≡ false → Err UnreadableSettingsRecord ≡ shown (joined (decode layout_1 bs) (values (e ∷ [])))
  with_refused e f = rw (decode_first bs h, f)

  pub first_read : of_layout (some layout_1) bs ≡ shown (joined (decode layout_1 bs) (values (20000 ∷ [])))
  first_read = rw (seven_long, le-ltb (length bs) 7 h, decode_first bs h) (split flags_in (λ f. rw f) (λ f. rw f))

pub first_short : (bs : List ℕ) → length bs < 7 → of_layout (some layout_1) bs ≡ Err NoSettingsRecord
first_short bs h = rw (seven_long, lt-ltb (length bs) 7 h)

pub second_short : (bs : List ℕ) → length bs < 11 → of_layout (some layout_2) bs ≡ Err NoSettingsRecord
second_short bs h = rw (eleven_long, lt-ltb (length bs) 11 h)

module _ (bs : List ℕ) (h : 11 ≤ length bs) (n : ℕ) (e : n ≡ number (get_or bs 7 0 ∷ get_or bs 8 0 ∷ get_or bs 9 0 ∷ get_or bs 10 0 ∷ [])) where
  pub second_read : in_range n ≡ true → of_layout (some layout_2) bs ≡ shown (joined (decode layout_1 bs) (values (n ∷ [])))
  second_read r = rw (eleven_long, le-ltb (length bs) 11 h, decode_second bs h, sym e, r)

  pub second_out : in_range n ≡ false → of_layout (some layout_2) bs ≡ Err UnreadableSettingsRecord
  second_out r = rw (eleven_long, le-ltb (length bs) 11 h, decode_second bs h, sym e, r, decode_first bs (omega arith)) (split (flags_in bs (omega arith)) (λ f. rw f) (λ f. rw f))

-- a list of bytes, if each is one
pub all_bytes : (l : List ℕ) → ((i : ℕ) → get_or l i 0 < 256) → Bytes l
all_bytes [] h = tt
all_bytes (b ∷ l) h = (h 0, all_bytes l (λ i. h (suc i)))

-- and of the reader
module _ (layouts : Layouts) (bytes : List ℕ) where
  stopped : Err NoSettingsRecord ≡ loaded layouts bytes → Loads layouts bytes (Err NoSettingsRecord)
  stopped e = record {
    answer_is = e;
    proper = λ s q. let x : ◌≡◌ {A = ℕ} 0 1 = cc in absurd (omega arith);
    again = λ s q. let x : ◌≡◌ {A = ℕ} 0 1 = cc in absurd (omega arith);
  }

  pub loads_short : length bytes < 3 → Loads layouts bytes (Err NoSettingsRecord)
  loads_short h = stopped (rw (lt-ltb (length bytes) 3 h))

  pub loads_unmarked : 3 ≤ length bytes → marked bytes ≡ false → Loads layouts bytes (Err NoSettingsRecord)
  loads_unmarked h m = stopped (rw (le-ltb (length bytes) 3 h, m))

  pub loads_fields : (r : Result Settings LoadSettingsError) (fs : Option (List Field)) → Bytes (drop 3 bytes) → 3 ≤ length bytes → marked bytes ≡ true → fs ≡ fields_of layouts (get_or bytes 2 0)
      → r ≡ of_layout fs (drop 3 bytes) → Loads layouts bytes r
  loads_fields r fs p h m f e =
      let q : r ≡ loaded layouts bytes = e ∙ ap (λ (x : Option (List Field)). of_layout x (drop 3 bytes)) f ∙ (rw (le-ltb (length bytes) 3 h, m)) in
      record {
        answer_is = q;
        proper = λ s t. taken_proper layouts bytes s p (sym q ∙ t);
        again = λ s t. taken_rewrites layouts bytes s p (sym q ∙ t);
      }
