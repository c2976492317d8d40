-- Document 02, F-6: what is written reads back alike; what is read, written again, is what it was. By the facts on fields in general, for both layouts.
-- Assumes nothing.
use Rattle.std.specs.Prelude.{Result, Ok, Err, ◌≡◌, refl, Bool, true, false, List, [], ◌∷◌, ◌++◌, ℕ, zero, suc, ◌≤◌, ◌<◌, eqb, ltb, leb, length, take, drop, get_or}
use Rattle.std.proofs.Common.{sym, ap, ◌∙◌, arith, length-append, take-append-drop, take_at, eqb-true, ne_eqb, ltb-false, le-ltb, leb-true}
use Rattle.std.proofs.Math.Option.{none, some}
use Rattle.std.proofs.lemmas.Bool.{eqb-false}
use Rattle.laws.specs.Cases.{split, clash, found}
use Rattle.rules.specs.Bytes.{Bytes, bit}
use Rattle.fields.specs.Fields.{Field, size, Fit, encode, Decoded, values, short, out_of_range, decode}
use Rattle.fields.proofs.FieldsLaws.{length_encode, decode_encode, decode_beginning, decode_behind, decode_fits, encode_decode, encode_append, fit_append, fit_length}
use Rattle.settings.specs.declared.Settings.{Settings}
use Rattle.settings.specs.declared.MergeChoice.{MergeChoice}
use Rattle.settings.specs.declared.MergeChoice.TheVariants.{DiscardLowestPriorityThenPrevious, HtpDmxMerge}
use Rattle.settings.specs.declared.SourceLimit.{SourceLimit}
use Rattle.settings.specs.declared.SourceLimit.TheVariants.{Unlimited, AtMost}
use Rattle.settings.specs.Settings.{settings, in_range, Proper, ProperLimit}
use Rattle.settings.proofs.SettingsLaws.{range_proper, proper_range}
use Rattle.settings_store.specs.declared.Layouts.{Layouts}
use Rattle.settings_store.specs.declared.Layouts.TheVariants.{First, Both}
use Rattle.settings_store.specs.declared.StoreSettingsError.{StoreSettingsError}
use Rattle.settings_store.specs.declared.StoreSettingsError.TheVariants.{TooShort, LimitZero, ExpiryOutOfRange}
use Rattle.settings_store.specs.declared.LoadSettingsError.TheVariants.{NoSettingsRecord, UnreadableSettingsRecord}
use Rattle.settings_store.specs.Record.{expiry, layout_1, layout_2, merge_number, merge_of, limit_number, limit_of, values_of, settings_from, record_of, record_length, zero_limit, store_answer, left_by, store_bytes, fields_of, marked, shown, loaded, Restores, as_layout_2, Rewrites}
use Rattle.settings_store.specs.Laws.{Narrow}

-- ── settings and values ──
on_bit : (b : Bool) → eqb (bit b) 1 ≡ b
on_bit true = refl
on_bit false = refl

pub bit_small : (b : Bool) → (leb (bit b) 1 ≡ true) × (bit b < 256)
bit_small true = (refl, omega arith)
bit_small false = (refl, omega arith)

pub merge_back : (m : MergeChoice) → merge_of (merge_number m) ≡ m
merge_back DiscardLowestPriorityThenPrevious = refl
merge_back HtpDmxMerge = refl

pub merge_small : (m : MergeChoice) → (leb (merge_number m) 1 ≡ true) × (merge_number m < 256)
merge_small DiscardLowestPriorityThenPrevious = (refl, omega arith)
merge_small HtpDmxMerge = (refl, omega arith)

pub limit_back : (l : SourceLimit) → zero_limit l ≡ false → limit_of (limit_number l) ≡ l
limit_back Unlimited h = refl
limit_back (AtMost n) h = rw h

-- a limit that the setters leave is not 0
pub proper_limit : (l : SourceLimit) → ProperLimit l → zero_limit l ≡ false
proper_limit Unlimited h = refl
proper_limit (AtMost n) h = ne_eqb n 0 (λ e. absurd (omega (arith, h.0)))

-- a limit that is not 0: the values say all of the settings
pub settings_back : (s : Settings) → zero_limit s.source_limit ≡ false → settings_from (values_of s) ≡ s
settings_back s h = λ i.
    settings (on_bit s.process_preview_data i) (on_bit s.announce_source_discovery i) (on_bit s.announce_stream_termination i) (on_bit s.announce_timeout i)
    (merge_back s.merge i) (limit_back s.source_limit h i) s.discovery_expiry

pub values_fit : (s : Settings) → Narrow s → in_range s.discovery_expiry ≡ true → Fit layout_2 (values_of s)
values_fit s n r =
    let p = range_proper s.discovery_expiry r in
    let a = bit_small s.process_preview_data in
    let b = bit_small s.announce_source_discovery in
    let c = bit_small s.announce_stream_termination in
    let d = bit_small s.announce_timeout in
    let m = merge_small s.merge in
    (a.0, a.1, (b.0, b.1, (c.0, c.1, (d.0, d.1, (m.0, m.1, (refl, omega arith, (r, omega arith, tt)))))))

flag_back : (v : ℕ) → leb v 1 ≡ true → bit (eqb v 1) ≡ v
flag_back zero h = refl
flag_back (suc zero) h = refl
flag_back (suc (suc n)) h = absurd (omega (arith, leb-true (suc (suc n)) 1 h))

choice_back : (v : ℕ) → leb v 1 ≡ true → merge_number (merge_of v) ≡ v
choice_back zero h = refl
choice_back (suc zero) h = refl
choice_back (suc (suc n)) h = absurd (omega (arith, leb-true (suc (suc n)) 1 h))

number_back : (v : ℕ) → limit_number (limit_of v) ≡ v
number_back v = split (eqb v 0) (λ e. rw e (sym (eqb-true v 0 e))) (λ e. rw e)

-- the seven values of layout 2, one by one
seven {ℓ} : {C : Type ℓ} (vs : List ℕ) → Fit layout_2 vs
    → ((p d t o m l e : ℕ) → vs ≡ p ∷ d ∷ t ∷ o ∷ m ∷ l ∷ e ∷ [] → leb p 1 ≡ true → leb d 1 ≡ true → leb t 1 ≡ true → leb o 1 ≡ true → leb m 1 ≡ true → l < 65536 → in_range e ≡ true → C)
    → C
seven [] h k = absurd h
seven (p ∷ []) h k = absurd h.2
seven (p ∷ d ∷ []) h k = absurd h.2.2
seven (p ∷ d ∷ t ∷ []) h k = absurd h.2.2.2
seven (p ∷ d ∷ t ∷ o ∷ []) h k = absurd h.2.2.2.2
seven (p ∷ d ∷ t ∷ o ∷ m ∷ []) h k = absurd h.2.2.2.2.2
seven (p ∷ d ∷ t ∷ o ∷ m ∷ l ∷ []) h k = absurd h.2.2.2.2.2.2
seven (p ∷ d ∷ t ∷ o ∷ m ∷ l ∷ e ∷ []) h k = k p d t o m l e refl h.0 h.2.0 h.2.2.0 h.2.2.2.0 h.2.2.2.2.0 h.2.2.2.2.2.1 h.2.2.2.2.2.2.0
seven (p ∷ d ∷ t ∷ o ∷ m ∷ l ∷ e ∷ x ∷ vs) h k = absurd h.2.2.2.2.2.2.2

-- values that fit say the settings, and the settings say them again
pub values_back : (vs : List ℕ) → Fit layout_2 vs → values_of (settings_from vs) ≡ vs
values_back vs h =
    seven vs h
    (λ p d t o m l e q p' d' t' o' m' l' e'.
    rw q (λ i. flag_back p p' i ∷ flag_back d d' i ∷ flag_back t t' i ∷ flag_back o o' i ∷ choice_back m m' i ∷ number_back l i ∷ e ∷ []))

limit_proper : (l : ℕ) → l < 65536 → ProperLimit (limit_of l)
limit_proper l h = split (eqb l 0) (λ e. rw e tt) (λ e. rw e (let n = eqb-false l 0 e in (omega arith, omega arith)))

pub values_proper : (vs : List ℕ) → Fit layout_2 vs → Proper (settings_from vs)
values_proper vs h = seven vs h (λ p d t o m l e q p' d' t' o' m' l' e'. rw q (limit_proper l l', range_proper e e'))

-- "layout 1 is read with 20,000": as if the expiry stood behind its six values
pub read_with_20000 : (vs : List ℕ) → Fit layout_1 vs → settings_from vs ≡ settings_from (vs ++ 20000 ∷ [])
read_with_20000 [] h = absurd h
read_with_20000 (p ∷ []) h = absurd h.2
read_with_20000 (p ∷ d ∷ []) h = absurd h.2.2
read_with_20000 (p ∷ d ∷ t ∷ []) h = absurd h.2.2.2
read_with_20000 (p ∷ d ∷ t ∷ o ∷ []) h = absurd h.2.2.2.2
read_with_20000 (p ∷ d ∷ t ∷ o ∷ m ∷ []) h = absurd h.2.2.2.2.2
read_with_20000 (p ∷ d ∷ t ∷ o ∷ m ∷ l ∷ []) h = refl
read_with_20000 (p ∷ d ∷ t ∷ o ∷ m ∷ l ∷ x ∷ vs) h = absurd h.2.2.2.2.2.2

pub eleven_long : size layout_2 ≡ 11
unfolding size
eleven_long = refl

-- ── there and back ──
-- what either reader makes of a record, whatever follows it
module _ (s : Settings) (n : Narrow s) (z : zero_limit s.source_limit ≡ false) (r : in_range s.discovery_expiry ≡ true) where
  pub record_fourteen : length (record_of s) ≡ record_length
  record_fourteen = omega (arith, length_encode layout_2 (values_of s) (values_fit s n r), eleven_long)

  pub record_restores : (behind : List ℕ) → Restores s (record_of s ++ behind)
  record_restores behind =
      let e = take_at (record_of s) behind record_length record_fourteen in
      record {
        alike = λ rest. ap (λ (l : List ℕ). loaded Both (l ++ rest)) e ∙ whole_alike rest;
        refused = λ rest. ap (λ (l : List ℕ). loaded First (l ++ rest)) e ∙ whole_refused rest;
      }
    where
      whole_alike : (rest : List ℕ) → loaded Both (record_of s ++ rest) ≡ Ok s
      whole_alike rest =
          let fit = values_fit s n r in
          let fields = encode layout_2 (values_of s) ++ rest in
          let three : 3 ≤ length (record_of s ++ rest) = omega arith in
          let enough : size layout_2 ≤ length fields = omega (arith, length-append (encode layout_2 (values_of s)) rest, length_encode layout_2 (values_of s) fit) in
          rw (le-ltb (length (record_of s ++ rest)) 3 three, le-ltb (length fields) (size layout_2) enough, decode_encode layout_2 (values_of s) rest fit, settings_back s z)

      whole_refused : (rest : List ℕ) → loaded First (record_of s ++ rest) ≡ Err UnreadableSettingsRecord
      whole_refused rest = let three : 3 ≤ length (record_of s ++ rest) = omega arith in rw (le-ltb (length (record_of s ++ rest)) 3 three)

-- the writer's tests, all passed
module _ (s : Settings) (n : ℕ) (h : store_answer s n ≡ Ok tt) where
  pub stored_room : record_length ≤ n
  stored_room = split (ltb n record_length) (λ e. let y : Err (TooShort record_length) ≡ Ok tt = rw e at h in let x : ◌≡◌ {A = ℕ} 0 1 = cc in absurd (omega arith)) (λ e. ltb-false n record_length e)

  pub stored_limit : zero_limit s.source_limit ≡ false
  stored_limit =
      let e = le-ltb n record_length stored_room in
      split (zero_limit s.source_limit)
      (λ z. let y : Err LimitZero ≡ Ok tt = rw (e, z) at h in let x : ◌≡◌ {A = ℕ} 0 1 = cc in absurd (omega arith))
      (λ z. z)

  pub stored_range : in_range s.discovery_expiry ≡ true
  stored_range =
      let e = le-ltb n record_length stored_room in
      split (in_range s.discovery_expiry)
      (λ r. r)
      (λ r. let y : Err ExpiryOutOfRange ≡ Ok tt = rw (e, stored_limit, r) at h in let x : ◌≡◌ {A = ℕ} 0 1 = cc in absurd (omega arith))

-- "Whatever settings were stored come out again alike": for all settings at which the writer does not stop, whatever bytes are lent
pub stored_restores : (s : Settings) (before : List ℕ) → Narrow s → store_answer s (length before) ≡ Ok tt → Restores s (store_bytes s before)
stored_restores s before n h = rw h (record_restores s n (stored_limit s (length before) h) (stored_range s (length before) h) (drop record_length before))

-- the bytes as they were left among them
pub restored_left : (s : Settings) (bytes : List ℕ) → Restores s bytes → (loaded Both bytes ≡ Ok s) × (loaded First bytes ≡ Err UnreadableSettingsRecord)
restored_left s bytes h = (rw (take-append-drop record_length bytes) at (h.alike (drop record_length bytes)), rw (take-append-drop record_length bytes) at (h.refused (drop record_length bytes)))

-- each of the three stops writes nothing
stops_left : (r : Result Unit StoreSettingsError) (s : Settings) (before : List ℕ) → (r ≡ Ok tt → ⊥) → left_by r s before ≡ before
stops_left (Ok u) s before h = absurd (h refl)
stops_left (Err (TooShort n)) s before h = refl
stops_left (Err LimitZero) s before h = refl
stops_left (Err ExpiryOutOfRange) s before h = refl

pub stopped_left : (s : Settings) (before : List ℕ) → (store_answer s (length before) ≡ Ok tt → ⊥) → store_bytes s before ≡ before
stopped_left s before h = stops_left (store_answer s (length before)) s before h

-- ── both layouts by the facts on fields ──
-- layout 1 is the beginning of layout 2: what layout 2 is decoded to begins with what layout 1 is
pub layout_1_in_2 : (bs vs : List ℕ) → decode layout_2 bs ≡ values vs → decode layout_1 bs ≡ values (take (length layout_1) vs)
layout_1_in_2 bs vs h = decode_beginning layout_1 (expiry ∷ []) bs vs h

-- "Bytes after the last field are not read": whatever stands behind as many bytes as the layout needs, taken or refused
pub behind_unread : (layouts : Layouts) (bytes rest : List ℕ) (fs : List Field) → 3 ≤ length bytes → fields_of layouts (get_or bytes 2 0) ≡ some fs → size fs ≤ length (drop 3 bytes)
    → loaded layouts (bytes ++ rest) ≡ loaded layouts bytes
behind_unread layouts [] rest fs t f h = absurd (omega arith)
behind_unread layouts (a ∷ []) rest fs t f h = absurd (omega arith)
behind_unread layouts (a ∷ b ∷ []) rest fs t f h = absurd (omega arith)
behind_unread layouts (a ∷ b ∷ c ∷ l) rest fs t f h =
    let long : size fs ≤ length (l ++ rest) = omega (arith, length-append l rest) in
    let t' : 3 ≤ length ((a ∷ b ∷ c ∷ l) ++ rest) = omega arith in
    rw (le-ltb (length ((a ∷ b ∷ c ∷ l) ++ rest)) 3 t', le-ltb (length (a ∷ b ∷ c ∷ l)) 3 t, f, le-ltb (length (l ++ rest)) (size fs) long, le-ltb (length l) (size fs) h, decode_behind fs l rest h)

-- ── read, and written again ──
-- settings that were shown are those of the values that were decoded
shown_values {ℓ} : {C : Type ℓ} (d : Decoded) (s : Settings) → shown d ≡ Ok s → ((vs : List ℕ) → d ≡ values vs → s ≡ settings_from vs → C) → C
shown_values (values vs) s h k = k vs refl (cc)
shown_values short s h k = let x : ◌≡◌ {A = ℕ} 0 1 = cc in absurd (omega arith)
shown_values out_of_range s h k = let x : ◌≡◌ {A = ℕ} 0 1 = cc in absurd (omega arith)

-- what a reader that took a record found
module _ {ℓ} {C : Type ℓ} (layouts : Layouts) (bytes : List ℕ) (s : Settings) (h : loaded layouts bytes ≡ Ok s) where
  taken : ((fs : List Field) (vs : List ℕ) → 3 ≤ length bytes → marked bytes ≡ true → fields_of layouts (get_or bytes 2 0) ≡ some fs → decode fs (drop 3 bytes) ≡ values vs → s ≡ settings_from vs → C) → C
  taken k =
      let rest = drop 3 bytes in
      split (ltb (length bytes) 3)
      (λ e. let y : Err NoSettingsRecord ≡ Ok s = rw e at h in let x : ◌≡◌ {A = ℕ} 0 1 = cc in absurd (omega arith))
      (λ e. split (marked bytes)
      (λ m. found (fields_of layouts (get_or bytes 2 0))
      (λ f. let y : Err UnreadableSettingsRecord ≡ Ok s = rw (e, m, f) at h in let x : ◌≡◌ {A = ℕ} 0 1 = cc in absurd (omega arith))
      (λ fs f. split (ltb (length rest) (size fs))
      (λ l. let y : Err NoSettingsRecord ≡ Ok s = rw (e, m, f, l) at h in let x : ◌≡◌ {A = ℕ} 0 1 = cc in absurd (omega arith))
      (λ l. shown_values (decode fs rest) s (rw (e, m, f, l) at h) (λ vs d q. k fs vs (ltb-false (length bytes) 3 e) m f d q))))
      (λ m. let y : Err NoSettingsRecord ≡ Ok s = rw (e, m) at h in let x : ◌≡◌ {A = ℕ} 0 1 = cc in absurd (omega arith)))

-- a known layout is one of two
known {ℓ} : {C : Type ℓ} (layouts : Layouts) (n : ℕ) (fs : List Field) → fields_of layouts n ≡ some fs → (n ≡ 1 → fs ≡ layout_1 → C) → (n ≡ 2 → fs ≡ layout_2 → C) → C
known First n fs h one two =
    split (eqb n 1)
    (λ e. let q : some layout_1 ≡ some fs = rw e at h in one (eqb-true n 1 e) (cc))
    (λ e. let q : none ≡ some fs = rw e at h in let x : ◌≡◌ {A = ℕ} 0 1 = cc in absurd (omega arith))
known Both n fs h one two =
    split (eqb n 1)
    (λ e. let q : some layout_1 ≡ some fs = rw e at h in one (eqb-true n 1 e) (cc))
    (λ e. split (eqb n 2)
    (λ f. let q : some layout_2 ≡ some fs = rw (e, f) at h in two (eqb-true n 2 f) (cc))
    (λ f. let q : none ≡ some fs = rw (e, f) at h in let x : ◌≡◌ {A = ℕ} 0 1 = cc in absurd (omega arith)))

-- what stands before the fields
three_bytes : (bytes : List ℕ) → 3 ≤ length bytes → marked bytes ≡ true → get_or bytes 2 0 ≡ 2 → take record_length bytes ≡ 0x53 ∷ 0x54 ∷ 2 ∷ take 11 (drop 3 bytes)
three_bytes [] h m e = absurd (omega arith)
three_bytes (a ∷ []) h m e = absurd (omega arith)
three_bytes (a ∷ b ∷ []) h m e = absurd (omega arith)
three_bytes (a ∷ b ∷ c ∷ rest) h m e =
    split (eqb a 0x53)
    (λ x. let y : eqb b 0x54 ≡ true = rw x at m in λ i. eqb-true a 0x53 x i ∷ eqb-true b 0x54 y i ∷ e i ∷ take 11 rest)
    (λ x. let y : false ≡ true = rw x at m in clash y refl)

-- a record that was taken, of either layout: values of layout 2 whose bytes those are
module _ {ℓ} {C : Type ℓ} (layouts : Layouts) (bytes : List ℕ) (s : Settings) (p : Bytes (drop 3 bytes)) (h : loaded layouts bytes ≡ Ok s) where
  taken_as_2 : ((ws : List ℕ) → Fit layout_2 ws → s ≡ settings_from ws → encode layout_2 ws ≡ as_layout_2 (get_or bytes 2 0) (drop 3 bytes) → C) → C
  taken_as_2 k =
      let rest = drop 3 bytes in
      taken layouts bytes s h
      (λ fs vs three m f d q.
      known layouts (get_or bytes 2 0) fs f
      (λ n e.
      let d' : decode layout_1 rest ≡ values vs = rw e at d in
      let fit = decode_fits layout_1 rest vs p d' in
      k (vs ++ 20000 ∷ []) (fit_append layout_1 (expiry ∷ []) vs (20000 ∷ []) fit (refl, omega arith, tt)) (q ∙ read_with_20000 vs fit)
      (rw n (encode_append layout_1 (expiry ∷ []) vs (20000 ∷ []) (fit_length layout_1 vs fit) ∙ (rw (encode_decode layout_1 rest vs p d')))))
      (λ n e.
      let d' : decode layout_2 rest ≡ values vs = rw e at d in
      k vs (decode_fits layout_2 rest vs p d') q (rw n (encode_decode layout_2 rest vs p d'))))

module _ (layouts : Layouts) (bytes : List ℕ) (s : Settings) (p : Bytes (drop 3 bytes)) (h : loaded layouts bytes ≡ Ok s) where
  -- settings that were read are such as the setters leave
  pub taken_proper : Proper s
  taken_proper = taken_as_2 layouts bytes s p h (λ ws fit q e. rw q (values_proper ws fit))

  pub taken_rewrites : Rewrites bytes s
  taken_rewrites = record { stored = taken_stored; same = taken_again }
    where
      taken_again : record_of s ≡ 0x53 ∷ 0x54 ∷ 2 ∷ as_layout_2 (get_or bytes 2 0) (drop 3 bytes)
      taken_again = taken_as_2 layouts bytes s p h (λ ws fit q e. rw (q, values_back ws fit, e))

      taken_stored : (n : ℕ) → record_length ≤ n → store_answer s n ≡ Ok tt
      taken_stored n h = rw (le-ltb n record_length h, proper_limit s.source_limit taken_proper.0, proper_range s.discovery_expiry taken_proper.1)

-- a record of layout 2 is written again byte for byte
pub taken_same : (bytes : List ℕ) (s : Settings) → Bytes (drop 3 bytes) → loaded Both bytes ≡ Ok s → get_or bytes 2 0 ≡ 2 → record_of s ≡ take record_length bytes
taken_same bytes s p h two =
    taken Both bytes s h
    (λ fs vs three m f d q.
    (taken_rewrites Both bytes s p h).same ∙ (rw (two, eleven_long)) ∙ sym (three_bytes bytes three m two))
