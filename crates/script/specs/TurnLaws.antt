-- Laws of a turn and of a return, of code that goes byte by byte: what it leaves unchanged, and how it ends.
-- Assumes nothing.
use Rattle.std.specs.Prelude.{◌≡◌, refl, Option, Some, None, Bool, true, false, cond, not, ◌||◌, List, [], ◌∷◌, ◌++◌, ℕ, zero, suc, ◌+◌, ◌-◌, ◌≤◌, ◌<◌, ltb, eqb, length, take, drop, get_or, set}
use Rattle.std.proofs.Common.{sym, ap, subst, ◌∙◌, append_assoc, append-nil, arith, add-one, length-set, length-append, length-drop, drop_of_length-le, take_all, take-suc-set, length-take-le, get_or-take, take-take, eq-eqb, ne_eqb, lt-ltb, le-ltb}
use Rattle.std.proofs.Math.Seq.{take-append-add}
use Rattle.std.proofs.lemmas.List.Sums.{prefix_len-le-length}
use Rattle.laws.specs.Ascii.{ascii}
use Rattle.laws.specs.Cases.{split as by_test, clash}
use Rattle.laws.specs.Parts.{take_more}
use Rattle.rules.specs.Cid.{cid_of}
use Rattle.settings_store.specs.declared.Layouts.TheVariants as layouts
use Rattle.script.specs.declared.lines.Line.{Line}
use Rattle.script.specs.Fields.{eql, ending, Ends, spelt, number_of, small_of, paired, hex_of, byte_string_of, to_source, Decoded}
use Rattle.script.specs.FieldLaws.{next, rest_of_lem, Turn}
use Rattle.script.specs.Lines.{Unread, Appended, Pieced, between, unreturned}
use Rattle.script.specs.Script.{first_of, rest_of, layouts_of, Reading, Reads, word_of, line_of, fields_of, lone_of, plain}
use Rattle.script.specs.declared.parse.Word.{Word}
use Rattle.script.specs.declared.parse.Command.{Command}

-- ── the same bytes ──
pub eql_length : (a b : List ℕ) → (length a ≡ length b → ⊥) → eql a b ≡ false
eql_length [] [] h = absurd (h refl)
eql_length [] (b ∷ t) h = refl
eql_length (a ∷ s) [] h = refl
eql_length (a ∷ s) (b ∷ t) h =
    let r = eql_length s t (λ e. h (ap suc e)) in
    by_test (eqb a b) (λ e. rw (e, r)) (λ e. rw e)

pub eql_refl : (a : List ℕ) → eql a a ≡ true
eql_refl [] = refl
eql_refl (a ∷ s) = rw (eq-eqb a a refl, eql_refl s)

module _ (a b : List ℕ) (i : ℕ) where
  pub eql_goes : i < length a → i < length b → get_or a i 0 ≡ get_or b i 0 → eql (drop (i + 1) a) (drop (i + 1) b) ≡ eql (drop i a) (drop i b)
  eql_goes h k e = rw (next a i 0 h, next b i 0 k, eq-eqb (get_or a i 0) (get_or b i 0) e)

  pub eql_stops : i < length a → i < length b → (get_or a i 0 ≡ get_or b i 0 → ⊥) → eql (drop i a) (drop i b) ≡ false
  eql_stops h k e = rw (next a i 0 h, next b i 0 k, ne_eqb (get_or a i 0) (get_or b i 0) e)

  pub eql_ends : length a ≤ i → length b ≤ i → eql (drop i a) (drop i b) ≡ true
  eql_ends h k = rw (drop_of_length-le a {i = i} h, drop_of_length-le b {i = i} k)

-- ── up to a mark ──
module _ (mark : ℕ) (s : List ℕ) (i : ℕ) where
  pub ending_stops : i < length s → get_or s i 0 ≡ mark → i + ending mark (drop i s) ≡ i
  ending_stops h e = rw (next s i 0 h, eq-eqb (get_or s i 0) mark e) (omega arith)

  pub ending_goes : i < length s → (get_or s i 0 ≡ mark → ⊥) → (i + 1) + ending mark (drop (i + 1) s) ≡ i + ending mark (drop i s)
  ending_goes h e = rw (next s i 0 h, ne_eqb (get_or s i 0) mark e) (omega arith)

  pub ending_ends : length s ≤ i → i + ending mark (drop i s) ≡ i
  ending_ends h = rw (drop_of_length-le s {i = i} h) (omega arith)

pub ends : (mark : ℕ) (s : List ℕ) (e : ℕ) → e ≡ ending mark s → Ends mark s e
ends mark s e h =
    let k : e ≤ length s = omega (arith, prefix_len-le-length (λ b. not (eqb b mark)) s) in
    record { ends_within = k; ends_counts = sym (length-take-le e s k); ends_at = h }

-- a field with a byte is spelt from 0
pub number_some : (most : ℕ) (s : List ℕ) → (length s ≡ 0 → ⊥) → number_of most s ≡ spelt most (Some 0) s
number_some most [] h = absurd (h refl)
number_some most (b ∷ s) h = refl

pub number_none : (most : ℕ) (s : List ℕ) → length s ≡ 0 → number_of most s ≡ None
number_none most [] h = refl
number_none most (b ∷ s) h = absurd (omega arith)

-- a digit that is left over, from a place on
pub paired_odd_at : (caps : Bool) (s : List ℕ) (i : ℕ) (l : List ℕ) → i < length s → length s ≤ i + 1 → paired caps (Some l) (drop i s) ≡ None
unfolding paired
paired_odd_at caps s i l h k = rw (next s i 0 h, drop_of_length-le s {i = i + 1} k)

pub turn_first : (s out : List ℕ) → Turn s s out 0
turn_first s out = record { counted = omega arith; gathered = refl }

-- ── byte strings and CIDs ──
pub bytes_none : (room : ℕ) (s : List ℕ) → length s ≡ 0 → byte_string_of room s ≡ None
bytes_none room [] h = refl
bytes_none room (b ∷ s) h = absurd (omega arith)

pub bytes_dash : (room : ℕ) (s : List ℕ) → eql s (45 ∷ []) ≡ true → byte_string_of room s ≡ Some []
unfolding eql
bytes_dash room [] h = clash h refl
bytes_dash room (b ∷ s) h = rw h

pub bytes_hex : (room : ℕ) (s : List ℕ) → (length s ≡ 0 → ⊥) → eql s (45 ∷ []) ≡ false → byte_string_of room s ≡ hex_of false room s
bytes_hex room [] h e = absurd (h refl)
bytes_hex room (b ∷ s) h e = rw e

none_of : {C : Type 0} {n : ℕ} → Some n ≡ None → C
none_of e = let z : ◌≡◌ {A = ℕ} 0 1 = cc in absurd (omega arith)

pub source_of : (o : Option (List ℕ)) (n : ℕ) (bytes : List ℕ) → Decoded o (Some n) bytes → n ≡ 16 → length bytes ≡ 16 → to_source o ≡ Some (cid_of bytes)
source_of None n bytes d h l = none_of d
source_of (Some s) n bytes d h l =
    let e : length s ≡ n = cc in
    let f : length s ≡ 16 = e ∙ h in
    let g : s ≡ bytes = sym d.1 ∙ take_all (length s) bytes (omega arith) in
    rw (eq-eqb (length s) 16 f) (ap (λ (x : List ℕ). Some (cid_of x)) g)

pub source_other : (o : Option (List ℕ)) (n : ℕ) (bytes : List ℕ) → Decoded o (Some n) bytes → (n ≡ 16 → ⊥) → to_source o ≡ None
source_other None n bytes d h = refl
source_other (Some s) n bytes d h =
    let e : length s ≡ n = cc in
    rw (ne_eqb (length s) 16 (λ f. h (sym e ∙ f)))

pub source_bad : (o : Option (List ℕ)) (bytes : List ℕ) → Decoded o None bytes → to_source o ≡ None
source_bad None bytes d = refl
source_bad (Some s) bytes d = none_of (sym d.0)

-- ── the field in hand ──
-- the field in hand, by its end as the code has it
pub ends_rest : (s : List ℕ) (at e : ℕ) → Ends 44 (take (length s - at) (drop at s)) e → Ends 44 (drop at s) e
ends_rest s at e h = subst (λ (l : List ℕ). Ends 44 l e) (rest_of_lem s at) h

pub read_at : {a : Option ℕ} (s : List ℕ) (at e : ℕ) → Ends 44 (take (length s - at) (drop at s)) e → small_of (take e (take (length s - at) (drop at s))) ≡ a
    → small_of (take (ending 44 (drop at s)) (drop at s)) ≡ a
read_at s at e h k =
    ap (λ (i : ℕ). small_of (take i (drop at s))) (sym (ends_rest s at e h).ends_at) ∙ ap (λ (l : List ℕ). small_of (take e l)) (sym (rest_of_lem s at)) ∙ k

-- its end is the end of the whole, or a mark stands there
pub last_at : (s : List ℕ) (at e : ℕ) → Ends 44 (take (length s - at) (drop at s)) e → length s - at ≤ e → length (drop at s) ≤ ending 44 (drop at s)
last_at s at e h k = let g = (ends_rest s at e h).ends_at in omega (arith, length-drop at s)

pub more_at : (s : List ℕ) (at e : ℕ) → Ends 44 (take (length s - at) (drop at s)) e → e < length s - at → ending 44 (drop at s) < length (drop at s)
more_at s at e h k = let g = (ends_rest s at e h).ends_at in omega (arith, length-drop at s)

-- ── lines ──
-- a loop that copies byte by byte: the first i bytes of the part stand behind the first n of the line
pub record Copied (line : List ℕ) (n : ℕ) (part line' : List ℕ) (k i : ℕ) : Type 0 where
  pub within : i ≤ length part
  pub counted : k ≡ n + i
  pub room : k ≤ length line'
  pub same_room : length line' ≡ length line
  pub copied : take k line' ≡ take n line ++ take i part

pub copied_none : (line : List ℕ) (n : ℕ) (part : List ℕ) → n ≤ length line → Copied line n part line n 0
copied_none line n part h = record { within = omega arith; counted = omega arith; room = h; same_room = refl; copied = sym (append-nil (take n line)) }

pub copied_more : (line : List ℕ) (n : ℕ) (part line' : List ℕ) (k i : ℕ) → Copied line n part line' k i → k < length line' → i < length part
    → Copied line n part (set line' k (get_or part i 0)) (k + 1) (i + 1)
copied_more line n part line' k i x h l =
    let a = x.counted in
    record {
      within = omega arith;
      counted = omega arith;
      room = simp length-set (omega arith);
      same_room = simp length-set x.same_room;
      copied =
          (rw (add-one k) (take-suc-set line' k (get_or part i 0) h)) ∙ ap (λ (t : List ℕ). t ++ get_or part i 0 ∷ []) x.copied
          ∙ append_assoc (take n line) (take i part) (get_or part i 0 ∷ []) ∙ ap (λ (t : List ℕ). take n line ++ t) (sym (take_more part i 0 l));
    }

-- all of it is copied
pub copied_all : (line : List ℕ) (n : ℕ) (part line' : List ℕ) (k i : ℕ) → n ≤ length line → Copied line n part line' k i → length part ≤ i → Appended line n part line' k
copied_all line n part line' k i h x l =
    let a = x.counted in
    let b = x.same_room in
    let d = x.room in
    let e = x.within in
    let f : take n line ++ take i part ≡ take n line ++ part = ap (λ (t : List ℕ). take n line ++ t) (take_all i part l) in
    let g : length (take n line ++ part) ≤ length line = omega (arith, length-append (take n line) part, length-take-le n line h) in
    record { grown = omega arith; room = x.room; behind = x.copied ∙ f ∙ sym (take_all (length line) (take n line ++ part) g) }

-- the room is used up
pub copied_full : (line : List ℕ) (n : ℕ) (part line' : List ℕ) (k i : ℕ) → n ≤ length line → Copied line n part line' k i → length line' ≤ k → Appended line n part line' k
copied_full line n part line' k i h x l =
    let a = x.counted in
    let b = x.same_room in
    let d = x.room in
    let e : length line ≡ length (take n line) + i = omega (arith, length-take-le n line h) in
    record { grown = omega arith; room = x.room; behind = x.copied ∙ sym (take-append-add (take n line) part i) ∙ ap (λ (m : ℕ). take m (take n line ++ part)) (sym e) }

-- the piece, by its end as the code has it
pub pieced : {line r : Line} {chunk text text' : List ℕ} (e : ℕ) → Ends 10 (between line.input.at line.input.end chunk) e
    → Unread r.input.at r.input.end chunk
    → Appended text line.length (take e (between line.input.at line.input.end chunk)) text' r.length
    → r.over ≡ ltb e (length (between line.input.at line.input.end chunk))
    → r.long ≡ (line.long || ltb (r.length - line.length) e)
    → Pieced line chunk text r text'
pieced {line} {r} {chunk} {text} {text'} e h u a o l =
    let s = between line.input.at line.input.end chunk in
    let k = h.ends_at in
    record {
      left = u;
      put_behind = subst (λ (j : ℕ). Appended text line.length (take j s) text' r.length) k a;
      whole = o ∙ ap (λ (j : ℕ). ltb j (length s)) k;
      cut = l ∙ ap (λ (j : ℕ). line.long || ltb (r.length - line.length) j) (h.ends_counts ∙ ap (λ (j : ℕ). length (take j s)) k);
    }

-- ── carriage return and line feed ──
front_last : (s : List ℕ) (n : ℕ) → (n ≡ 0 → ⊥) → n ≤ length s → get_or (take n s) (length (take n s) - 1) 0 ≡ get_or s (n - 1) 0
front_last s n h k = rw (length-take-le n s k) (get_or-take n s (n - 1) 0 (below n h))
  where
    below : (n : ℕ) → (n ≡ 0 → ⊥) → n - 1 < n
    below zero h = absurd (h refl)
    below (suc n) h = omega arith

pub unreturned_none : (s : List ℕ) (n : ℕ) → n ≡ 0 → take n s ≡ unreturned (take n s)
unfolding unreturned
unreturned_none s n e = rw e refl

pub unreturned_return : (s : List ℕ) (n : ℕ) → (n ≡ 0 → ⊥) → n ≤ length s → get_or s (n - 1) 0 ≡ 13 → take (n - 1) s ≡ unreturned (take n s)
unfolding unreturned
unreturned_return s n h k e =
    let t : eqb (get_or (take n s) (length (take n s) - 1) 0) 13 ≡ true = rw (front_last s n h k, e) refl in
    rw (t, length-take-le n s k) (sym (take-take (n - 1) n s (omega arith)))

pub unreturned_other : (s : List ℕ) (n : ℕ) → (n ≡ 0 → ⊥) → n ≤ length s → (get_or s (n - 1) 0 ≡ 13 → ⊥) → take n s ≡ unreturned (take n s)
unfolding unreturned
unreturned_other s n h k e =
    let t : eqb (get_or (take n s) (length (take n s) - 1) 0) 13 ≡ false = rw (front_last s n h k) (ne_eqb (get_or s (n - 1) 0) 13 e) in
    rw t refl

-- ── a line's fields ──
pub first_part : (s : List ℕ) (e : ℕ) → Ends 32 s e → take e s ≡ first_of s
first_part s e h = ap (λ (i : ℕ). take i s) h.ends_at

pub rest_part : (s : List ℕ) (e : ℕ) → Ends 32 s e → take (length s - (e + 1)) (drop (e + 1) s) ≡ rest_of s
rest_part s e h = rest_of_lem s (e + 1) ∙ ap (λ (i : ℕ). drop i s) (add-one e ∙ ap suc h.ends_at)

pub rest_none : (s : List ℕ) (e : ℕ) → Ends 32 s e → length s ≤ e → take (length s - e) (drop e s) ≡ rest_of s
rest_none s e h l =
    let k = h.ends_at in
    rest_of_lem s e ∙ drop_of_length-le s {i = e} l ∙ sym (drop_of_length-le s {i = suc (ending 32 s)} (omega arith))

-- ── the layouts that a reader is to know ──
-- a second field: whether it is 1
pub layouts_second : (s : List ℕ) (e : ℕ) {t : List ℕ} {b x : Bool} → Ends 32 s e → e < length s → t ≡ rest_of s → b ≡ eql t (ascii "1") → b ≡ x → cond x (Some layouts.First) None ≡ layouts_of s
layouts_second s e {t} h l q p g =
    let k = h.ends_at in
    rw (lt-ltb (ending 32 s) (length s) (omega arith), ← q, ← p, g)

pub layouts_both : (s : List ℕ) (e : ℕ) → Ends 32 s e → length s ≤ e → Some layouts.Both ≡ layouts_of s
layouts_both s e h l = let k = h.ends_at in rw (le-ltb (ending 32 s) (length s) (omega arith))

-- a reading of equal lines
pub reads_as : {x y : Option Reading} (r : Option Command) (bs us : List ℕ) → x ≡ y → Reads y r bs us → Reads x r bs us
reads_as {x} {y} r bs us e k = subst (λ (z : Option Reading). Reads z r bs us) (sym e) k

-- ── a line, as an equation ──
pub line_fields : (room places : ℕ) (s : List ℕ) (e : ℕ) {w : Word} {t : List ℕ} → Ends 32 s e → e < length s → Some w ≡ word_of (first_of s) → t ≡ rest_of s → line_of room places s ≡ fields_of room places w t
unfolding line_of
line_fields room places s e {w} {t} h l p q =
    let k = h.ends_at in
    rw (lt-ltb (ending 32 s) (length s) (omega arith), sym p, q)

pub line_lone_is : (room places : ℕ) (s : List ℕ) (e : ℕ) → Ends 32 s e → length s ≤ e → line_of room places s ≡ plain (lone_of s)
unfolding line_of
line_lone_is room places s e h l =
    let k = h.ends_at in
    rw (le-ltb (ending 32 s) (length s) (omega arith))
