-- How a release's records are laid over the output: the parts of a record, and the loop over the entries.
-- Assumes nothing.
use Rattle.std.specs.Prelude.{◌≡◌, Bool, true, false, not, cond, eqb, take, drop, get_or}
use Rattle.std.proofs.Math.Path.{refl, sym, ap}
use Rattle.std.proofs.Common.{◌∙◌, arith, div-one, mod-eq_of_lt, length-take, length-append}
use mathlib.Core.List.{List, [], ◌∷◌, ◌++◌}
use Prim.Native.Nat.{ℕ, zero, suc, ◌+◌, ◌/◌, ◌%◌, ◌^◌, ◌≤◌, ◌<◌}
use Rattle.std.proofs.Math.ListN.{length}
use Rattle.laws.specs.Cases.{split}
use Rattle.laws.specs.Table.{keep, length_keep}
use Rattle.laws.specs.Arrays.{next, spent}
use Rattle.laws.specs.Parts.{pasted, pasted_none, pasted_append, pasted_front, length_pasted}
use Rattle.rules.specs.Age.{expired}
use Rattle.rules.specs.Bytes.{big_endian, bit}
use Rattle.rules.proofs.BytesLaws.{length_big_endian}
use Rattle.std.specs.Int.{bytes_high_first}
use Rattle.merge.specs.declared.DmxData.{DmxData}
use Rattle.merge.specs.Merge.{Dmx}
use Rattle.merge.specs.Views.{dmx}
use Rattle.waiting.specs.Waiting.{fresh, of_address, released, capacity}
use Rattle.waiting.specs.Records.{owner, encode, records, over, most_bytes}
use Rattle.waiting.proofs.Laws.{length_encode, records_within, within_keep}
use Rattle.waiting_store.specs.Entries.{entries, Room, within_entries}

-- whether a release writes it
abbrev pub due : ℕ → ℕ → DmxData → Bool
due now a d = cond (eqb d.sync_uni a) (not (expired now d.recv_timestamp)) false

-- what a release has written: its records over the output, their number and their bytes
pub record Writing (ds : List Dmx) (out out' : List ℕ) (count bytes : ℕ) : Type 0 where
  pub written : out' ≡ over (records ds) out
  pub record_count : count ≡ length ds
  pub byte_count : bytes ≡ length (records ds)

-- ── laws ──
-- a part laid where the ones before it end
then_laid : (out o o' : List ℕ) (at k : ℕ) (xs ys : List ℕ) → at ≤ length out → k ≡ at + length xs → o ≡ pasted out at xs → o' ≡ pasted o k ys → o' ≡ pasted out at (xs ++ ys)
then_laid out o o' at k xs ys h e a b = rw (b, e, a) (pasted_append out at xs h ys)

-- the library's bytes of a number
pub spelled : (n w : ℕ) → bytes_high_first n w ≡ big_endian n w
unfolding big_endian
spelled zero w = refl
spelled (suc zero) w = simp div-one
spelled (suc (suc n)) w = ap (λ (x : List ℕ). w / 256 ^ suc n % 256 ∷ x) (spelled (suc n) w)

pub two : (w : ℕ) → big_endian 2 w ≡ w / 256 % 256 ∷ w % 256 ∷ []
unfolding big_endian
two w = simp div-one

pub one : (w : ℕ) → big_endian 1 w ≡ w % 256 ∷ []
unfolding big_endian
one w = simp div-one

-- a record laid by its parts
pub record Laid (d : DmxData) (values out out' : List ℕ) (at r : ℕ) : Type 0 where
  pub after : r ≡ at + length (encode (dmx d values))
  pub laid : out' ≡ pasted out at (encode (dmx d values))

pub record_laid : (d : DmxData) (present : ℕ) (cid values out o₁ o₂ o₃ o₄ o₅ o₆ o₇ o₈ : List ℕ) (at : ℕ) → at + 35 ≤ length out → length cid ≡ 16 → d.priority < 256
    → owner d.src_cid ≡ present ∷ cid
    → o₁ ≡ pasted out at (0x55 ∷ 0x44 ∷ []) → o₂ ≡ pasted o₁ (at + 2) (big_endian 2 d.universe) → o₃ ≡ pasted o₂ (at + 4) (big_endian 2 d.sync_uni)
    → o₄ ≡ pasted o₃ (at + 6) (d.priority ∷ bit d.preview ∷ present ∷ []) → o₅ ≡ pasted o₄ (at + 9) cid → o₆ ≡ pasted o₅ (at + 25) (big_endian 8 d.recv_timestamp)
    → o₇ ≡ pasted o₆ (at + 33) (big_endian 2 (length values)) → o₈ ≡ pasted o₇ (at + 35) values → Laid d values out o₈ at (at + 35 + length values)
unfolding encode
record_laid d present cid values out o₁ o₂ o₃ o₄ o₅ o₆ o₇ o₈ at room c p e e₁ e₂ e₃ e₄ e₅ e₆ e₇ e₈ =
    let h : at ≤ length out = omega arith in
    let x₁ : List ℕ = 0x55 ∷ 0x44 ∷ [] in
    let u = big_endian 2 d.universe in
    let a = big_endian 2 d.sync_uni in
    let y : List ℕ = d.priority ∷ bit d.preview ∷ present ∷ [] in
    let t = big_endian 8 d.recv_timestamp in
    let n = big_endian 2 (length values) in
    let lu = length_big_endian 2 d.universe in
    let la = length_big_endian 2 d.sync_uni in
    let lt = length_big_endian 8 d.recv_timestamp in
    let ln = length_big_endian 2 (length values) in
    let n₂ : length (x₁ ++ u) ≡ 4 = omega arith in
    let n₃ : length ((x₁ ++ u) ++ a) ≡ 6 = omega (arith, length-append (x₁ ++ u) a) in
    let n₄ : length (((x₁ ++ u) ++ a) ++ y) ≡ 9 = omega (arith, length-append ((x₁ ++ u) ++ a) y) in
    let n₅ : length ((((x₁ ++ u) ++ a) ++ y) ++ cid) ≡ 25 = omega (arith, length-append (((x₁ ++ u) ++ a) ++ y) cid) in
    let n₆ : length (((((x₁ ++ u) ++ a) ++ y) ++ cid) ++ t) ≡ 33 = omega (arith, length-append ((((x₁ ++ u) ++ a) ++ y) ++ cid) t) in
    let n₇ : length ((((((x₁ ++ u) ++ a) ++ y) ++ cid) ++ t) ++ n) ≡ 35 = omega (arith, length-append (((((x₁ ++ u) ++ a) ++ y) ++ cid) ++ t) n) in
    let p₂ = then_laid out o₁ o₂ at (at + 2) x₁ u h (omega arith) e₁ e₂ in
    let p₃ = then_laid out o₂ o₃ at (at + 4) (x₁ ++ u) a h (omega arith) p₂ e₃ in
    let p₄ = then_laid out o₃ o₄ at (at + 6) ((x₁ ++ u) ++ a) y h (omega arith) p₃ e₄ in
    let p₅ = then_laid out o₄ o₅ at (at + 9) (((x₁ ++ u) ++ a) ++ y) cid h (omega arith) p₄ e₅ in
    let p₆ = then_laid out o₅ o₆ at (at + 25) ((((x₁ ++ u) ++ a) ++ y) ++ cid) t h (omega arith) p₅ e₆ in
    let p₇ = then_laid out o₆ o₇ at (at + 33) (((((x₁ ++ u) ++ a) ++ y) ++ cid) ++ t) n h (omega arith) p₆ e₇ in
    let p₈ = then_laid out o₇ o₈ at (at + 35) ((((((x₁ ++ u) ++ a) ++ y) ++ cid) ++ t) ++ n) values h (omega arith) p₇ e₈ in
    let o : big_endian 1 d.priority ≡ d.priority ∷ [] = one d.priority ∙ ap (λ (x : ℕ). x ∷ []) (mod-eq_of_lt p) in
    let q : ((((((x₁ ++ u) ++ a) ++ y) ++ cid) ++ t) ++ n) ++ values ≡ encode (dmx d values) = rw (e, o, two d.universe, two d.sync_uni) refl in
    record { after = omega (arith, length_encode (dmx d values)); laid = p₈ ∙ ap (pasted out at) q }

-- ── the loop over the entries ──
module _ (now a : ℕ) where
  abbrev pub due_of : Dmx → Bool
  due_of d = due now a d.head

  pub released_due : (ds : List Dmx) → released now a ds ≡ keep due_of ds
  unfolding released keep
  released_due [] = refl
  released_due (d ∷ ds) =
      let r = released_due ds in
      split (of_address a d)
      (λ h. split (fresh now d) (λ g. rw (h, g, r)) (λ g. rw (h, g, r)))
      (λ h. rw (h, r))

  -- what is still to be written of the first n entries, from place i on
  module _ (ds : List Dmx) (n : ℕ) (out₀ : List ℕ) where
    abbrev pub due_from : ℕ → List Dmx
    due_from i = keep due_of (drop i (take n ds))

    pub record Releasing (out : List ℕ) (i at count : ℕ) : Type 0 where
      pub inside : i ≤ n
      pub out_length : length out ≡ length out₀
      pub bytes_left : at + length (records (due_from i)) ≡ length (records (due_from 0))
      pub records_left : count + length (due_from i) ≡ length (due_from 0)
      pub still : pasted out at (records (due_from i)) ≡ pasted out₀ 0 (records (due_from 0))

    pub releasing_start : Releasing out₀ 0 0 0
    releasing_start = record { inside = omega arith; out_length = refl; bytes_left = omega arith; records_left = omega arith; still = refl }

    module _ (out : List ℕ) (i at count : ℕ) (v : Releasing out i at count) (d : Dmx) (h : i < n) (l : i < length ds) where
      pub releasing_skip : due_of (get_or ds i d) ≡ false → Releasing out (i + 1) at count
      unfolding keep
      releasing_skip e =
          let q : due_from i ≡ due_from (i + 1) = rw (next ds n i d h l, e) in
          record { inside = omega arith; out_length = v.out_length; bytes_left = rw (← q) v.bytes_left; records_left = rw (← q) v.records_left; still = rw (← q) v.still }

      module _ (e : due_of (get_or ds i d) ≡ true) where
        due_next : due_from i ≡ get_or ds i d ∷ due_from (i + 1)
        unfolding keep
        due_next = rw (next ds n i d h l, e)

        left_over : length (records (due_from i)) ≡ length (encode (get_or ds i d)) + length (records (due_from (i + 1)))
        unfolding records
        left_over = rw due_next (length-append (encode (get_or ds i d)) (records (due_from (i + 1))))

        -- there is room for the record
        pub releasing_room : length (records (due_from 0)) ≤ length out₀ → at + 35 + length (get_or ds i d).values ≤ length out
        releasing_room r =
            let b = v.bytes_left in
            let m = v.out_length in
            omega (arith, left_over, length_encode (get_or ds i d))

        pub releasing_write : (out' : List ℕ) (at' : ℕ) → length (records (due_from 0)) ≤ length out₀ → out' ≡ pasted out at (encode (get_or ds i d)) → at' ≡ at + length (encode (get_or ds i d))
            → Releasing out' (i + 1) at' (count + 1)
        unfolding records
        releasing_write out' at' r o k =
            let b = v.bytes_left in
            let m = v.out_length in
            let c = v.records_left in
            let g = left_over in
            let z : length (due_from i) ≡ suc (length (due_from (i + 1))) = ap length due_next in
            record {
              inside = omega arith;
              out_length = rw o (length_pasted out at (encode (get_or ds i d)) (omega arith) ∙ m);
              bytes_left = omega arith;
              records_left = omega arith;
              still = rw (o, k) (pasted_append out at (encode (get_or ds i d)) (omega arith) (records (due_from (i + 1))) ∙ ap (λ (x : List Dmx). pasted out at (records x)) (sym due_next) ∙ v.still);
            }

    pub releasing_end : (out : List ℕ) (i at count : ℕ) → Releasing out i at count → n ≤ i → Writing (released now a (take n ds)) out₀ out count at
    unfolding keep records
    releasing_end out i at count v h =
        let s : due_from i ≡ [] = ap (keep due_of) (spent ds n i (omega arith)) in
        let q = released_due (take n ds) in
        let b : at + 0 ≡ length (records (due_from 0)) = ap (λ (x : List Dmx). at + length (records x)) (sym s) ∙ v.bytes_left in
        let c : count + 0 ≡ length (due_from 0) = ap (λ (x : List Dmx). count + length x) (sym s) ∙ v.records_left in
        let w : pasted out at [] ≡ pasted out₀ 0 (records (due_from 0)) = ap (λ (x : List Dmx). pasted out at (records x)) (sym s) ∙ v.still in
        rw q (record {
          written = sym (pasted_none out at) ∙ w ∙ pasted_front out₀ (records (due_from 0));
          record_count = omega arith;
          byte_count = omega arith;
        })

-- the output has room for all that the entries may release
pub release_room : (now a n : ℕ) (rows : List (List ℕ)) (store out : List ℕ) → Room rows store → n ≤ capacity → most_bytes ≤ length out
    → length (records (keep (due_of now a) (take n (entries rows store)))) ≤ length out
release_room now a n rows store out r h l =
    let ds = take n (entries rows store) in
    let k = length_keep (due_of now a) ds in
    let f : length (keep (due_of now a) ds) ≤ capacity = omega (arith, length-take n (entries rows store)) in
    omega (arith, records_within (keep (due_of now a) ds) f (within_keep (due_of now a) ds (within_entries n rows store)))
