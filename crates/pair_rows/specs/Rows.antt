-- Lists of rows seen through what they stand for: what a walk, a search or a fold along the rows answers, and what finding answers.
-- Assumes nothing.
use Rattle.std.specs.Prelude.{◌≡◌, refl, ◌≢◌, Bool, true, false, not, ◌&&◌, ◌||◌, ℕ, ◌+◌, ◌-◌, ◌≤◌, ◌<◌, min, nat_lt, length, take, drop, get_or, Some, None}
use Rattle.std.specs.List.{prefix_len, list_any, fold, slice_range}
use Rattle.std.proofs.Common.{sym, ap, ◌∙◌, arith, length-take, get_or-take, eqb-true, eq-eqb, le-ltb, leb-false}
use Rattle.std.proofs.Math.Option.{none, some}
use mathlib.Core.List.{List, [], ◌∷◌, map}
use Rattle.std.proofs.lemmas.List.{length-map, drop-take}
use Rattle.std.proofs.lemmas.Bool.{lt-leb}
use Rattle.laws.specs.Cases.{split, clash}
use Rattle.laws.specs.Order.{Order, before_by}
use Rattle.laws.specs.Table.{any, find, any_map}
use Rattle.laws.specs.Place.{place, absent, absent_end, present, get_d_map, prefix_map}
use Rattle.laws.specs.Library.{prefix_is, any_is}
use Rattle.rules.specs.declared.Cid.{Cid}
use Rattle.rules.specs.Cid.{same, before}
use Rattle.rules.proofs.CidLaws.{same_refl, same_path}
use Rattle.rules.specs.Age.{expired}
use Rattle.pairs.specs.declared.Pair.{Pair}
use Rattle.pairs.specs.Table.{Key, key, key_of, key_before, itself, has}
use Rattle.pairs.specs.Laws.{stale}
use Rattle.pair_rows.specs.View.{Rows, cid_of, pair_of, placed, same_key, older, lower}

-- ── keys ──
pub same_key_path : (p : Pair) (c : Cid) (u : ℕ) → same_key p c u ≡ true → key_of p ≡ key c u
same_key_path p c u h =
    split (same p.cid c)
    (λ e. let a = same_path p.cid c e in let b = eqb-true p.universe u (cc) in λ i. record { cid = a i; universe = b i })
    (λ e. clash h (rw e))

pub same_key_not : (p : Pair) (c : Cid) (u : ℕ) → same_key p c u ≡ false → key_of p ≢ key c u
same_key_not p c u h e =
    let a : p.cid ≡ c = ap (λ (k : Key). k.cid) e in
    let b : p.universe ≡ u = ap (λ (k : Key). k.universe) e in
    let s : same p.cid c ≡ true = rw a (same_refl c) in
    clash (rw (s, eq-eqb p.universe u b)) h

pub same_cid_not : (a b : Cid) → same a b ≡ false → a ≢ b
same_cid_not a b h e = clash (rw e (same_refl b)) h

-- ── two keys, by the tests of code ──
pub key_before_by : (a b : Key) → key_before a b ≡ (before a.cid b.cid || not (before b.cid a.cid) && nat_lt a.universe b.universe)
unfolding before_by
key_before_by a b = split (before a.cid b.cid) (λ e. rw e) (λ e. split (before b.cid a.cid) (λ f. rw (e, f)) (λ f. rw (e, f)))

-- ── the rows that a walk, a search and a fold look at, seen as what they stand for ──
pub place_walked : (k : Key) (rows : Rows) → place key_before key_of k (map pair_of rows) ≡ prefix_len (λ row. key_before (key_of (pair_of row)) k) rows
place_walked k rows = prefix_map pair_of (λ p. key_before (key_of p) k) rows ∙ prefix_is (λ row. key_before (key_of (pair_of row)) k) rows

pub source_walked : (c : Cid) (rows : Rows) → place before itself c (map cid_of rows) ≡ prefix_len (λ row. before (cid_of row) c) rows
source_walked c rows = prefix_map cid_of (λ d. before d c) rows ∙ prefix_is (λ row. before (cid_of row) c) rows

-- the rows of places j to n
pub behind : (j n : ℕ) (rows : Rows) → j ≤ n → drop j (take n rows) ≡ slice_range rows j n
behind j n rows h = let e : j + (n - j) ≡ n = omega arith in ap (λ (k : ℕ). drop j (take k rows)) (sym e) ∙ drop-take j (n - j) rows

pub has_searched : (c : Cid) (rows : Rows) → has (map pair_of rows) c ≡ list_any (λ row. same (pair_of row).cid c) rows
has_searched c rows = any_map pair_of (λ p. same p.cid c) rows ∙ any_is (λ row. same (pair_of row).cid c) rows

pub lower_folded : (o : ℕ) (rows : Rows) → lower o (map pair_of rows) ≡ fold (λ least row. min least (pair_of row).reading) o rows
unfolding lower
lower_folded o [] = refl
lower_folded o (row ∷ rows) = lower_folded (min o (pair_of row).reading) rows

-- ── the entry at a key's place, among the rows in use ──
module _ {K E : Type 0} (lt : K → K → Bool) (key : E → K) (O : Order lt) (k : K) (f : List ℕ → E) (n : ℕ) (rows : Rows) (fits : n ≤ length rows) where
  abbrev used : List E
  used = map f (take n rows)

  long : length used ≡ n
  long = length-map (take n rows) f ∙ omega (arith, length-take n rows)

  module _ (i : ℕ) (at : i ≡ place lt key k used) where
    -- what stands there
    read : i < n → get_or used (place lt key k used) (f []) ≡ f (get_or rows i [])
    read h = ap (λ (j : ℕ). get_or used j (f [])) (sym at) ∙ get_d_map f (take n rows) i [] ∙ ap f (get_or-take n rows i [] h)

    pub found_hit : i < n → key (f (get_or rows i [])) ≡ k → find lt key k used ≡ some (f (get_or rows i []))
    found_hit h e =
        let r = read h in
        present lt key O k used (f []) (omega (arith, long)) (rw r e) ∙ ap some r

    pub found_miss : i < n → key (f (get_or rows i [])) ≢ k → find lt key k used ≡ none
    found_miss h e =
        let r = read h in
        absent lt key O k used (f []) (omega (arith, long)) (rw r e)

    pub found_end : n ≤ i → find lt key k used ≡ none
    found_end h = absent_end lt key O k used (omega (arith, long))

    -- and what finding answers
    pub placed_hit : i < n → key (f (get_or rows i [])) ≡ k → Some i ≡ placed (place lt key k used) (find lt key k used)
    placed_hit h e = ap Some at ∙ ap (placed (place lt key k used)) (sym (found_hit h e))

    pub placed_miss : i < n → key (f (get_or rows i [])) ≢ k → None ≡ placed (place lt key k used) (find lt key k used)
    placed_miss h e = ap (placed (place lt key k used)) (sym (found_miss h e))

    pub placed_end : n ≤ i → None ≡ placed (place lt key k used) (find lt key k used)
    placed_end h = ap (placed (place lt key k used)) (sym (found_end h))

-- ── readings ──
pub lower_under : (o : ℕ) (ps : List Pair) → lower o ps ≤ o
unfolding lower
lower_under o [] = omega arith
lower_under o (p ∷ ps) = omega (arith, lower_under (min o p.reading) ps)

-- no pair is older than the least reading
pub older_lower : (o l : ℕ) (ps : List Pair) → l ≤ lower o ps → older l ps ≡ false
unfolding lower any
older_lower o l [] h = refl
older_lower o l (p ∷ ps) h =
    let e = le-ltb p.reading l (omega (arith, lower_under (min o p.reading) ps)) in
    rw e (older_lower (min o p.reading) l ps h)

-- and where none is expired, it is not
pub lower_fresh : (now o : ℕ) (ps : List Pair) → expired now o ≡ false → stale now ps ≡ false → expired now (lower o ps) ≡ false
unfolding lower any
lower_fresh now o [] e s = e
lower_fresh now o (p ∷ ps) e s =
    split (expired now p.reading)
    (λ f. clash (rw f) s)
    (λ f.
    let x = lt-leb 2500 (now - min o p.reading) (omega (arith, leb-false 2500 (now - o) e, leb-false 2500 (now - p.reading) f)) in
    lower_fresh now (min o p.reading) ps x (rw f at s))
