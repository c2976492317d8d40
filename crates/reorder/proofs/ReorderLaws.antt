-- The reordering theorem, for any machine that steps through a list of packets.
-- Assumes nothing.
use Rattle.std.specs.Prelude.{◌≡◌, refl, ◌⊎◌, Bool, false, List, [], ◌∷◌, map, ℕ, zero, suc, ◌<◌, length}
use Rattle.std.proofs.Common.{sym, ap, ◌∙◌, inl, inr, arith}
use Rattle.std.proofs.Math.Option.{Option, none, some}
use Rattle.std.proofs.Math.ListN.{get_elem?}
use Rattle.std.proofs.Math.Dec.{eqb-zero-suc, eqb-suc-zero, eqb-suc-suc}
use Rattle.laws.specs.Cases.{found}
use Rattle.reorder.specs.Demand.{At, count, Picks, Reordering, MovedPast}

-- The machine: one step takes a packet and gives the state that follows and an answer.
module _ {State Packet Answer : Type 0} (step : State → Packet → State × Answer) where
  -- The state after every packet of the list.
  abbrev pub final : State → List Packet → State
  final s [] = s
  final s (p ∷ ps) = final (step s p).0 ps

  -- The answers, one for each packet.
  abbrev pub answers : State → List Packet → List Answer
  answers s [] = []
  answers s (p ∷ ps) = (step s p).1 ∷ answers (step s p).0 ps

-- What the machine has to meet. `Same s t`: the two states count as equal. `Good`: what the runs keep true of the state.
-- `Fits`: what every packet of the list meets. `Indep p q`: the two packets may be moved past one another.
pub record Commutes {State Packet Answer : Type 0} (step : State → Packet → State × Answer)
    (Same : State → State → Type 0) (Good : State → Type 0) (Fits : Packet → Type 0) (Indep : Packet → Packet → Type 0) : Type 0 where
  pub same_refl : (s : State) → Same s s
  pub same_trans : (s t u : State) → Same s t → Same t u → Same s u
  pub keeps : (s : State) (p : Packet) → Good s → Fits p → Good (step s p).0
  pub same_after : (s t : State) (p : Packet) → Good s → Good t → Fits p → Same s t → Same (step s p).0 (step t p).0
  pub same_answer : (s t : State) (p : Packet) → Good s → Good t → Fits p → Same s t → (step s p).1 ≡ (step t p).1
  pub swap_after : (s : State) (p q : Packet) → Good s → Fits p → Fits q → Indep p q
      → Same (step (step s q).0 p).0 (step (step s p).0 q).0
  pub swap_first : (s : State) (p q : Packet) → Good s → Fits p → Fits q → Indep p q
      → (step (step s q).0 p).1 ≡ (step s p).1
  pub swap_second : (s : State) (p q : Packet) → Good s → Fits p → Fits q → Indep p q
      → (step s q).1 ≡ (step (step s p).0 q).1

-- ── Below: the proof ────────────────────────────────────────────────────────────────────────────────────────────────
-- x put in as element number k
abbrev pub ins : {A : Type 0} → ℕ → A → List A → List A
ins zero x xs = x ∷ xs
ins (suc k) x [] = x ∷ []
ins (suc k) x (y ∷ ys) = y ∷ ins k x ys

-- P of each of the first k elements
abbrev pub First : {A : Type 0} → ℕ → (A → Type 0) → List A → Type 0
First zero P xs = Unit {0}
First (suc k) P [] = Unit {0}
First (suc k) P (x ∷ xs) = P x × First k P xs

abbrev pub All : {A : Type 0} → (A → Type 0) → List A → Type 0
All P [] = Unit {0}
All P (x ∷ xs) = P x × All P xs

-- South is made from the last packet of North to the first: the next packet of North goes in at k, past packets that are
-- independent of it.
data Made {Packet : Type 0} (Indep : Packet → Packet → Type 0) : List Packet → List ℕ → List Packet → Type 0 where
  nothing : Made Indep [] [] []
  put : {north : List Packet} {places : List ℕ} {south : List Packet} (k : ℕ) (p : Packet) → First k (Indep p) south
      → Made Indep north places south → Made Indep (p ∷ north) (ins k 0 (map suc places)) (ins k p south)

picks_suc : {A : Type 0} (x : A) (places : List ℕ) (xs ys : List A) → Picks places xs ys → Picks (map suc places) (x ∷ xs) ys
picks_suc x [] xs ys e = e
picks_suc x (i ∷ places) xs [] e = cc
picks_suc x (i ∷ places) xs (y ∷ ys) e = let h : Picks places xs ys = cc in let r = picks_suc x places xs ys h in cc

picks_ins : {A : Type 0} (k : ℕ) (x : A) (places : List ℕ) (xs ys : List A) → Picks places xs ys
    → Picks (ins k 0 (map suc places)) (x ∷ xs) (ins k x ys)
picks_ins zero x places xs ys e = ap {B = List (Option _)} (λ r. some x ∷ r) (picks_suc x places xs ys e)
picks_ins (suc k) x [] xs [] e = refl
picks_ins (suc k) x [] xs (y ∷ ys) e = cc
picks_ins (suc k) x (i ∷ places) xs [] e = cc
picks_ins (suc k) x (i ∷ places) xs (y ∷ ys) e = let h : Picks places xs ys = cc in let r = picks_ins k x places xs ys h in cc

all_ins : {A : Type 0} (P : A → Type 0) (k : ℕ) (x : A) (xs : List A) → P x → All P xs → All P (ins k x xs)
all_ins P zero x xs h a = (h, a)
all_ins P (suc k) x [] h a = (h, tt)
all_ins P (suc k) x (y ∷ ys) h a = (a.0, all_ins P k x ys h a.1)

module _ {State Packet Answer : Type 0} (step : State → Packet → State × Answer)
    (Same : State → State → Type 0) (Good : State → Type 0) (Fits : Packet → Type 0) (Indep : Packet → Packet → Type 0)
    (C : Commutes step Same Good Fits Indep) where
  run_after : (s t : State) (ps : List Packet) → Good s → Good t → All Fits ps → Same s t → Same (final step s ps) (final step t ps)
  run_after s t [] gs gt a e = e
  run_after s t (p ∷ ps) gs gt a e =
      run_after (step s p).0 (step t p).0 ps (C.keeps s p gs a.0) (C.keeps t p gt a.0) a.1 (C.same_after s t p gs gt a.0 e)

  run_answers : (s t : State) (ps : List Packet) → Good s → Good t → All Fits ps → Same s t → answers step s ps ≡ answers step t ps
  run_answers s t [] gs gt a e = refl
  run_answers s t (p ∷ ps) gs gt a e =
      let h = C.same_answer s t p gs gt a.0 e in
      let r = run_answers (step s p).0 (step t p).0 ps (C.keeps s p gs a.0) (C.keeps t p gt a.0) a.1 (C.same_after s t p gs gt a.0 e) in
      cc

  front_after : (k : ℕ) (s : State) (p : Packet) (ps : List Packet) → Good s → Fits p → All Fits ps → First k (Indep p) ps
      → Same (final step s (ins k p ps)) (final step (step s p).0 ps)
  front_after zero s p ps g f a i = C.same_refl _
  front_after (suc k) s p [] g f a i = C.same_refl _
  front_after (suc k) s p (q ∷ ps) g f a i =
      let gq = C.keeps s q g a.0 in
      let gp = C.keeps s p g f in
      C.same_trans _ _ _ (front_after k (step s q).0 p ps gq f a.1 i.1)
      (run_after _ _ ps (C.keeps _ p gq f) (C.keeps _ q gp a.0) a.1 (C.swap_after s p q g f a.0 i.0))

  front_answers : (k : ℕ) (s : State) (p : Packet) (ps : List Packet) → Good s → Fits p → All Fits ps → First k (Indep p) ps
      → answers step s (ins k p ps) ≡ ins k (step s p).1 (answers step (step s p).0 ps)
  front_answers zero s p ps g f a i = refl
  front_answers (suc k) s p [] g f a i = refl
  front_answers (suc k) s p (q ∷ ps) g f a i =
      let gq = C.keeps s q g a.0 in
      let gp = C.keeps s p g f in
      let h = front_answers k (step s q).0 p ps gq f a.1 i.1 in
      let r = run_answers _ _ ps (C.keeps _ p gq f) (C.keeps _ q gp a.0) a.1 (C.swap_after s p q g f a.0 i.0) in
      let e1 = C.swap_first s p q g f a.0 i.0 in
      let e2 = C.swap_second s p q g f a.0 i.0 in
      cc

  made_fits : {north : List Packet} {places : List ℕ} {south : List Packet} → Made Indep north places south → All Fits north → All Fits south
  made_fits nothing a = tt
  made_fits (put {south = south} k p i m) a = all_ins Fits k p south a.0 (made_fits m a.1)

  made_after : {north : List Packet} {places : List ℕ} {south : List Packet} (s : State) → Made Indep north places south → Good s → All Fits north
      → Same (final step s south) (final step s north)
  made_after s nothing g a = C.same_refl s
  made_after s (put {south = south} k p i m) g a =
      C.same_trans _ _ _ (front_after k s p south g a.0 (made_fits m a.1) i) (made_after _ m (C.keeps s p g a.0) a.1)

  made_answers : {north : List Packet} {places : List ℕ} {south : List Packet} (s : State) → Made Indep north places south → Good s → All Fits north
      → Picks places (answers step s north) (answers step s south)
  made_answers s nothing g a = refl
  made_answers s (put {north = north} {places = places} {south = south} k p i m) g a =
      rw (front_answers k s p south g a.0 (made_fits m a.1) i)
      (picks_ins k (step s p).1 places (answers step (step s p).0 north) (answers step (step s p).0 south) (made_answers _ m (C.keeps s p g a.0) a.1))

-- ── From the statement by numbers to `Made` ─────────────────────────────────────────────────────────────────────────
nil_cons : {A : Type 0} {x : A} {xs : List A} → [] ≡ x ∷ xs → ⊥
nil_cons e = let z : ◌≡◌ {A = ℕ} 0 1 = cc in omega arith

cons_nil : {A : Type 0} {x : A} {xs : List A} → x ∷ xs ≡ [] → ⊥
cons_nil e = nil_cons (sym e)

-- a list without 0 is made of successors
no_zero : (xs : List ℕ) → count 0 xs ≡ 0 → (ys : List ℕ) × (xs ≡ map suc ys)
unfolding count
no_zero [] e = ([], refl)
no_zero (zero ∷ xs) e = absurd (omega arith)
no_zero (suc x ∷ xs) e =
    let (ys, h) = no_zero xs (omega (arith, rw (eqb-zero-suc x) at e)) in
    (x ∷ ys, cc)

one_zero : (xs : List ℕ) → count 0 xs ≡ 1 → (k : ℕ) × (ys : List ℕ) × (xs ≡ ins k 0 (map suc ys))
unfolding count
one_zero [] e = absurd (omega arith)
one_zero (zero ∷ xs) e =
    let (ys, h) = no_zero xs (omega arith) in
    (0, ys, cc)
one_zero (suc x ∷ xs) e =
    let (k, ys, h) = one_zero xs (omega (arith, rw (eqb-zero-suc x) at e)) in
    (suc k, x ∷ ys, cc)

count_suc : (i : ℕ) (ys : List ℕ) → count (suc i) (map suc ys) ≡ count i ys
unfolding count
count_suc i [] = refl
count_suc i (y ∷ ys) = rw (eqb-suc-suc i y, count_suc i ys)

count_ins : (i k : ℕ) (ys : List ℕ) → count (suc i) (ins k 0 (map suc ys)) ≡ count i ys
unfolding count
count_ins i zero ys = rw (eqb-suc-zero i, count_suc i ys) (omega arith)
count_ins i (suc k) [] = rw (eqb-suc-zero i)
count_ins i (suc k) (y ∷ ys) = rw (eqb-suc-suc i y, count_ins i k ys)

unpick_suc : {A : Type 0} (p : A) (ys : List ℕ) (rest south : List A) → Picks (map suc ys) (p ∷ rest) south → Picks ys rest south
unpick_suc p [] rest south e = e
unpick_suc p (y ∷ ys) rest [] e = absurd (nil_cons e)
unpick_suc p (y ∷ ys) rest (x ∷ south) e =
    let h : Picks (map suc ys) (p ∷ rest) south = cc in
    let r = unpick_suc p ys rest south h in
    cc

unpick : {A : Type 0} (k : ℕ) (p : A) (ys : List ℕ) (rest south : List A) → Picks (ins k 0 (map suc ys)) (p ∷ rest) south
    → (south' : List A) × (south ≡ ins k p south') × Picks ys rest south'
unpick zero p ys rest [] e = absurd (nil_cons e)
unpick zero p ys rest (x ∷ south) e =
    let h : Picks (map suc ys) (p ∷ rest) south = cc in
    let q : x ≡ p = cc in
    (south, (cc), unpick_suc p ys rest south h)
unpick (suc k) p [] rest [] e = absurd (nil_cons e)
unpick (suc k) p [] rest (x ∷ []) e = let q : x ≡ p = cc in ([], (cc), refl)
unpick (suc k) p [] rest (x ∷ y ∷ south) e = let h : map some (y ∷ south) ≡ [] = cc in absurd (cons_nil h)
unpick (suc k) p (y ∷ ys) rest [] e = absurd (nil_cons e)
unpick {A} (suc k) p (y ∷ ys) rest (x ∷ south) e =
    let h : Picks (ins k 0 (map suc ys)) (p ∷ rest) south = cc in
    let q : some x ≡ get_elem? rest y = cc in
    let (south', i, j) = unpick k p ys rest south h in
    (x ∷ south', (cc), (cc))

-- membership and order by recursion
abbrev Mem : ℕ → List ℕ → Type 0
Mem a [] = ⊥
Mem a (x ∷ xs) = (a ≡ x) ⊎ Mem a xs

-- a stands in the list, and b behind it
abbrev Before : ℕ → ℕ → List ℕ → Type 0
Before a b [] = ⊥
Before a b (x ∷ xs) = ((a ≡ x) × Mem b xs) ⊎ Before a b xs

mem_suc : (a : ℕ) (xs : List ℕ) → Mem a xs → Mem (suc a) (map suc xs)
mem_suc a [] m = m
mem_suc a (x ∷ xs) (inl e) = inl (cc)
mem_suc a (x ∷ xs) (inr m) = inr (mem_suc a xs m)

before_suc : (a b : ℕ) (xs : List ℕ) → Before a b xs → Before (suc a) (suc b) (map suc xs)
before_suc a b [] m = m
before_suc a b (x ∷ xs) (inl m) = inl (ap suc m.0, mem_suc b xs m.1)
before_suc a b (x ∷ xs) (inr m) = inr (before_suc a b xs m)

mem_self : (k a : ℕ) (xs : List ℕ) → Mem a (ins k a xs)
mem_self zero a xs = inl refl
mem_self (suc k) a [] = inl refl
mem_self (suc k) a (x ∷ xs) = inr (mem_self k a xs)

mem_ins : (k z a : ℕ) (xs : List ℕ) → Mem a xs → Mem a (ins k z xs)
mem_ins zero z a xs m = inr m
mem_ins (suc k) z a [] m = inr m
mem_ins (suc k) z a (x ∷ xs) (inl e) = inl e
mem_ins (suc k) z a (x ∷ xs) (inr m) = inr (mem_ins k z a xs m)

before_ins : (k z a b : ℕ) (xs : List ℕ) → Before a b xs → Before a b (ins k z xs)
before_ins zero z a b xs m = inr m
before_ins (suc k) z a b [] m = inr m
before_ins (suc k) z a b (x ∷ xs) (inl m) = inl (m.0, mem_ins k z b xs m.1)
before_ins (suc k) z a b (x ∷ xs) (inr m) = inr (before_ins k z a b xs m)

mem_at : (a : ℕ) (xs : List ℕ) → Mem a xs → (l : ℕ) × At xs l a
mem_at a [] m = absurd m
mem_at a (x ∷ xs) (inl e) = (0, (cc))
mem_at a (x ∷ xs) (inr m) = let (l, h) = mem_at a xs m in (suc l, h)

before_at : (i j : ℕ) (xs : List ℕ) → i < j → Before j i xs → MovedPast xs i j
before_at i j [] o m = absurd m
before_at i j (x ∷ xs) o (inl m) =
    let (l, h) = mem_at i xs m.1 in
    let e = m.0 in
    record { k = 0; l = suc l; north_order = o; south_order = omega arith; first = cc; second = h }
before_at i j (x ∷ xs) o (inr m) =
    let r = before_at i j xs o m in
    record { k = suc r.k; l = suc r.l; north_order = o; south_order = omega (arith, r.south_order); first = r.first; second = r.second }

module _ {Packet : Type 0} (Indep : Packet → Packet → Type 0) where
  firsts : (k : ℕ) (p : Packet) (ys : List ℕ) (rest south : List Packet) → Picks ys rest south
      → ((j : ℕ) (q : Packet) → Before (suc j) 0 (ins k 0 (map suc ys)) → At rest j q → Indep p q) → First k (Indep p) south
  firsts zero p ys rest south e h = tt
  firsts (suc k) p ys rest [] e h = tt
  firsts (suc k) p [] rest (x ∷ south) e h = absurd (cons_nil e)
  firsts (suc k) p (y ∷ ys) rest (x ∷ south) e h =
      let e' : Picks ys rest south = cc in
      (h y x (inl (refl, mem_self k 0 (map suc ys))) (cc), firsts k p ys rest south e' (λ j q b a. h j q (inr b) a))

  make : (north : List Packet) (places : List ℕ) (south : List Packet) → Picks places north south
      → ((i : ℕ) → i < length north → count i places ≡ 1)
      → ((i j : ℕ) (p q : Packet) → i < j → Before j i places → At north i p → At north j q → Indep p q)
      → Made Indep north places south
  make [] [] [] e o h = nothing
  make [] [] (x ∷ south) e o h = absurd (cons_nil e)
  make [] (i ∷ places) [] e o h = absurd (nil_cons e)
  make [] (i ∷ places) (x ∷ south) e o h = let q : some x ≡ none = cc in let z : ◌≡◌ {A = ℕ} 0 1 = cc in absurd (omega arith)
  make (p ∷ north) places south e o h =
      let (k, ys, f) = one_zero places (o 0 (omega arith)) in
      let e' : Picks (ins k 0 (map suc ys)) (p ∷ north) south = rw f at e in
      let (south', g, u) = unpick k p ys north south e' in
      rw (f, g) (put k p
      (firsts k p ys north south' u (λ j q b a. h 0 (suc j) p q (omega arith) (rw f b) refl a))
      (make north ys south' u
      (λ i l. sym (count_ins i k ys) ∙ (rw f at (o (suc i) (omega arith))))
      (λ i j p' q l b a a'. h (suc i) (suc j) p' q (omega arith) (rw f (before_ins k 0 (suc j) (suc i) (map suc ys) (before_suc j i ys b))) a a')))

pub at_all : {A : Type 0} (P : A → Type 0) (xs : List A) → ((i : ℕ) (x : A) → At xs i x → P x) → All P xs
at_all P [] h = tt
at_all P (x ∷ xs) h = (h 0 x refl, at_all P xs (λ i y a. h (suc i) y a))

-- THE THEOREM. A machine that meets `Commutes` steps through North and through South from one good state. South is North
-- put into another order, and packets that are moved past one another are independent. Then South's answer number k is
-- North's answer number places[k], and the two end states count as equal.
module _ {State Packet Answer : Type 0} (step : State → Packet → State × Answer)
    (Same : State → State → Type 0) (Good : State → Type 0) (Fits : Packet → Type 0) (Indep : Packet → Packet → Type 0)
    (C : Commutes step Same Good Fits Indep)
    (s : State) (good : Good s) (places : List ℕ) (north south : List Packet)
    (reordering : Reordering places north south)
    (fits : (i : ℕ) (p : Packet) → At north i p → Fits p)
    (independent : (i j : ℕ) (p q : Packet) → MovedPast places i j → At north i p → At north j q → Indep p q) where
  made : Made Indep north places south
  made = make Indep north places south reordering.picks reordering.once
      (λ i j p q o b a a'. independent i j p q (before_at i j places o b) a a')

  pub same_answers : Picks places (answers step s north) (answers step s south)
  same_answers = made_answers step Same Good Fits Indep C s made good (at_all Fits north fits)

  pub same_end : Same (final step s south) (final step s north)
  same_end = made_after step Same Good Fits Indep C s made good (at_all Fits north fits)

-- ── A test before the machine: a packet that fails it changes nothing ───────────────────────────────────────────────
abbrev pub guarded : {State Packet Answer : Type 0} → (Packet → Option Answer) → (State → Packet → State × Answer) → State → Packet → State × Answer
guarded fault step s p = elim (fault p) [ none ↦ step s p | some a ↦ (s, a) ]

module _ {State Packet Answer : Type 0} (fault : Packet → Option Answer) (step : State → Packet → State × Answer) (s : State) (p : Packet) where
  pub passes : fault p ≡ none → guarded fault step s p ≡ step s p
  passes e = cc

  pub fails : (a : Answer) → fault p ≡ some a → guarded fault step s p ≡ (s, a)
  fails a e = cc

module _ {State Packet Answer : Type 0} (fault : Packet → Option Answer) (step : State → Packet → State × Answer)
    (Same : State → State → Type 0) (Good : State → Type 0) (Fits : Packet → Type 0) (Indep : Packet → Packet → Type 0)
    (C : Commutes step Same Good Fits Indep) where
  pub guarded_commutes : Commutes (guarded fault step) Same Good Fits Indep
  guarded_commutes = record {
    same_refl = C.same_refl;
    same_trans = C.same_trans;
    keeps = λ s p g f. found (fault p) (λ e. rw (passes fault step s p e) (C.keeps s p g f)) (λ a e. rw (fails fault step s p a e) g);
    same_after = λ s t p g h f i. found (fault p) (λ e. rw (passes fault step s p e, passes fault step t p e) (C.same_after s t p g h f i)) (λ a e. rw (fails fault step s p a e, fails fault step t p a e) i);
    same_answer = λ s t p g h f i. found (fault p) (λ e. rw (passes fault step s p e, passes fault step t p e) (C.same_answer s t p g h f i)) (λ a e. rw (fails fault step s p a e, fails fault step t p a e));
    swap_after = λ s p q g f h i. found (fault p)
        (λ e. found (fault q)
        (λ d. rw (passes fault step s p e, passes fault step s q d, passes fault step (step s q).0 p e, passes fault step (step s p).0 q d) (C.swap_after s p q g f h i))
        (λ b d. rw (fails fault step s q b d, passes fault step s p e, fails fault step (step s p).0 q b d) (C.same_refl _)))
        (λ a e. found (fault q)
        (λ d. rw (fails fault step s p a e, passes fault step s q d, fails fault step (step s q).0 p a e) (C.same_refl _))
        (λ b d. rw (fails fault step s p a e, fails fault step s q b d, fails fault step s p a e) (C.same_refl _)));
    swap_first = λ s p q g f h i. found (fault p)
        (λ e. found (fault q)
        (λ d. rw (passes fault step s p e, passes fault step s q d, passes fault step (step s q).0 p e) (C.swap_first s p q g f h i))
        (λ b d. rw (fails fault step s q b d)))
        (λ a e. cc);
    swap_second = λ s p q g f h i. found (fault q)
        (λ d. found (fault p)
        (λ e. rw (passes fault step s p e, passes fault step s q d, passes fault step (step s p).0 q d) (C.swap_second s p q g f h i))
        (λ a e. rw (fails fault step s p a e)))
        (λ b d. cc);
  }

-- ── A machine with stops, and the same without ──────────────────────────────────────────────────────────────────────
-- `real` and `ideal` step alike from a good state, unless real's answer is a stop. A run of real without a stop is ideal's.
module _ {State Packet Answer : Type 0} (real ideal : State → Packet → State × Answer) (Good : State → Type 0) (Fits : Packet → Type 0) (stop : Answer → Bool)
    (keeps : (s : State) (p : Packet) → Good s → Fits p → Good (ideal s p).0)
    (agree : (s : State) (p : Packet) → Good s → Fits p → stop (real s p).1 ≡ false → real s p ≡ ideal s p) where
  pub as_ideal : (s : State) (ps : List Packet) → Good s → All Fits ps → All (λ a. stop a ≡ false) (answers real s ps)
      → (answers real s ps ≡ answers ideal s ps) × (final real s ps ≡ final ideal s ps)
  as_ideal s [] g f n = (refl, refl)
  as_ideal s (p ∷ ps) g f n =
      let e = agree s p g f.0 n.0 in
      let r = as_ideal (ideal s p).0 ps (keeps s p g f.0) f.1 (rw e at n.1) in
      (rw e (ap {B = List Answer} (λ r. (ideal s p).1 ∷ r) r.0), rw e r.1)
