-- How sources and pages are held: heads, one for each source, and leaves, one for each page, which name their owner by mark and CID.
-- The mark is 0 for a partial source and 1 for a listed one.
-- Assumes nothing.
use Rattle.std.specs.Prelude.{◌≡◌, Bool, not, cond, ◌&&◌, ℕ, ◌+◌, ◌≤◌, ◌<◌, length, get_or, set}
use Rattle.std.proofs.Math.Path.{refl, sym, ap}
use Rattle.std.proofs.Common.{◌∙◌, arith, eqb-true, eq-eqb}
use Rattle.std.proofs.Math.Bool.{true, false}
use Rattle.std.proofs.Math.Option.{some}
use mathlib.Core.List.{List, [], ◌∷◌, ◌++◌, map}
use Rattle.std.proofs.Math.Dec.{eqb}
use Rattle.laws.specs.Cases.{split, clash, missing}
use Rattle.laws.specs.Table.{keep, any}
use Rattle.laws.specs.Place.{prefix, remove_at}
use Rattle.rules.specs.declared.Cid.{Cid}
use Rattle.rules.specs.Cid.{same}
use Rattle.rules.proofs.CidLaws.{same_refl, same_path}
use Rattle.discovery.specs.Discovery.{Page, Source, Discovered, lookup, drop_source, updated, Once, Ordered}
use Rattle.discovery.proofs.Laws.{lookup_cid}
use Rattle.discovery.proofs.KeptLaws.{updated_none}

pub record Head : Type 0 where
  pub mark : ℕ
  pub cid : Cid
  pub name : List ℕ
  pub last_page : ℕ
  pub reading : ℕ

pub record Leaf : Type 0 where
  pub mark : ℕ
  pub cid : Cid
  pub page : Page

-- the owner n, d is the owner m, c
abbrev pub owner : ℕ → Cid → ℕ → Cid → Bool
owner m c n d = eqb n m && same d c

abbrev pub is_head_of : ℕ → Cid → Head → Bool
is_head_of m c h = owner m c h.mark h.cid

abbrev pub held_by : ℕ → Cid → Leaf → Bool
held_by m c l = owner m c l.mark l.cid

-- an owner's pages, in the order of the leaves
unfoldable pub pages_at : ℕ → List Leaf → Cid → List Page
pages_at m ls c = map (λ (l : Leaf). l.page) (keep (held_by m c) ls)

abbrev pub source_of : (Cid → List Page) → Head → Source
source_of P h = record { cid = h.cid; name = h.name; last_page = h.last_page; reading = h.reading; pages = P h.cid }

-- the sources of a mark, in the order of the heads, each with its pages
unfoldable pub sources_at : ℕ → List Head → (Cid → List Page) → List Source
sources_at m [] P = []
sources_at m (h ∷ hs) P = cond (eqb h.mark m) (source_of P h ∷ sources_at m hs P) (sources_at m hs P)

unfoldable pub view_of : List Head → List Leaf → Discovered
view_of hs ls = record { partial = sources_at 0 hs (pages_at 0 ls); listed = sources_at 1 hs (pages_at 1 ls) }

-- ── a mark is 0 or 1, and every leaf has its head ──
abbrev pub Marked : List Head → Type 0
Marked [] = Unit {0}
Marked (h ∷ hs) = (h.mark < 2) × Marked hs

abbrev pub Housed : List Head → List Leaf → Type 0
Housed hs [] = Unit {0}
Housed hs (l ∷ ls) = (any (is_head_of l.mark l.cid) hs ≡ true) × Housed hs ls

pub record Sound (hs : List Head) (ls : List Leaf) : Type 0 where
  pub marked : Marked hs
  pub housed : Housed hs ls
  pub ordered : Ordered (view_of hs ls)

-- ── an owner ──
pub owner_path : (m : ℕ) (c : Cid) (n : ℕ) (d : Cid) → owner m c n d ≡ true → (n ≡ m) × (d ≡ c)
owner_path m c n d h =
    split (eqb n m)
    (λ e. (eqb-true n m e, same_path d c (rw e at h)))
    (λ e. let z : false ≡ true = rw e at h in clash z refl)

pub owner_self : (m : ℕ) (c : Cid) → owner m c m c ≡ true
owner_self m c = rw (eq-eqb m m refl) (same_refl c)

-- ── the sources of a mark ──
module _ (m : ℕ) where
  -- pages that agree give the same sources
  pub sources_alike : (hs : List Head) (P Q : Cid → List Page) → ((d : Cid) → P d ≡ Q d) → sources_at m hs P ≡ sources_at m hs Q
  unfolding sources_at
  sources_alike [] P Q h = refl
  sources_alike (x ∷ hs) P Q h = let r = sources_alike hs P Q h in let e = h x.cid in split (eqb x.mark m) (λ g. cc) (λ g. cc)

  -- and those that agree but for a CID that no head has
  pub sources_beside : (c : Cid) (hs : List Head) (P Q : Cid → List Page) → any (is_head_of m c) hs ≡ false → ((d : Cid) → same d c ≡ false → P d ≡ Q d)
      → sources_at m hs P ≡ sources_at m hs Q
  unfolding sources_at any
  sources_beside c [] P Q a h = refl
  sources_beside c (x ∷ hs) P Q a h =
      split (eqb x.mark m)
      (λ g. split (same x.cid c)
      (λ e. let z : true ≡ false = rw (g, e) at a in clash refl z)
      (λ e. let r = sources_beside c hs P Q (rw (g, e) at a) h in let q = h x.cid e in cc))
      (λ g. let r = sources_beside c hs P Q (rw g at a) h in cc)

  -- a CID stands among the sources where a head has it
  pub any_sources : (c : Cid) (hs : List Head) (P : Cid → List Page) → any (λ s. same s.cid c) (sources_at m hs P) ≡ any (is_head_of m c) hs
  unfolding sources_at any
  any_sources c [] P = refl
  any_sources c (x ∷ hs) P =
      let r = any_sources c hs P in
      split (eqb x.mark m) (λ g. split (same x.cid c) (λ e. rw (g, e)) (λ e. rw (g, e) r)) (λ g. rw g r)

  -- the pages of a source that is found are those of its CID
  pub lookup_pages : (c : Cid) (hs : List Head) (P : Cid → List Page) (s : Source) → lookup c (sources_at m hs P) ≡ some s → s.pages ≡ P c
  unfolding sources_at lookup
  lookup_pages c [] P s h = missing {C = s.pages ≡ P c} s h refl
  lookup_pages c (x ∷ hs) P s h =
      split (eqb x.mark m)
      (λ g. split (same x.cid c)
      (λ e. let q : source_of P x ≡ s = cc in ap (λ (y : Source). y.pages) (sym q) ∙ ap P (same_path x.cid c e))
      (λ e. lookup_pages c hs P s (rw (g, e) at h)))
      (λ g. lookup_pages c hs P s (rw g at h))

  pub sources_append : (hs : List Head) (x : Head) (P : Cid → List Page) → x.mark ≡ m → sources_at m (hs ++ x ∷ []) P ≡ sources_at m hs P ++ source_of P x ∷ []
  unfolding sources_at
  sources_append [] x P e = rw (eq-eqb x.mark m e)
  sources_append (y ∷ hs) x P e = let r = sources_append hs x P e in split (eqb y.mark m) (λ g. cc) (λ g. cc)

  pub sources_append_other : (hs : List Head) (x : Head) (P : Cid → List Page) → eqb x.mark m ≡ false → sources_at m (hs ++ x ∷ []) P ≡ sources_at m hs P
  unfolding sources_at
  sources_append_other [] x P e = rw e
  sources_append_other (y ∷ hs) x P e = let r = sources_append_other hs x P e in split (eqb y.mark m) (λ g. cc) (λ g. cc)

  -- the heads of an owner go
  pub sources_dropped : (c : Cid) (hs : List Head) (P Q : Cid → List Page) → ((d : Cid) → same d c ≡ false → Q d ≡ P d)
      → sources_at m (keep (λ h. not (is_head_of m c h)) hs) Q ≡ drop_source c (sources_at m hs P)
  unfolding sources_at keep drop_source
  sources_dropped c [] P Q h = refl
  sources_dropped c (x ∷ hs) P Q h =
      let r = sources_dropped c hs P Q h in
      split (eqb x.mark m)
      (λ g. split (same x.cid c) (λ e. rw (g, e) r) (λ e. let q = h x.cid e in rw (g, e, g) (cc)))
      (λ g. rw (g, g) r)

  -- of another mark none goes
  pub sources_dropped_other : (n : ℕ) (c : Cid) (hs : List Head) (P : Cid → List Page) → eqb n m ≡ false
      → sources_at m (keep (λ h. not (is_head_of n c h)) hs) P ≡ sources_at m hs P
  unfolding sources_at keep
  sources_dropped_other n c [] P e = refl
  sources_dropped_other n c (x ∷ hs) P e =
      let r = sources_dropped_other n c hs P e in
      split (is_head_of n c x)
      (λ g. let q = owner_path n c x.mark x.cid g in let k : eqb x.mark m ≡ false = rw q.0 e in cc)
      (λ g. split (eqb x.mark m) (λ k. cc) (λ k. cc))

  pub length_sources : (hs : List Head) (P Q : Cid → List Page) → length (sources_at m hs P) ≡ length (sources_at m hs Q)
  unfolding sources_at
  length_sources [] P Q = refl
  length_sources (x ∷ hs) P Q = let r = length_sources hs P Q in split (eqb x.mark m) (λ g. rw (g, r)) (λ g. rw (g, r))

-- ── a list with at most one entry that passes the test ──
abbrev pub Single : {A : Type 0} → (A → Bool) → List A → Type 0
Single p [] = Unit {0}
Single p (x ∷ l) = (p x ≡ true → any p l ≡ false) × Single p l

module _ {A : Type 0} (p : A → Bool) where
  pub keep_none : (l : List A) → any p l ≡ false → keep (λ x. not (p x)) l ≡ l
  unfolding any keep
  keep_none [] h = refl
  keep_none (x ∷ l) h = split (p x) (λ e. let z : true ≡ false = rw e at h in clash refl z) (λ e. let r = keep_none l (rw e at h) in cc)

  -- keeping the others is taking it out at its place
  pub keep_single : (l : List A) → Single p l → prefix (λ x. not (p x)) l < length l → keep (λ x. not (p x)) l ≡ remove_at (prefix (λ x. not (p x)) l) l
  unfolding prefix keep any
  keep_single [] s h = absurd (omega arith)
  keep_single (x ∷ l) s h =
      split (p x)
      (λ e. rw e (keep_none l (s.0 e)))
      (λ e. let r = keep_single l s.1 (let g = rw e at h in omega arith) in rw e (ap (λ (t : List A). x ∷ t) r))

  -- where the walk ends before the list does, some entry passes; where it does not, none
  pub prefix_any : (l : List A) → prefix (λ x. not (p x)) l < length l → any p l ≡ true
  unfolding prefix any
  prefix_any [] h = absurd (omega arith)
  prefix_any (x ∷ l) h = split (p x) (λ e. rw e) (λ e. rw e (prefix_any l (let g = rw e at h in omega arith)))

  pub prefix_none : (l : List A) → length l ≤ prefix (λ x. not (p x)) l → any p l ≡ false
  unfolding prefix any
  prefix_none [] h = refl
  prefix_none (x ∷ l) h = split (p x) (λ e. absurd (let g = rw e at h in omega arith)) (λ e. rw e (prefix_none l (let g = rw e at h in omega arith)))

  pub length_parted : (l : List A) → length (keep p l) + length (keep (λ x. not (p x)) l) ≡ length l
  unfolding keep
  length_parted [] = refl
  length_parted (x ∷ l) = let r = length_parted l in split (p x) (λ e. rw e (omega arith)) (λ e. rw e (omega arith))

-- each CID once among the sources: at most one head of an owner
pub single_heads : (m : ℕ) (c : Cid) (hs : List Head) (P : Cid → List Page) → Once (sources_at m hs P) → Single (is_head_of m c) hs
unfolding sources_at
single_heads m c [] P o = tt
single_heads m c (x ∷ hs) P o =
    split (eqb x.mark m)
    (λ g.
    let q : Once (source_of P x ∷ sources_at m hs P) = rw g at o in
    ((λ e. let k : x.cid ≡ c = (owner_path m c x.mark x.cid e).1 in sym (any_sources m c hs P) ∙ (rw k at q.0)), single_heads m c hs P q.1))
    (λ g. ((λ e. let z : false ≡ true = rw g at e in clash z refl), single_heads m c hs P (rw g at o)))

-- ── a source's head renewed, and its pages ──
abbrev pub renewed : ℕ → Head → Head
renewed now h = record { mark = h.mark; cid = h.cid; name = h.name; last_page = h.last_page; reading = now }

module _ (m : ℕ) (c : Cid) (now : ℕ) (P Q : Cid → List Page) (beside : (d : Cid) → same d c ≡ false → P d ≡ Q d) (h₀ : Head) where
  pub sources_renewed : (hs : List Head) (t : Source) → Once (sources_at m hs P) → lookup c (sources_at m hs P) ≡ some t
      → sources_at m (set hs (prefix (λ h. not (is_head_of m c h)) hs) (renewed now (get_or hs (prefix (λ h. not (is_head_of m c h)) hs) h₀))) Q
      ≡ updated (record { cid = t.cid; name = t.name; last_page = t.last_page; reading = now; pages = Q c }) (sources_at m hs P)
  unfolding sources_at lookup updated prefix
  sources_renewed [] t o e = missing {C = sources_at m [] Q ≡ updated (record { cid = t.cid; name = t.name; last_page = t.last_page; reading = now; pages = Q c }) []} t e refl
  sources_renewed (x ∷ hs) t o e =
      split (eqb x.mark m)
      (λ g. split (same x.cid c)
      (λ f.
      let s : Source = record { cid = t.cid; name = t.name; last_page = t.last_page; reading = now; pages = Q c } in
      let o' : Once (source_of P x ∷ sources_at m hs P) = rw g at o in
      let p : source_of P x ≡ t = cc in
      let k : x.cid ≡ c = same_path x.cid c f in
      let i : x.cid ≡ t.cid = ap (λ (y : Source). y.cid) p in
      let a : any (is_head_of m c) hs ≡ false = sym (any_sources m c hs P) ∙ (rw k at o'.0) in
      let b : any (λ y. same y.cid t.cid) (sources_at m hs P) ≡ false = rw i at o'.0 in
      let u : updated s (sources_at m hs P) ≡ sources_at m hs P = updated_none s (sources_at m hs P) b in
      let v : sources_at m hs Q ≡ sources_at m hs P = sym (sources_beside m c hs P Q a beside) in
      let w : same x.cid t.cid ≡ true = rw i (same_refl t.cid) in
      let n = ap (λ (y : Source). y.name) p in
      let l = ap (λ (y : Source). y.last_page) p in
      let q : Q x.cid ≡ Q c = ap Q k in
      let z : source_of Q (renewed now x) ≡ s = λ j. record { cid = i j; name = n j; last_page = l j; reading = now; pages = q j } in
      rw (g, f, g, w) (cc))
      (λ f.
      let j : same x.cid t.cid ≡ false = rw (lookup_cid c (sources_at m hs P) t (rw (g, f) at e)) f in
      let o' : Once (source_of P x ∷ sources_at m hs P) = rw g at o in
      let r = sources_renewed hs t o'.1 (rw (g, f) at e) in
      let q = beside x.cid f in
      rw (g, f, g, j) (cc)))
      (λ g. let r = sources_renewed hs t (rw g at o) (rw g at e) in rw (g, g) r)
