-- What becomes of each owner's pages when leaves are added, dropped, cut or turned from partial to listed, and how many pages are held.
-- Assumes nothing.
use Rattle.std.specs.Prelude.{◌≡◌, Bool, not, cond, ◌&&◌, leb, ltb, eqb, length}
use Rattle.std.proofs.Math.Path.{refl}
use Rattle.std.proofs.Common.{sym, ap, ◌∙◌, arith}
use Rattle.std.proofs.Math.Bool.{true, false}
use mathlib.Core.List.{List, [], ◌∷◌, ◌++◌, map}
use Prim.Native.Nat.{ℕ, zero, suc, ◌+◌, ◌≤◌, ◌<◌}
use Rattle.discovery.proofs.KeptLaws.{count_least}
use borrow.Author.Tests.{eqb-true, eqb-false, leb-true, ltb-true, ltb-false, le-leb, lt-leb, le-ltb}
use Rattle.laws.specs.Cases.{split, clash}
use Rattle.laws.specs.Table.{keep, any}
use Rattle.laws.specs.Place.{prefix, insert_at}
use Rattle.rules.specs.declared.Cid.{Cid}
use Rattle.rules.specs.Cid.{same}
use Rattle.rules.proofs.CidLaws.{same_refl}
use Rattle.discovery.specs.Discovery.{Page, page_count, pages_held, cut_page, Rising}
use Rattle.discovery.proofs.Laws.{same_sym}
use Rattle.discovery_rows.specs.Store.{Head, Leaf, owner, is_head_of, held_by, pages_at, sources_at, view_of, Marked, Housed, Sound, owner_path, owner_self, Single, single_heads}

-- ── one leaf more ──
module _ (m : ℕ) (d : Cid) (l : Leaf) where
  -- it is another owner's
  pub pages_beside : (i : ℕ) (ls : List Leaf) → held_by m d l ≡ false → pages_at m (insert_at i l ls) d ≡ pages_at m ls d
  unfolding pages_at keep
  pages_beside zero ls h = rw h
  pages_beside (suc i) [] h = rw h
  pages_beside (suc i) (x ∷ ls) h = let r = pages_beside i ls h in split (held_by m d x) (λ e. cc) (λ e. cc)

-- not a page of the owner with a larger number
abbrev pub behind : ℕ → Cid → ℕ → Leaf → Bool
behind m c n x = not (held_by m c x && ltb n x.page.number)

module _ (m : ℕ) (c : Cid) (l : Leaf) (own : held_by m c l ≡ true) where
  -- put before the owner's first page of a larger number, it stands behind those of no larger number
  pub pages_placed : (ls : List Leaf)
      → pages_at m (insert_at (prefix (behind m c l.page.number) ls) l ls) c
      ≡ insert_at (prefix (λ (q : Page). leb q.number l.page.number) (pages_at m ls c)) l.page (pages_at m ls c)
  unfolding pages_at keep prefix
  pages_placed [] = rw own
  pages_placed (x ∷ ls) =
      let r = pages_placed ls in
      split (held_by m c x)
      (λ e. split (ltb l.page.number x.page.number)
      (λ g. rw (e, g, own, e, lt-leb x.page.number l.page.number (ltb-true l.page.number x.page.number g)))
      (λ g. rw (e, g, e, le-leb x.page.number l.page.number (ltb-false l.page.number x.page.number g)) (ap (λ (t : List Page). x.page ∷ t) r)))
      (λ e. rw (e, e) r)

-- where the owner's pages stand in order and the last leaf is one of them, a page of no smaller number goes behind all
module _ (m : ℕ) (c : Cid) (l : Leaf) (own : held_by m c l ≡ true) where
  last_least : (k : ℕ) (ls : List Leaf) → any (λ (q : Page). not (leb k q.number)) (pages_at m (ls ++ l ∷ []) c) ≡ false → k ≤ l.page.number
  unfolding pages_at keep any
  last_least k [] h =
      split (leb k l.page.number)
      (λ e. leb-true k l.page.number e)
      (λ e. let z : true ≡ false = rw (own, e) at h in clash refl z)
  last_least k (x ∷ ls) h =
      split (held_by m c x)
      (λ e. split (leb k x.page.number)
      (λ g. last_least k ls (rw (e, g) at h))
      (λ g. let z : true ≡ false = rw (e, g) at h in clash refl z))
      (λ e. last_least k ls (rw e at h))

  pub place_last : (n : ℕ) (ls : List Leaf) → l.page.number ≤ n → Rising (pages_at m (ls ++ l ∷ []) c) → prefix (behind m c n) (ls ++ l ∷ []) ≡ suc (length ls)
  unfolding pages_at keep prefix
  place_last n [] h r = rw (own, le-ltb n l.page.number h)
  place_last n (x ∷ ls) h r =
      split (held_by m c x)
      (λ e.
      let q : Rising (x.page ∷ pages_at m (ls ++ l ∷ []) c) = rw e at r in
      let b : x.page.number ≤ l.page.number = last_least x.page.number ls q.0 in
      rw (e, le-ltb n x.page.number (omega arith)) (ap suc (place_last n ls h q.1)))
      (λ e. rw e (ap suc (place_last n ls h (rw e at r))))

-- ── the leaves of an owner go ──
pub pages_dropped : (m n : ℕ) (c d : Cid) (ls : List Leaf) → owner m c n d ≡ false → pages_at n (keep (λ l. not (held_by m c l)) ls) d ≡ pages_at n ls d
unfolding pages_at keep
pages_dropped m n c d [] h = refl
pages_dropped m n c d (x ∷ ls) h =
    let r = pages_dropped m n c d ls h in
    split (held_by m c x)
    (λ e. split (held_by n d x)
    (λ g.
    let p = owner_path m c x.mark x.cid e in
    let q = owner_path n d x.mark x.cid g in
    let z : owner m c n d ≡ true = rw (sym q.0 ∙ p.0, sym q.1 ∙ p.1) (owner_self m c) in
    clash z h)
    (λ g. rw (e, g) r))
    (λ e. split (held_by n d x) (λ g. rw (e, g) (ap (λ (t : List Page). x.page ∷ t) r)) (λ g. rw (e, g) r))

-- ── where no head has the owner, there is no page of it ──
pub pages_none : (m : ℕ) (c : Cid) (hs : List Head) (ls : List Leaf) → Housed hs ls → any (is_head_of m c) hs ≡ false → any (held_by m c) ls ≡ false
unfolding any
pages_none m c hs [] o h = refl
pages_none m c hs (x ∷ ls) o h =
    split (held_by m c x)
    (λ e.
    let p = owner_path m c x.mark x.cid e in
    let z : any (is_head_of m c) hs ≡ true = rw (sym p.0, sym p.1) o.0 in
    clash z h)
    (λ e. rw e (pages_none m c hs ls o.1 h))

pub pages_empty : (m : ℕ) (c : Cid) (ls : List Leaf) → any (held_by m c) ls ≡ false → pages_at m ls c ≡ []
unfolding any pages_at keep
pages_empty m c [] h = refl
pages_empty m c (x ∷ ls) h = split (held_by m c x) (λ e. let z : true ≡ false = rw e at h in clash refl z) (λ e. rw e (pages_empty m c ls (rw e at h)))

-- ── an owner's leaves turned from partial to listed ──
abbrev pub turned : Cid → Leaf → Leaf
turned c l = cond (held_by 0 c l) (record { mark = 1; cid = l.cid; page = l.page }) l

pub pages_turned : (c : Cid) (ls : List Leaf) → any (held_by 1 c) ls ≡ false → pages_at 1 (map (turned c) ls) c ≡ pages_at 0 ls c
unfolding any pages_at keep
pages_turned c [] h = refl
pages_turned c (x ∷ ls) h =
    split (held_by 1 c x)
    (λ e. let z : true ≡ false = rw e at h in clash refl z)
    (λ e.
    let r = pages_turned c ls (rw e at h) in
    split (held_by 0 c x)
    (λ g. let k = (owner_path 0 c x.mark x.cid g).1 in rw (g, k, same_refl c) (ap (λ (t : List Page). x.page ∷ t) r))
    (λ g. rw (g, e) r))

pub pages_turned_beside : (m : ℕ) (c d : Cid) (ls : List Leaf) → same d c ≡ false → pages_at m (map (turned c) ls) d ≡ pages_at m ls d
unfolding pages_at keep
pages_turned_beside m c d [] h = refl
pages_turned_beside m c d (x ∷ ls) h =
    let r = pages_turned_beside m c d ls h in
    split (held_by 0 c x)
    (λ g.
    let k : x.cid ≡ c = (owner_path 0 c x.mark x.cid g).1 in
    let z : same x.cid d ≡ false = rw k (same_sym c d ∙ h) in
    let y : (n : ℕ) → owner m d n x.cid ≡ false = λ n. split (eqb n m) (λ a. rw (a, z)) (λ a. rw a) in
    rw (g, y 1, y x.mark) r)
    (λ g. split (held_by m d x) (λ a. rw (g, a) (ap (λ (t : List Page). x.page ∷ t) r)) (λ a. rw (g, a) r))

-- ── a universe cut from an owner's leaves ──
abbrev pub cut_leaf : Cid → ℕ → Leaf → Leaf
cut_leaf c u l = cond (held_by 1 c l) (record { mark = l.mark; cid = l.cid; page = cut_page u l.page }) l

pub pages_cut : (c : Cid) (u : ℕ) (ls : List Leaf) → pages_at 1 (map (cut_leaf c u) ls) c ≡ map (cut_page u) (pages_at 1 ls c)
unfolding pages_at keep
pages_cut c u [] = refl
pages_cut c u (x ∷ ls) =
    let r = pages_cut c u ls in
    split (held_by 1 c x) (λ g. rw (g, g) (ap (λ (t : List Page). cut_page u x.page ∷ t) r)) (λ g. rw (g, g) r)

pub pages_cut_beside : (m : ℕ) (c d : Cid) (u : ℕ) (ls : List Leaf) → owner 1 c m d ≡ false → pages_at m (map (cut_leaf c u) ls) d ≡ pages_at m ls d
unfolding pages_at keep
pages_cut_beside m c d u [] h = refl
pages_cut_beside m c d u (x ∷ ls) h =
    let r = pages_cut_beside m c d u ls h in
    split (held_by 1 c x)
    (λ g. split (held_by m d x)
    (λ a.
    let p = owner_path 1 c x.mark x.cid g in
    let q = owner_path m d x.mark x.cid a in
    let z : owner 1 c m d ≡ true = rw (sym q.0 ∙ p.0, sym q.1 ∙ p.1) (owner_self 1 c) in
    clash z h)
    (λ a. rw (g, a) r))
    (λ g. split (held_by m d x) (λ a. rw (g, a) (ap (λ (t : List Page). x.page ∷ t) r)) (λ a. rw (g, a) r))

-- ── every leaf is counted once ──
-- how many heads an owner has
unfoldable pub tally : ℕ → Cid → List Head → ℕ
tally m c [] = 0
tally m c (h ∷ hs) = cond (is_head_of m c h) (suc (tally m c hs)) (tally m c hs)

tally_none : (m : ℕ) (c : Cid) (hs : List Head) → any (is_head_of m c) hs ≡ false → tally m c hs ≡ 0
unfolding tally any
tally_none m c [] h = refl
tally_none m c (x ∷ hs) h = split (is_head_of m c x) (λ e. let z : true ≡ false = rw e at h in clash refl z) (λ e. rw e (tally_none m c hs (rw e at h)))

tally_one : (m : ℕ) (c : Cid) (hs : List Head) → Single (is_head_of m c) hs → any (is_head_of m c) hs ≡ true → tally m c hs ≡ 1
unfolding tally any
tally_one m c [] s h = clash h refl
tally_one m c (x ∷ hs) s h =
    split (is_head_of m c x)
    (λ e. rw e (ap suc (tally_none m c hs (s.0 e))))
    (λ e. rw e (tally_one m c hs s.1 (rw e at h)))

-- no head of a mark that is not the owner's
tally_other : (m n : ℕ) (l : Leaf) (hs : List Head) (ls : List Leaf) → eqb l.mark m ≡ false
    → page_count (sources_at m hs (pages_at m (l ∷ ls))) ≡ page_count (sources_at m hs (pages_at m ls))
unfolding page_count sources_at pages_at keep
tally_other m n l [] ls e = refl
tally_other m n l (x ∷ hs) ls e =
    let r = tally_other m n l hs ls e in
    split (eqb x.mark m) (λ g. rw (g, e) (ap (λ (k : ℕ). length (pages_at m ls x.cid) + k) r)) (λ g. rw g r)

tally_own : (m : ℕ) (l : Leaf) (hs : List Head) (ls : List Leaf) → eqb l.mark m ≡ true
    → page_count (sources_at m hs (pages_at m (l ∷ ls))) ≡ tally m l.cid hs + page_count (sources_at m hs (pages_at m ls))
unfolding page_count sources_at pages_at keep tally
tally_own m l [] ls e = refl
tally_own m l (x ∷ hs) ls e =
    let r = tally_own m l hs ls e in
    let y = same_sym l.cid x.cid in
    split (eqb x.mark m)
    (λ g. split (same x.cid l.cid)
    (λ f. let f' : same l.cid x.cid ≡ true = y ∙ f in rw (g, e, f, f') (omega (arith, r)))
    (λ f. let f' : same l.cid x.cid ≡ false = y ∙ f in rw (g, e, f, f') (omega (arith, r))))
    (λ g. rw g r)

any_marked : (p : Head → Bool) (hs : List Head) (n : ℕ) → ((h : Head) → p h ≡ true → h.mark ≡ n) → Marked hs → any p hs ≡ true → n < 2
unfolding any
any_marked p [] n e k h = clash h refl
any_marked p (x ∷ hs) n e k h =
    split (p x)
    (λ g. let q : x.mark < 2 = k.0 in omega (arith, e x g))
    (λ g. any_marked p hs n e k.1 (rw g at h))

count_nothing : (m : ℕ) (hs : List Head) → page_count (sources_at m hs (pages_at m [])) ≡ 0
unfolding page_count sources_at pages_at keep
count_nothing m [] = refl
count_nothing m (x ∷ hs) = let r = count_nothing m hs in split (eqb x.mark m) (λ g. rw g (omega (arith, r))) (λ g. rw g r)

-- the pages held are the leaves
module _ (hs : List Head) (k : Marked hs) (s₀ : (c : Cid) → Single (is_head_of 0 c) hs) (s₁ : (c : Cid) → Single (is_head_of 1 c) hs) where
  leaves_counted : (ls : List Leaf) → Housed hs ls → page_count (sources_at 0 hs (pages_at 0 ls)) + page_count (sources_at 1 hs (pages_at 1 ls)) ≡ length ls
  leaves_counted [] o = rw (count_nothing 0 hs, count_nothing 1 hs)
  leaves_counted (l ∷ ls) o =
      let r = leaves_counted ls o.1 in
      let b : l.mark < 2 =
      any_marked (is_head_of l.mark l.cid) hs l.mark (λ h e. (owner_path l.mark l.cid h.mark h.cid e).0) k o.0 in
      split (eqb l.mark 0)
      (λ e.
      let z : l.mark ≡ 0 = eqb-true l.mark 0 e in
      let f : eqb l.mark 1 ≡ false = rw z in
      let a : any (is_head_of 0 l.cid) hs ≡ true = rw z at o.0 in
      rw (tally_own 0 l hs ls e, tally_other 1 0 l hs ls f, tally_one 0 l.cid hs (s₀ l.cid) a) (omega (arith, r)))
      (λ e.
      let n = eqb-false l.mark 0 e in
      let z : l.mark ≡ 1 = split (ltb l.mark 1) (λ q. absurd (n (omega (arith, ltb-true l.mark 1 q)))) (λ q. omega (arith, ltb-false l.mark 1 q)) in
      let f : eqb l.mark 1 ≡ true = rw z in
      let a : any (is_head_of 1 l.cid) hs ≡ true = rw z at o.0 in
      rw (tally_other 0 1 l hs ls e, tally_own 1 l hs ls f, tally_one 1 l.cid hs (s₁ l.cid) a) (omega (arith, r)))

pub held_leaves : (hs : List Head) (ls : List Leaf) → Sound hs ls → pages_held (view_of hs ls) ≡ length ls
unfolding view_of
held_leaves hs ls s =
    leaves_counted hs s.marked (λ c. single_heads 0 c hs (pages_at 0 ls) s.ordered.partial_once) (λ c. single_heads 1 c hs (pages_at 1 ls) s.ordered.listed_once) ls s.housed

-- and the sources are the heads
pub heads_counted : (hs : List Head) (P Q : Cid → List Page) → Marked hs → length (sources_at 0 hs P) + length (sources_at 1 hs Q) ≡ length hs
unfolding sources_at
heads_counted [] P Q k = refl
heads_counted (x ∷ hs) P Q k =
    let r = heads_counted hs P Q k.1 in
    let b : x.mark < 2 = k.0 in
    split (eqb x.mark 0)
    (λ e. let z : x.mark ≡ 0 = eqb-true x.mark 0 e in let f : eqb x.mark 1 ≡ false = rw z in rw (e, f) (omega (arith, r)))
    (λ e.
    let n = eqb-false x.mark 0 e in
    let z : x.mark ≡ 1 = split (ltb x.mark 1) (λ q. absurd (n (omega (arith, ltb-true x.mark 1 q)))) (λ q. omega (arith, ltb-false x.mark 1 q)) in
    let f : eqb x.mark 1 ≡ true = rw z in
    rw (e, f) (omega (arith, r)))

-- so there are no more heads than leaves
pub heads_leaves : (hs : List Head) (ls : List Leaf) → Sound hs ls → length hs ≤ length ls
unfolding view_of
heads_leaves hs ls s =
    omega (
      arith,
      heads_counted hs (pages_at 0 ls) (pages_at 1 ls) s.marked,
      held_leaves hs ls s,
      count_least (sources_at 0 hs (pages_at 0 ls)) s.ordered.partial_proper,
      count_least (sources_at 1 hs (pages_at 1 ls)) s.ordered.listed_proper,
    )
