-- What the code's moves on heads and leaves make of the sources seen, and that each keeps them sound.
-- Assumes nothing.
use Rattle.std.specs.Prelude.{◌≡◌, Bool, cond, ℕ, zero, suc, ◌≤◌, ◌<◌, length, get_or, set}
use Rattle.std.proofs.Math.Path.{refl, sym, ap}
use Rattle.std.proofs.Common.{◌∙◌, arith, eqb-true, eq-eqb}
use Rattle.std.proofs.Math.Bool.{true, false, not}
use Rattle.std.proofs.Math.Option.{some}
use mathlib.Core.List.{List, [], ◌∷◌, ◌++◌, map, append-nil}
use Rattle.std.proofs.Math.Dec.{leb, eqb}
use Rattle.laws.specs.Cases.{split, clash, missing}
use Rattle.laws.specs.Table.{keep, any}
use Rattle.laws.specs.Place.{prefix, insert_at}
use Rattle.rules.specs.declared.Cid.{Cid}
use Rattle.rules.specs.Cid.{same}
use Rattle.rules.proofs.CidLaws.{same_refl, same_path}
use Rattle.discovery.specs.Discovery.{Page, Source, Discovered, lookup, drop_source, updated, pages_held, capacity, cut_page, cut, ended, Ordered, Proper}
use Rattle.discovery.proofs.Laws.{same_sym, lookup_none}
use Rattle.discovery.proofs.KeptLaws.{once_drop, all_keep, count_keep, once_append, all_append, count_append, ordered_ended, any_append}
use Rattle.discovery_rows.specs.Store.{Head, Leaf, owner, is_head_of, held_by, pages_at, source_of, sources_at, view_of, Marked, Housed, Sound, owner_path, owner_self, any_sources, sources_alike, sources_beside, sources_dropped, sources_dropped_other, sources_append, sources_append_other, lookup_pages, renewed, sources_renewed}
use Rattle.discovery_pages.specs.Leaves.{pages_beside, behind, pages_placed, pages_dropped, pages_none, pages_empty, turned, pages_turned, pages_turned_beside, cut_leaf, pages_cut, pages_cut_beside, held_leaves}

-- ── an owner goes ──
abbrev pub without : ℕ → Cid → Discovered → Discovered
without m c d = record {
  partial = cond (eqb m 0) (drop_source c d.partial) d.partial;
  listed = cond (eqb m 1) (drop_source c d.listed) d.listed;
}

abbrev pub others : ℕ → Cid → List Head → List Head
others m c hs = keep (λ h. not (is_head_of m c h)) hs

abbrev pub leaves_of_others : ℕ → Cid → List Leaf → List Leaf
leaves_of_others m c ls = keep (λ l. not (held_by m c l)) ls

module _ (m : ℕ) (c : Cid) where
  sources_without : (k : ℕ) (hs : List Head) (ls : List Leaf)
      → sources_at k (others m c hs) (pages_at k (leaves_of_others m c ls))
      ≡ cond (eqb m k) (drop_source c (sources_at k hs (pages_at k ls))) (sources_at k hs (pages_at k ls))
  sources_without k hs ls =
      split (eqb m k)
      (λ e.
      let p : m ≡ k = eqb-true m k e in
      rw (e, p)
      (sources_dropped k c hs (pages_at k ls) (pages_at k (leaves_of_others k c ls))
      (λ d h. pages_dropped k k c d ls (rw (eq-eqb k k refl) h))))
      (λ e.
      let f : (d : Cid) → owner m c k d ≡ false = λ d. split (eqb k m) (λ g. clash (eq-eqb m k (sym (eqb-true k m g))) e) (λ g. rw g) in
      rw e
      (sources_alike k (others m c hs) (pages_at k (leaves_of_others m c ls)) (pages_at k ls) (λ d. pages_dropped m k c d ls (f d))
      ∙ sources_dropped_other k m c hs (pages_at k ls) e))

  pub view_dropped : (hs : List Head) (ls : List Leaf) → view_of (others m c hs) (leaves_of_others m c ls) ≡ without m c (view_of hs ls)
  unfolding view_of
  view_dropped hs ls =
      let p = sources_without 0 hs ls in
      let q = sources_without 1 hs ls in
      λ i. record { partial = p i; listed = q i }

  pub ordered_without : (d : Discovered) → Ordered d → Ordered (without m c d)
  unfolding drop_source
  ordered_without d o =
      let k : pages_held d ≤ capacity = o.fit in
      let p = count_keep (λ s. not (same s.cid c)) d.partial in
      let l = count_keep (λ s. not (same s.cid c)) d.listed in
      record {
        partial_once = split (eqb m 0) (λ e. rw e (once_drop c d.partial o.partial_once)) (λ e. rw e o.partial_once);
        listed_once = split (eqb m 1) (λ e. rw e (once_drop c d.listed o.listed_once)) (λ e. rw e o.listed_once);
        partial_proper = split (eqb m 0) (λ e. rw e (all_keep (λ s. not (same s.cid c)) d.partial o.partial_proper)) (λ e. rw e o.partial_proper);
        listed_proper = split (eqb m 1) (λ e. rw e (all_keep (λ s. not (same s.cid c)) d.listed o.listed_proper)) (λ e. rw e o.listed_proper);
        fit = split (eqb m 0)
            (λ e. split (eqb m 1) (λ f. rw (e, f) (omega arith)) (λ f. rw (e, f) (omega arith)))
            (λ e. split (eqb m 1) (λ f. rw (e, f) (omega arith)) (λ f. rw (e, f) (omega arith)));
      }

  marked_keep : (p : Head → Bool) (hs : List Head) → Marked hs → Marked (keep p hs)
  unfolding keep
  marked_keep p [] k = tt
  marked_keep p (x ∷ hs) k = let r = marked_keep p hs k.1 in split (p x) (λ e. rw e (k.0, r)) (λ e. rw e r)

  -- an owner other than the one that goes still has its head
  any_others : (n : ℕ) (d : Cid) (hs : List Head) → owner m c n d ≡ false → any (is_head_of n d) (others m c hs) ≡ any (is_head_of n d) hs
  unfolding any keep
  any_others n d [] h = refl
  any_others n d (x ∷ hs) h =
      let r = any_others n d hs h in
      split (is_head_of m c x)
      (λ e. split (is_head_of n d x)
      (λ f.
      let p = owner_path m c x.mark x.cid e in
      let q = owner_path n d x.mark x.cid f in
      let z : owner m c n d ≡ true = rw (sym q.0 ∙ p.0, sym q.1 ∙ p.1) (owner_self m c) in
      clash z h)
      (λ f. rw (e, f) r))
      (λ e. split (is_head_of n d x) (λ f. rw (e, f)) (λ f. rw (e, f) r))

  housed_others : (hs : List Head) (ls : List Leaf) → Housed hs ls → Housed (others m c hs) (leaves_of_others m c ls)
  unfolding keep
  housed_others hs [] o = tt
  housed_others hs (l ∷ ls) o =
      let r = housed_others hs ls o.1 in
      split (held_by m c l)
      (λ e. rw e r)
      (λ e. rw e (any_others l.mark l.cid hs e ∙ o.0, r))

  pub sound_dropped : (hs : List Head) (ls : List Leaf) → Sound hs ls → Sound (others m c hs) (leaves_of_others m c ls)
  sound_dropped hs ls s = record {
    marked = marked_keep (λ h. not (is_head_of m c h)) hs s.marked;
    housed = housed_others hs ls s.housed;
    ordered = rw (view_dropped hs ls) (ordered_without (view_of hs ls) s.ordered);
  }

-- ── a source with one page comes ──
abbrev pub with_source : ℕ → Source → Discovered → Discovered
with_source m s d = record {
  partial = cond (eqb m 0) (d.partial ++ s ∷ []) d.partial;
  listed = cond (eqb m 1) (d.listed ++ s ∷ []) d.listed;
}

pages_append : (m : ℕ) (d : Cid) (l : Leaf) (ls : List Leaf) → pages_at m (ls ++ l ∷ []) d ≡ pages_at m ls d ++ cond (held_by m d l) (l.page ∷ []) []
unfolding pages_at keep
pages_append m d l [] = split (held_by m d l) (λ e. rw e) (λ e. rw e)
pages_append m d l (x ∷ ls) = let r = pages_append m d l ls in split (held_by m d x) (λ e. rw e (ap (λ (t : List Page). x.page ∷ t) r)) (λ e. rw e r)

ordered_with : (m : ℕ) (s : Source) (d : Discovered) → Ordered d → Proper s → length s.pages ≡ 1 → pages_held d < capacity
    → (eqb m 0 ≡ true → any (λ t. same t.cid s.cid) d.partial ≡ false)
    → (eqb m 1 ≡ true → any (λ t. same t.cid s.cid) d.listed ≡ false) → Ordered (with_source m s d)
ordered_with m s d o q l f x y =
    let p = count_append d.partial s in
    let r = count_append d.listed s in
    let k : pages_held d ≤ capacity = o.fit in
    record {
      partial_once = split (eqb m 0) (λ e. rw e (once_append d.partial s (x e) o.partial_once)) (λ e. rw e o.partial_once);
      listed_once = split (eqb m 1) (λ e. rw e (once_append d.listed s (y e) o.listed_once)) (λ e. rw e o.listed_once);
      partial_proper = split (eqb m 0) (λ e. rw e (all_append d.partial s o.partial_proper q)) (λ e. rw e o.partial_proper);
      listed_proper = split (eqb m 1) (λ e. rw e (all_append d.listed s o.listed_proper q)) (λ e. rw e o.listed_proper);
      fit = split (eqb m 0)
          (λ e. split (eqb m 1) (λ g. absurd (omega (arith, eqb-true m 0 e, eqb-true m 1 g))) (λ g. rw (e, g) (omega arith)))
          (λ e. split (eqb m 1) (λ g. rw (e, g) (omega arith)) (λ g. rw (e, g) (omega arith)));
    }

marked_append : (hs : List Head) (h : Head) → Marked hs → h.mark < 2 → Marked (hs ++ h ∷ [])
marked_append [] h k e = (e, tt)
marked_append (x ∷ hs) h k e = (k.0, marked_append hs h k.1 e)

housed_more : (hs : List Head) (h : Head) (ls : List Leaf) → Housed hs ls → Housed (hs ++ h ∷ []) ls
housed_more hs h [] o = tt
housed_more hs h (l ∷ ls) o = (any_append (is_head_of l.mark l.cid) hs (h ∷ []) ∙ (rw o.0), housed_more hs h ls o.1)

housed_append : (hs : List Head) (l : Leaf) (ls : List Leaf) → Housed hs ls → any (is_head_of l.mark l.cid) hs ≡ true → Housed hs (ls ++ l ∷ [])
housed_append hs l [] o e = (e, tt)
housed_append hs l (x ∷ ls) o e = (o.0, housed_append hs l ls o.1 e)

module _ (h : Head) (p : Page) where
  abbrev pub leaf_of : Leaf
  leaf_of = record { mark = h.mark; cid = h.cid; page = p }

  sources_with : (k : ℕ) (hs : List Head) (ls : List Leaf) → Housed hs ls → any (is_head_of h.mark h.cid) hs ≡ false
      → sources_at k (hs ++ h ∷ []) (pages_at k (ls ++ leaf_of ∷ []))
      ≡ cond (eqb h.mark k) (sources_at k hs (pages_at k ls) ++ source_of (λ d. p ∷ []) h ∷ []) (sources_at k hs (pages_at k ls))
  sources_with k hs ls o a =
      split (eqb h.mark k)
      (λ e.
      let m : h.mark ≡ k = eqb-true h.mark k e in
      let a' : any (is_head_of k h.cid) hs ≡ false = rw m at a in
      let b : (d : Cid) → same d h.cid ≡ false → pages_at k (ls ++ leaf_of ∷ []) d ≡ pages_at k ls d = λ d g.
      pages_append k d leaf_of ls ∙ (rw (e, same_sym h.cid d ∙ g) (append-nil (pages_at k ls d))) in
      let n : pages_at k (ls ++ leaf_of ∷ []) h.cid ≡ p ∷ [] =
      pages_append k h.cid leaf_of ls ∙ (rw (e, same_refl h.cid, pages_empty k h.cid ls (pages_none k h.cid hs ls o a'))) in
      let s = sources_append k hs h (pages_at k (ls ++ leaf_of ∷ [])) m in
      let t = sources_beside k h.cid hs (pages_at k (ls ++ leaf_of ∷ [])) (pages_at k ls) a' b in
      rw e (s ∙ ap (λ (z : List Source). z ++ source_of (pages_at k (ls ++ leaf_of ∷ [])) h ∷ []) t
      ∙ ap (λ (z : List Page). sources_at k hs (pages_at k ls) ++ source_of (λ d. z) h ∷ []) n))
      (λ e.
      rw e
      (sources_append_other k hs h (pages_at k (ls ++ leaf_of ∷ [])) e
      ∙ sources_alike k hs (pages_at k (ls ++ leaf_of ∷ [])) (pages_at k ls) (λ d. pages_append k d leaf_of ls ∙ (rw e (append-nil (pages_at k ls d))))))

  pub view_with : (hs : List Head) (ls : List Leaf) → Housed hs ls → any (is_head_of h.mark h.cid) hs ≡ false
      → view_of (hs ++ h ∷ []) (ls ++ leaf_of ∷ []) ≡ with_source h.mark (source_of (λ d. p ∷ []) h) (view_of hs ls)
  unfolding view_of
  view_with hs ls o a =
      let x = sources_with 0 hs ls o a in
      let y = sources_with 1 hs ls o a in
      λ i. record { partial = x i; listed = y i }

  pub sound_with : (hs : List Head) (ls : List Leaf) → Sound hs ls → any (is_head_of h.mark h.cid) hs ≡ false → h.mark < 2
      → Proper (source_of (λ d. p ∷ []) h) → length ls < capacity → Sound (hs ++ h ∷ []) (ls ++ leaf_of ∷ [])
  unfolding view_of any
  sound_with hs ls s a m q f = record {
    marked = marked_append hs h s.marked m;
    housed = housed_append (hs ++ h ∷ []) leaf_of ls (housed_more hs h ls s.housed)
        (any_append (is_head_of h.mark h.cid) hs (h ∷ []) ∙ (rw (a, owner_self h.mark h.cid)));
    ordered = rw (view_with hs ls s.housed a) (ordered_with h.mark (source_of (λ d. p ∷ []) h) (view_of hs ls) s.ordered q refl (rw (held_leaves hs ls s) f) (none_there 0) (none_there 1));
  }
    where
      none_there : (k : ℕ) → eqb h.mark k ≡ true → any (λ t. same t.cid h.cid) (sources_at k hs (pages_at k ls)) ≡ false
      none_there k e = any_sources k h.cid hs (pages_at k ls) ∙ (rw (eqb-true h.mark k e) at a)

-- ── a source's head is renewed, and a page added ──
-- a head of another mark set
sources_set_other : (k : ℕ) (h₀ h : Head) (i : ℕ) (hs : List Head) (P : Cid → List Page) → eqb (get_or hs i h₀).mark k ≡ false → eqb h.mark k ≡ false
    → sources_at k (set hs i h) P ≡ sources_at k hs P
unfolding sources_at
sources_set_other k h₀ h i [] P e f = refl
sources_set_other k h₀ h zero (x ∷ hs) P e f = rw (e, f)
sources_set_other k h₀ h (suc i) (x ∷ hs) P e f =
    let r = sources_set_other k h₀ h i hs P e f in
    split (eqb x.mark k) (λ g. rw g (ap (λ (t : List Source). source_of P x ∷ t) r)) (λ g. rw g r)

-- the place that a walk finds has the owner
pub owner_place : (m : ℕ) (c : Cid) (h₀ : Head) (hs : List Head) → any (is_head_of m c) hs ≡ true → is_head_of m c (get_or hs (prefix (λ h. not (is_head_of m c h)) hs) h₀) ≡ true
unfolding any prefix
owner_place m c h₀ [] a = clash a refl
owner_place m c h₀ (x ∷ hs) a = split (is_head_of m c x) (λ e. rw e e) (λ e. rw e (owner_place m c h₀ hs (rw e at a)))

marked_set : (i : ℕ) (h : Head) (hs : List Head) → Marked hs → h.mark < 2 → Marked (set hs i h)
marked_set i h [] k e = tt
marked_set zero h (x ∷ hs) k e = (e, k.1)
marked_set (suc i) h (x ∷ hs) k e = (k.0, marked_set i h hs k.1 e)

-- a head renewed keeps its owner
any_renewed : (n : ℕ) (d : Cid) (now : ℕ) (h₀ : Head) (i : ℕ) (hs : List Head)
    → any (is_head_of n d) (set hs i (renewed now (get_or hs i h₀))) ≡ any (is_head_of n d) hs
unfolding any
any_renewed n d now h₀ i [] = refl
any_renewed n d now h₀ zero (x ∷ hs) = refl
any_renewed n d now h₀ (suc i) (x ∷ hs) = rw (any_renewed n d now h₀ i hs)

housed_same : (hs gs : List Head) (ls : List Leaf) → ((n : ℕ) (d : Cid) → any (is_head_of n d) gs ≡ any (is_head_of n d) hs) → Housed hs ls → Housed gs ls
housed_same hs gs [] e o = tt
housed_same hs gs (l ∷ ls) e o = (e l.mark l.cid ∙ o.0, housed_same hs gs ls e o.1)

housed_insert : (i : ℕ) (hs : List Head) (l : Leaf) (ls : List Leaf) → Housed hs ls → any (is_head_of l.mark l.cid) hs ≡ true → Housed hs (insert_at i l ls)
housed_insert zero hs l ls o e = (e, o)
housed_insert (suc i) hs l [] o e = (e, tt)
housed_insert (suc i) hs l (x ∷ ls) o e = (o.0, housed_insert i hs l ls o.1 e)

module _ (c : Cid) (now : ℕ) (p : Page) (h₀ : Head) (hs : List Head) (ls : List Leaf) (t : Source) (o : Sound hs ls)
    (e : lookup c (view_of hs ls).partial ≡ some t) where
  abbrev pub place_of : ℕ
  place_of = prefix (λ h. not (is_head_of 0 c h)) hs

  abbrev pub heads_renewed : List Head
  heads_renewed = set hs place_of (renewed now (get_or hs place_of h₀))

  abbrev pub new_leaf : Leaf
  new_leaf = record { mark = 0; cid = c; page = p }

  abbrev pub leaves_more : List Leaf
  leaves_more = insert_at (prefix (behind 0 c p.number) ls) new_leaf ls

  -- the source with the page in its place
  abbrev pub grown : Source
  grown = record {
    cid = t.cid;
    name = t.name;
    last_page = t.last_page;
    reading = now;
    pages = insert_at (prefix (λ (q : Page). leb q.number p.number) t.pages) p t.pages;
  }

  there : any (is_head_of 0 c) hs ≡ true
  unfolding view_of
  there =
      split (any (is_head_of 0 c) hs)
      (λ a. a)
      (λ a. missing {C = any (is_head_of 0 c) hs ≡ true} t e (lookup_none c (sources_at 0 hs (pages_at 0 ls)) (any_sources 0 c hs (pages_at 0 ls) ∙ a)))

  pub view_extended : view_of heads_renewed leaves_more ≡ record { partial = updated grown (view_of hs ls).partial; listed = (view_of hs ls).listed }
  unfolding view_of
  view_extended =
      let P = pages_at 0 ls in
      let Q = pages_at 0 leaves_more in
      let x : (d : Cid) → same d c ≡ false → P d ≡ Q d = λ d g. sym (pages_beside 0 d new_leaf (prefix (behind 0 c p.number) ls) ls (same_sym c d ∙ g)) in
      let k : t.pages ≡ P c = lookup_pages 0 c hs P t e in
      let y : Q c ≡ grown.pages =
      pages_placed 0 c new_leaf (same_refl c) ls
      ∙ ap (λ (ps : List Page). insert_at (prefix (λ (q : Page). leb q.number p.number) ps) p ps) (sym k) in
      let a = sources_renewed 0 c now P Q x h₀ hs t o.ordered.partial_once e in
      let u : sources_at 0 heads_renewed Q ≡ updated grown (sources_at 0 hs P) =
      a ∙ ap (λ (ps : List Page). updated (record { cid = t.cid; name = t.name; last_page = t.last_page; reading = now; pages = ps }) (sources_at 0 hs P)) y in
      let z : (get_or hs place_of h₀).mark ≡ 0 = (owner_path 0 c (get_or hs place_of h₀).mark (get_or hs place_of h₀).cid (owner_place 0 c h₀ hs there)).0 in
      let w : eqb (get_or hs place_of h₀).mark 1 ≡ false = rw z in
      let v : sources_at 1 heads_renewed (pages_at 1 leaves_more) ≡ sources_at 1 hs (pages_at 1 ls) =
      sources_set_other 1 h₀ (renewed now (get_or hs place_of h₀)) place_of hs (pages_at 1 leaves_more) w w
      ∙ sources_alike 1 hs (pages_at 1 leaves_more) (pages_at 1 ls) (λ d. pages_beside 1 d new_leaf (prefix (behind 0 c p.number) ls) ls refl) in
      λ i. record { partial = u i; listed = v i }

  pub sound_extended : Ordered (record { partial = updated grown (view_of hs ls).partial; listed = (view_of hs ls).listed }) → Sound heads_renewed leaves_more
  sound_extended q =
      let z : (get_or hs place_of h₀).mark ≡ 0 = (owner_path 0 c (get_or hs place_of h₀).mark (get_or hs place_of h₀).cid (owner_place 0 c h₀ hs there)).0 in
      record {
        marked = marked_set place_of (renewed now (get_or hs place_of h₀)) hs o.marked (omega (arith, z));
        housed = housed_insert (prefix (behind 0 c p.number) ls) heads_renewed new_leaf ls
            (housed_same hs heads_renewed ls (λ n d. any_renewed n d now h₀ place_of hs) o.housed)
            (any_renewed 0 c now h₀ place_of hs ∙ there);
        ordered = rw view_extended q;
      }

-- ── a partial source is listed ──
-- the source found is that of the head at its place
pub lookup_head : (m : ℕ) (c : Cid) (h₀ : Head) (hs : List Head) (P : Cid → List Page) (t : Source) → lookup c (sources_at m hs P) ≡ some t
    → source_of P (get_or hs (prefix (λ h. not (is_head_of m c h)) hs) h₀) ≡ t
unfolding lookup sources_at prefix
lookup_head m c h₀ [] P t e = missing {C = source_of P (get_or [] 0 h₀) ≡ t} t e refl
lookup_head m c h₀ (x ∷ hs) P t e =
    split (eqb x.mark m)
    (λ g. split (same x.cid c)
    (λ f. let q : some (source_of P x) ≡ some t = rw (g, f) at e in rw (g, f) (cc))
    (λ f. let q : lookup c (sources_at m hs P) ≡ some t = rw (g, f) at e in rw (g, f) (lookup_head m c h₀ hs P t q)))
    (λ g. rw g (lookup_head m c h₀ hs P t (rw g at e)))

abbrev pub listed_head : Head → Head
listed_head h = record { mark = 1; cid = h.cid; name = h.name; last_page = h.last_page; reading = h.reading }

module _ (c : Cid) (h₀ : Head) (hs : List Head) (ls : List Leaf) (t : Source) (o : Sound hs ls)
    (e : lookup c (view_of hs ls).partial ≡ some t) (a : any (is_head_of 1 c) hs ≡ false) where
  abbrev pub head_of : Head
  head_of = get_or hs (prefix (λ h. not (is_head_of 0 c h)) hs) h₀

  abbrev pub heads_turned : List Head
  heads_turned = others 0 c hs ++ listed_head head_of ∷ []

  the_head : any (is_head_of 0 c) hs ≡ true
  unfolding view_of
  the_head =
      split (any (is_head_of 0 c) hs)
      (λ b. b)
      (λ b. missing {C = any (is_head_of 0 c) hs ≡ true} t e (lookup_none c (sources_at 0 hs (pages_at 0 ls)) (any_sources 0 c hs (pages_at 0 ls) ∙ b)))

  the_cid : head_of.cid ≡ c
  the_cid = (owner_path 0 c head_of.mark head_of.cid (owner_place 0 c h₀ hs the_head)).1

  pub view_turned : view_of heads_turned (map (turned c) ls)
      ≡ record { partial = drop_source c (view_of hs ls).partial; listed = (view_of hs ls).listed ++ t ∷ [] }
  unfolding view_of
  view_turned =
      let P = pages_at 0 ls in
      let Q = pages_at 1 (map (turned c) ls) in
      let n : any (held_by 1 c) ls ≡ false = pages_none 1 c hs ls o.housed a in
      let x : sources_at 0 heads_turned (pages_at 0 (map (turned c) ls)) ≡ drop_source c (sources_at 0 hs P) =
      sources_append_other 0 (others 0 c hs) (listed_head head_of) (pages_at 0 (map (turned c) ls)) refl
      ∙ sources_dropped 0 c hs P (pages_at 0 (map (turned c) ls)) (λ d g. pages_turned_beside 0 c d ls g) in
      let y : sources_at 1 (others 0 c hs) Q ≡ sources_at 1 hs (pages_at 1 ls) =
      sources_dropped_other 1 0 c hs Q refl ∙ sources_beside 1 c hs Q (pages_at 1 ls) a (λ d g. pages_turned_beside 1 c d ls g) in
      let q : Q head_of.cid ≡ P head_of.cid = ap Q the_cid ∙ pages_turned c ls n ∙ sym (ap P the_cid) in
      let z : source_of Q (listed_head head_of) ≡ t =
      ap (λ (ps : List Page). source_of (λ d. ps) head_of) q ∙ lookup_head 0 c h₀ hs P t e in
      let w : sources_at 1 heads_turned Q ≡ sources_at 1 hs (pages_at 1 ls) ++ t ∷ [] =
      sources_append 1 (others 0 c hs) (listed_head head_of) Q refl
      ∙ ap (λ (ss : List Source). ss ++ source_of Q (listed_head head_of) ∷ []) y
      ∙ ap (λ (s : Source). sources_at 1 hs (pages_at 1 ls) ++ s ∷ []) z in
      λ i. record { partial = x i; listed = w i }

  housed_turned : (ks : List Leaf) → Housed hs ks → Housed heads_turned (map (turned c) ks)
  unfolding any
  housed_turned [] k = tt
  housed_turned (l ∷ ks) k =
      let r = housed_turned ks k.1 in
      split (held_by 0 c l)
      (λ g.
      let i : l.cid ≡ c = (owner_path 0 c l.mark l.cid g).1 in
      let j : same head_of.cid l.cid ≡ true = rw (the_cid, i) (same_refl c) in
      let b = any_append (is_head_of 1 l.cid) (others 0 c hs) (listed_head head_of ∷ []) in
      let f : any (is_head_of 1 l.cid) heads_turned ≡ true = b ∙ (rw j (split (any (is_head_of 1 l.cid) (others 0 c hs)) (λ v. rw v) (λ v. rw v))) in
      rw g (f, r))
      (λ g.
      let b = any_append (is_head_of l.mark l.cid) (others 0 c hs) (listed_head head_of ∷ []) in
      let f : any (is_head_of l.mark l.cid) heads_turned ≡ true = b ∙ (rw (any_others 0 c l.mark l.cid hs g, k.0)) in
      rw g (f, r))

  pub sound_turned : Ordered (record { partial = drop_source c (view_of hs ls).partial; listed = (view_of hs ls).listed ++ t ∷ [] })
      → Sound heads_turned (map (turned c) ls)
  sound_turned q = record {
    marked = marked_append (others 0 c hs) (listed_head head_of) (marked_keep 0 c (λ h. not (is_head_of 0 c h)) hs o.marked) (omega arith);
    housed = housed_turned ls o.housed;
    ordered = rw view_turned q;
  }

-- ── a universe ends ──
module _ (c : Cid) (u : ℕ) where
  sources_cut : (hs : List Head) (P Q : Cid → List Page) → Q c ≡ map (cut_page u) (P c) → ((d : Cid) → same d c ≡ false → Q d ≡ P d)
      → sources_at 1 hs Q ≡ map (λ s. cond (same s.cid c) (cut u s) s) (sources_at 1 hs P)
  unfolding sources_at cut
  sources_cut [] P Q e f = refl
  sources_cut (x ∷ hs) P Q e f =
      let r = sources_cut hs P Q e f in
      split (eqb x.mark 1)
      (λ g. split (same x.cid c)
      (λ i.
      let k : x.cid ≡ c = same_path x.cid c i in
      let q : Q x.cid ≡ map (cut_page u) (P x.cid) = ap Q k ∙ e ∙ sym (ap (λ (d : Cid). map (cut_page u) (P d)) k) in
      rw (g, i) (cc))
      (λ i. let q = f x.cid i in rw (g, i) (cc)))
      (λ g. rw g r)

  pub view_cut : (hs : List Head) (ls : List Leaf) → view_of hs (map (cut_leaf c u) ls) ≡ ended c u (view_of hs ls)
  unfolding view_of ended
  view_cut hs ls =
      let x = sources_alike 0 hs (pages_at 0 (map (cut_leaf c u) ls)) (pages_at 0 ls) (λ d. pages_cut_beside 0 c d u ls refl) in
      let y = sources_cut hs (pages_at 1 ls) (pages_at 1 (map (cut_leaf c u) ls)) (pages_cut c u ls) (λ d g. pages_cut_beside 1 c d u ls g) in
      λ i. record { partial = x i; listed = y i }

  housed_cut : (hs : List Head) (ls : List Leaf) → Housed hs ls → Housed hs (map (cut_leaf c u) ls)
  housed_cut hs [] o = tt
  housed_cut hs (l ∷ ls) o = let r = housed_cut hs ls o.1 in split (held_by 1 c l) (λ g. rw g (o.0, r)) (λ g. rw g (o.0, r))

  pub sound_cut : (hs : List Head) (ls : List Leaf) → Sound hs ls → Sound hs (map (cut_leaf c u) ls)
  sound_cut hs ls s = record {
    marked = s.marked;
    housed = housed_cut hs ls s.housed;
    ordered = rw (view_cut hs ls) (ordered_ended c u (view_of hs ls) s.ordered);
  }
