-- What every call keeps: each CID once in each list, pages in order, at least one page a source, at most 64 pages.
-- Assumes nothing.
use Rattle.std.specs.Prelude.{◌≡◌, Bool, true, false, not, cond, ◌&&◌, ℕ, zero, suc, ◌+◌, ◌≤◌, ◌<◌, leb, eqb, length}
use Rattle.std.proofs.Math.Path.{refl}
use Rattle.std.proofs.Common.{sym, ap, ◌∙◌, arith, length-append, leb-true, leb-false, le-leb}
use Rattle.std.proofs.Math.Option.{none, some}
use mathlib.Core.List.{List, [], ◌∷◌, ◌++◌, map}
use Rattle.std.proofs.lemmas.List.{length-map}
use Rattle.std.proofs.lemmas.Bool.{lt-leb}
use Rattle.laws.specs.Cases.{split, clash, found, missing}
use Rattle.laws.specs.Table.{keep, any, length_keep, keep_all}
use Rattle.laws.specs.Place.{prefix, insert_at}
use Rattle.rules.specs.declared.Cid.{Cid}
use Rattle.rules.specs.Cid.{same}
use Rattle.rules.proofs.CidLaws.{same_refl, same_path}
use Rattle.discovery.specs.Discovery.{Page, Source, Discovered, Announcement, lookup, drop_source, relisted, updated, in_place, sorted, complete, page_of, extended, begun, Note, begin, extend, list, noted, noting, page_count, pages_held, capacity, most_universes, taken, overfull, arrived, cut_page, cut, ended, current, swept, Once, Rising, ProperPage, ProperPages, Proper, AllProper, Ordered}
use Rattle.discovery.proofs.Laws.{same_sym, lookup_cid, none_lookup, lookup_drop, any_keep}
use Rattle.discovery.specs.Kept.{Fitting, Least, Notable, noted_source, pages_of}

-- ── each CID once ──
once_keep : (p : Source → Bool) (ss : List Source) → Once ss → Once (keep p ss)
unfolding keep
once_keep p [] o = tt
once_keep p (s ∷ ss) o =
    let r = once_keep p ss o.1 in
    let q = any_keep s.cid p ss o.0 in
    split (p s) (λ h. rw h (q, r)) (λ h. rw h r)

-- sources changed in their places, each with its CID
module _ (f : Source → Source) (e : (s : Source) → (f s).cid ≡ s.cid) where
  any_changed : (c : Cid) (ss : List Source) → any (λ t. same t.cid c) (map f ss) ≡ any (λ t. same t.cid c) ss
  unfolding any
  any_changed c [] = refl
  any_changed c (s ∷ ss) = rw (e s, any_changed c ss)

  pub once_changed : (ss : List Source) → Once ss → Once (map f ss)
  once_changed [] o = tt
  once_changed (s ∷ ss) o = (rw (e s) (any_changed s.cid ss ∙ o.0), once_changed ss o.1)

pub any_append : {A : Type 0} (p : A → Bool) (ss ts : List A) → any p (ss ++ ts) ≡ cond (any p ss) true (any p ts)
unfolding any
any_append p [] ts = refl
any_append p (s ∷ ss) ts = let r = any_append p ss ts in split (p s) (λ h. cc) (λ h. cc)

pub once_append : (ss : List Source) (s : Source) → any (λ t. same t.cid s.cid) ss ≡ false → Once ss → Once (ss ++ s ∷ [])
unfolding any
once_append [] s h o = (refl, tt)
once_append (t ∷ ss) s h o =
    split (same t.cid s.cid)
    (λ e. let z : true ≡ false = rw e at h in clash refl z)
    (λ e.
    let a = any_append (λ x. same x.cid t.cid) ss (s ∷ []) in
    let b = same_sym t.cid s.cid in
    let c = o.0 in
    ((cc), once_append ss s (rw e at h) o.1))

any_dropped : (c : Cid) (ss : List Source) → any (λ t. same t.cid c) (drop_source c ss) ≡ false
any_dropped c ss = none_lookup c (drop_source c ss) (lookup_drop c c ss ∙ (rw (same_refl c)))

pub once_drop : (c : Cid) (ss : List Source) → Once ss → Once (drop_source c ss)
unfolding drop_source
once_drop c ss o = once_keep (λ s. not (same s.cid c)) ss o

once_relisted : (s : Source) (ss : List Source) → Once ss → Once (relisted s ss)
unfolding relisted
once_relisted s ss o = once_append (drop_source s.cid ss) s (any_dropped s.cid ss) (once_drop s.cid ss o)

replaced_cid : (s t : Source) → (cond (same t.cid s.cid) s t).cid ≡ t.cid
replaced_cid s t = split (same t.cid s.cid) (λ h. rw h (sym (same_path t.cid s.cid h))) (λ h. rw h)

once_updated : (s : Source) (ss : List Source) → Once ss → Once (updated s ss)
unfolding updated
once_updated s ss o = once_changed (λ t. cond (same t.cid s.cid) s t) (replaced_cid s) ss o

cut_cid : (c : Cid) (u : ℕ) (s : Source) → (cond (same s.cid c) (cut u s) s).cid ≡ s.cid
unfolding cut
cut_cid c u s = split (same s.cid c) (λ h. rw h) (λ h. rw h)

-- ── pages in the order of their numbers ──
length_in_place : (p : Page) (ps : List Page) → length (in_place p ps) ≡ suc (length ps)
unfolding in_place
length_in_place p [] = refl
length_in_place p (q ∷ qs) =
    let r = length_in_place p qs in
    split (leb p.number q.number) (λ h. rw h) (λ h. rw h (ap suc r))

least_weaker : (j k : ℕ) (ps : List Page) → j ≤ k → Least k ps → Least j ps
unfolding any
least_weaker j k [] h l = refl
least_weaker j k (p ∷ ps) h l =
    split (leb k p.number)
    (λ e. rw (le-leb j p.number (omega (arith, leb-true k p.number e))) (least_weaker j k ps h (rw e at l)))
    (λ e. let z : true ≡ false = rw e at l in clash refl z)

least_in_place : (k : ℕ) (p : Page) (ps : List Page) → k ≤ p.number → Least k ps → Least k (in_place p ps)
unfolding any in_place
least_in_place k p [] h l = rw (le-leb k p.number h)
least_in_place k p (q ∷ qs) h l =
    split (leb k q.number)
    (λ e.
    let r = least_in_place k p qs h (rw e at l) in
    let f = le-leb k p.number h in
    let g : any (λ q. not (leb k q.number)) qs ≡ false = rw e at l in
    split (leb p.number q.number) (λ i. cc) (λ i. cc))
    (λ e. let z : true ≡ false = rw e at l in clash refl z)

rising_in_place : (p : Page) (ps : List Page) → Rising ps → Rising (in_place p ps)
unfolding any in_place
rising_in_place p [] r = (refl, tt)
rising_in_place p (q ∷ qs) r =
    split (leb p.number q.number)
    (λ e. rw (e, e) (least_weaker p.number q.number qs (leb-true p.number q.number e) r.0, r))
    (λ e. rw e (least_in_place q.number p qs (omega (arith, leb-false p.number q.number e)) r.0, rising_in_place p qs r.1))

pub rising_sorted : (ps : List Page) → Rising (sorted ps)
unfolding sorted
rising_sorted [] = tt
rising_sorted (p ∷ ps) = rising_in_place p (sorted ps) (rising_sorted ps)

-- a page before which none is larger stays in front
in_place_least : (p : Page) (ps : List Page) → Least p.number ps → in_place p ps ≡ p ∷ ps
unfolding any in_place
in_place_least p [] l = refl
in_place_least p (q ∷ qs) l =
    split (leb p.number q.number) (λ e. rw e) (λ e. let z : true ≡ false = rw e at l in clash refl z)

-- no page of a list is in front of one that is smaller than all
prefix_none : (k : ℕ) (ps : List Page) (j : ℕ) → k < j → Least j ps → prefix (λ q. leb q.number k) ps ≡ 0
unfolding any prefix
prefix_none k [] j h l = refl
prefix_none k (q ∷ qs) j h l =
    split (leb j q.number)
    (λ e. rw (lt-leb q.number k (omega (arith, leb-true j q.number e))))
    (λ e. let z : true ≡ false = rw e at l in clash refl z)

least_insert : (k : ℕ) (i : ℕ) (p : Page) (ps : List Page) → k ≤ p.number → Least k ps → Least k (insert_at i p ps)
unfolding any
least_insert k zero p ps h l = rw (le-leb k p.number h) l
least_insert k (suc i) p [] h l = rw (le-leb k p.number h)
least_insert k (suc i) p (q ∷ qs) h l =
    split (leb k q.number)
    (λ e. rw e (least_insert k i p qs h (rw e at l)))
    (λ e. let z : true ≡ false = rw e at l in clash refl z)

-- a page added to pages in order goes behind those of no larger number
pub sorted_added : (p : Page) (ps : List Page) → Rising ps → sorted (ps ++ p ∷ []) ≡ insert_at (prefix (λ q. leb q.number p.number) ps) p ps
unfolding sorted in_place prefix
sorted_added p [] r = refl
sorted_added p (q ∷ qs) r =
    let k = prefix (λ x. leb x.number p.number) qs in
    let e = sorted_added p qs r.1 in
    split (leb q.number p.number)
    (λ h. rw (e, h) (in_place_least q (insert_at k p qs) (least_insert q.number k p qs (leb-true q.number p.number h) r.0)))
    (λ h.
    let lt : p.number < q.number = omega (arith, leb-false q.number p.number h) in
    let z = prefix_none p.number qs q.number lt r.0 in
    rw (e, h, z, h) (ap (λ (l : List Page). p ∷ l) (in_place_least q qs r.0)))

pub length_sorted : (ps : List Page) → length (sorted ps) ≡ length ps
unfolding sorted
length_sorted [] = refl
length_sorted (p ∷ ps) = length_in_place p (sorted ps) ∙ ap suc (length_sorted ps)

-- ── pages within their count of universes ──
proper_in_place : (p : Page) (ps : List Page) → ProperPage p → ProperPages ps → ProperPages (in_place p ps)
unfolding in_place
proper_in_place p [] h r = (h, tt)
proper_in_place p (q ∷ qs) h r =
    split (leb p.number q.number) (λ e. rw e (h, r)) (λ e. rw e (r.0, proper_in_place p qs h r.1))

proper_sorted : (ps : List Page) → ProperPages ps → ProperPages (sorted ps)
unfolding sorted
proper_sorted [] r = tt
proper_sorted (p ∷ ps) r = proper_in_place p (sorted ps) r.0 (proper_sorted ps r.1)

proper_append : (ps : List Page) (p : Page) → ProperPages ps → ProperPage p → ProperPages (ps ++ p ∷ [])
proper_append [] p r h = (h, tt)
proper_append (q ∷ ps) p r h = (r.0, proper_append ps p r.1 h)

proper_cut_pages : (u : ℕ) (ps : List Page) → ProperPages ps → ProperPages (map (cut_page u) ps)
unfolding cut_page
proper_cut_pages u [] r = tt
proper_cut_pages u (p ∷ ps) r =
    let k : length p.universes ≤ most_universes = r.0.few_universes in
    (record { few_universes = omega (arith, length_keep (λ v. not (eqb v u)) p.universes) }, proper_cut_pages u ps r.1)

least_cut : (u k : ℕ) (ps : List Page) → Least k ps → Least k (map (cut_page u) ps)
unfolding any cut_page
least_cut u k [] l = refl
least_cut u k (p ∷ ps) l =
    split (leb k p.number) (λ e. rw e (least_cut u k ps (rw e at l))) (λ e. let z : true ≡ false = rw e at l in clash refl z)

rising_cut : (u : ℕ) (ps : List Page) → Rising ps → Rising (map (cut_page u) ps)
unfolding cut_page
rising_cut u [] r = tt
rising_cut u (p ∷ ps) r = (least_cut u p.number ps r.0, rising_cut u ps r.1)

pub proper_begun : (now : ℕ) (a : Announcement) → Fitting a → Proper (begun now a)
unfolding begun any
proper_begun now a f = record {
  short_name = f.short_name;
  some_page = omega arith;
  rising = (refl, tt);
  proper_pages = (record { few_universes = f.few_universes }, tt);
}

pub proper_extended : (now : ℕ) (a : Announcement) (s : Source) → Fitting a → Proper s → Proper (extended now a s)
unfolding extended
proper_extended now a s f p =
    let ps = s.pages ++ page_of a ∷ [] in
    record {
      short_name = p.short_name;
      some_page = omega (arith, length_sorted ps, length-append s.pages (page_of a ∷ []));
      rising = rising_sorted ps;
      proper_pages = proper_sorted ps (proper_append s.pages (page_of a) p.proper_pages (record { few_universes = f.few_universes }));
    }

pub proper_cut : (u : ℕ) (s : Source) → Proper s → Proper (cut u s)
unfolding cut
proper_cut u s p = record {
  short_name = p.short_name;
  some_page = let k : 1 ≤ length s.pages = p.some_page in omega (arith, length-map s.pages (cut_page u));
  rising = rising_cut u s.pages p.rising;
  proper_pages = proper_cut_pages u s.pages p.proper_pages;
}

pub all_append : (ss : List Source) (s : Source) → AllProper ss → Proper s → AllProper (ss ++ s ∷ [])
all_append [] s a p = (p, tt)
all_append (t ∷ ss) s a p = (a.0, all_append ss s a.1 p)

pub all_keep : (p : Source → Bool) (ss : List Source) → AllProper ss → AllProper (keep p ss)
unfolding keep
all_keep p [] a = tt
all_keep p (s ∷ ss) a = let r = all_keep p ss a.1 in split (p s) (λ h. rw h (a.0, r)) (λ h. rw h r)

all_updated : (s : Source) (ss : List Source) → AllProper ss → Proper s → AllProper (updated s ss)
unfolding updated
all_updated s [] a p = tt
all_updated s (t ∷ ss) a p =
    let r = all_updated s ss a.1 p in
    split (same t.cid s.cid) (λ h. rw h (p, r)) (λ h. rw h (a.0, r))

all_cut : (c : Cid) (u : ℕ) (ss : List Source) → AllProper ss → AllProper (map (λ s. cond (same s.cid c) (cut u s) s) ss)
all_cut c u [] a = tt
all_cut c u (s ∷ ss) a =
    let r = all_cut c u ss a.1 in
    split (same s.cid c) (λ h. rw h (proper_cut u s a.0, r)) (λ h. rw h (a.0, r))

pub proper_lookup : (c : Cid) (ss : List Source) (s : Source) → AllProper ss → lookup c ss ≡ some s → Proper s
unfolding lookup
proper_lookup c [] s a h = missing {C = Proper s} s h refl
proper_lookup c (t ∷ ss) s a h =
    split (same t.cid c)
    (λ e. let p : t ≡ s = cc in rw p at a.0)
    (λ e. proper_lookup c ss s a.1 (rw e at h))

pub count_append : (ss : List Source) (s : Source) → page_count (ss ++ s ∷ []) ≡ page_count ss + length s.pages
unfolding page_count
count_append [] s = omega arith
count_append (t ∷ ss) s = omega (arith, count_append ss s)

pub count_keep : (p : Source → Bool) (ss : List Source) → page_count (keep p ss) ≤ page_count ss
unfolding page_count keep
count_keep p [] = omega arith
count_keep p (s ∷ ss) = let r = count_keep p ss in split (p s) (λ h. rw h (omega arith)) (λ h. rw h (omega arith))

pub dropped_none : (c : Cid) (ss : List Source) → any (λ t. same t.cid c) ss ≡ false → drop_source c ss ≡ ss
unfolding drop_source
dropped_none c ss h = keep_all (λ s. not (same s.cid c)) (λ s. same s.cid c) ss (λ s e. rw e) h

-- a source's pages go with it
pub count_drop : (c : Cid) (ss : List Source) → Once ss → pages_of (lookup c ss) + page_count (drop_source c ss) ≡ page_count ss
unfolding page_count lookup drop_source keep
count_drop c [] o = refl
count_drop c (s ∷ ss) o =
    split (same s.cid c)
    (λ h.
    let q : any (λ t. same t.cid c) ss ≡ false = rw (same_path s.cid c h) at o.0 in
    rw h (ap (λ (l : List Source). length s.pages + page_count l) (dropped_none c ss q)))
    (λ h. let r = count_drop c ss o.1 in rw h (omega arith))

pub updated_none : (s : Source) (ss : List Source) → any (λ t. same t.cid s.cid) ss ≡ false → updated s ss ≡ ss
unfolding updated any
updated_none s [] h = refl
updated_none s (t ∷ ss) h =
    split (same t.cid s.cid)
    (λ e. let z : true ≡ false = rw e at h in clash refl z)
    (λ e. let r = updated_none s ss (rw e at h) in cc)

pub count_updated : (s t : Source) (ss : List Source) → Once ss → lookup s.cid ss ≡ some t
    → page_count (updated s ss) + length t.pages ≡ page_count ss + length s.pages
unfolding page_count lookup updated
count_updated s t [] o h = missing {C = page_count (updated s []) + length t.pages ≡ page_count [] + length s.pages} t h refl
count_updated s t (x ∷ ss) o h =
    split (same x.cid s.cid)
    (λ e.
    let q : any (λ t. same t.cid s.cid) ss ≡ false = rw (same_path x.cid s.cid e) at o.0 in
    let p : x ≡ t = cc in
    let r = ap page_count (updated_none s ss q) in
    let k = ap (λ (y : Source). length y.pages) p in
    rw e (omega arith))
    (λ e. let r = count_updated s t ss o.1 (rw e at h) in rw e (omega arith))

count_cut : (c : Cid) (u : ℕ) (ss : List Source) → page_count (map (λ s. cond (same s.cid c) (cut u s) s) ss) ≡ page_count ss
unfolding page_count cut
count_cut c u [] = refl
count_cut c u (s ∷ ss) =
    let r = count_cut c u ss in
    split (same s.cid c) (λ h. rw (h, r, length-map s.pages (cut_page u))) (λ h. rw (h, r))

-- every source of a list has a page
pub count_least : (ss : List Source) → AllProper ss → length ss ≤ page_count ss
unfolding page_count
count_least [] a = omega arith
count_least (s ∷ ss) a = let k : 1 ≤ length s.pages = a.0.some_page in omega (arith, count_least ss a.1)

-- at most one page more is held; listing may free some
pub held_noting : (n : Note) (d : Discovered) → Ordered d → Notable n d → pages_held (noting n d) ≤ suc (pages_held d)
unfolding noting relisted
held_noting (begin s) d o f = omega (arith, count_append d.partial s, f.1)
held_noting (extend s) d o f = omega (arith, f.2, count_updated s f.0 d.partial o.partial_once f.1)
held_noting (list s) d o f =
    omega (arith, count_drop s.cid d.partial o.partial_once, count_append (drop_source s.cid d.listed) s, count_drop s.cid d.listed o.listed_once)

pub ordered_noting : (n : Note) (d : Discovered) → Ordered d → Notable n d → Proper (noted_source n) → pages_held d < capacity → Ordered (noting n d)
unfolding noting relisted drop_source
ordered_noting (begin s) d o f p h = record {
  partial_once = once_append d.partial s (none_lookup s.cid d.partial f.0) o.partial_once;
  listed_once = o.listed_once;
  partial_proper = all_append d.partial s o.partial_proper p;
  listed_proper = o.listed_proper;
  fit = omega (arith, held_noting (begin s) d o f);
}
ordered_noting (extend s) d o f p h = record {
  partial_once = once_updated s d.partial o.partial_once;
  listed_once = o.listed_once;
  partial_proper = all_updated s d.partial o.partial_proper p;
  listed_proper = o.listed_proper;
  fit = omega (arith, held_noting (extend s) d o f);
}
ordered_noting (list s) d o f p h = record {
  partial_once = once_drop s.cid d.partial o.partial_once;
  listed_once = once_relisted s d.listed o.listed_once;
  partial_proper = all_keep (λ t. not (same t.cid s.cid)) d.partial o.partial_proper;
  listed_proper = all_append (keep (λ t. not (same t.cid s.cid)) d.listed) s (all_keep (λ t. not (same t.cid s.cid)) d.listed o.listed_proper) p;
  fit = omega (arith, held_noting (list s) d o f);
}

pub length_extended : (now : ℕ) (a : Announcement) (s : Source) → length (extended now a s).pages ≡ suc (length s.pages)
unfolding extended
length_extended now a s = omega (arith, length_sorted (s.pages ++ page_of a ∷ []), length-append s.pages (page_of a ∷ []))

-- a source extended has its CID
pub lookup_extended : (now : ℕ) (a : Announcement) (t : Source) (ss : List Source) → lookup a.cid ss ≡ some t → lookup (extended now a t).cid ss ≡ some t
unfolding extended
lookup_extended now a t ss e = ap (λ (c : Cid). lookup c ss) (lookup_cid a.cid ss t e) ∙ e

notable_first : (b : Bool) (d : Discovered) (s : Source) → lookup s.cid d.partial ≡ none → length s.pages ≡ 1 → Notable (cond b (list s) (begin s)) d
notable_first true d s e l = rw e l
notable_first false d s e l = (e, l)

notable_next : (b : Bool) (d : Discovered) (s t : Source) → lookup s.cid d.partial ≡ some t → length s.pages ≡ suc (length t.pages)
    → Notable (cond b (list s) (extend s)) d
notable_next true d s t e l = rw e l
notable_next false d s t e l = (t, e, l)

-- what an arrival notes fits
pub notable_noted : (now : ℕ) (a : Announcement) (d : Discovered) → Notable (noted now a (lookup a.cid d.partial)) d
unfolding noted begun extended
notable_noted now a d =
    found {C = Notable (noted now a (lookup a.cid d.partial)) d} (lookup a.cid d.partial)
    (λ e. rw e (notable_first (eqb a.page 0 && eqb a.last_page 0) d (begun now a) e refl))
    (λ t e. rw e (notable_next (complete (extended now a t)) d (extended now a t) t (lookup_extended now a t d.partial e) (length_extended now a t)))

source_either : (b : Bool) (s : Source) → noted_source (cond b (list s) (begin s)) ≡ s
source_either true s = refl
source_either false s = refl

source_extend : (b : Bool) (s : Source) → noted_source (cond b (list s) (extend s)) ≡ s
source_extend true s = refl
source_extend false s = refl

pub proper_noted : (now : ℕ) (a : Announcement) (ss : List Source) → AllProper ss → Fitting a → Proper (noted_source (noted now a (lookup a.cid ss)))
unfolding noted
proper_noted now a ss all f =
    found {C = Proper (noted_source (noted now a (lookup a.cid ss)))} (lookup a.cid ss)
    (λ e. rw (e, source_either (eqb a.page 0 && eqb a.last_page 0) (begun now a)) (proper_begun now a f))
    (λ t e. rw (e, source_extend (complete (extended now a t)) (extended now a t)) (proper_extended now a t f (proper_lookup a.cid ss t all e)))

module _ (now : ℕ) (a : Announcement) (d : Discovered) (o : Ordered d) where
  pub held_taken : pages_held (taken now a d).0 ≤ suc (pages_held d)
  unfolding taken
  held_taken = held_noting (noted now a (lookup a.cid d.partial)) d o (notable_noted now a d)

  pub ordered_taken : Fitting a → pages_held d < capacity → Ordered (taken now a d).0
  unfolding taken
  ordered_taken f h =
      ordered_noting (noted now a (lookup a.cid d.partial)) d o (notable_noted now a d) (proper_noted now a d.partial o.partial_proper f) h

  pub ordered_arrived : Fitting a → Ordered (arrived now a d).0
  unfolding arrived
  ordered_arrived f =
      split (overfull a d)
      (λ h. rw h o)
      (λ h. rw h (ordered_taken f (leb-false capacity (pages_held d) h)))

pub held_ended : (c : Cid) (u : ℕ) (d : Discovered) → pages_held (ended c u d) ≡ pages_held d
unfolding ended
held_ended c u d = ap (λ (n : ℕ). page_count d.partial + n) (count_cut c u d.listed)

pub ordered_ended : (c : Cid) (u : ℕ) (d : Discovered) → Ordered d → Ordered (ended c u d)
unfolding ended
ordered_ended c u d o = record {
  partial_once = o.partial_once;
  listed_once = once_changed (λ s. cond (same s.cid c) (cut u s) s) (cut_cid c u) d.listed o.listed_once;
  partial_proper = o.partial_proper;
  listed_proper = all_cut c u d.listed o.listed_proper;
  fit = let k : pages_held d ≤ capacity = o.fit in omega (arith, count_cut c u d.listed);
}

pub held_swept : (time now : ℕ) (d : Discovered) → pages_held (swept time now d) ≤ pages_held d
unfolding swept
held_swept time now d = omega (arith, count_keep (current time now) d.partial, count_keep (current time now) d.listed)

pub ordered_swept : (time now : ℕ) (d : Discovered) → Ordered d → Ordered (swept time now d)
unfolding swept
ordered_swept time now d o = record {
  partial_once = once_keep (current time now) d.partial o.partial_once;
  listed_once = once_keep (current time now) d.listed o.listed_once;
  partial_proper = all_keep (current time now) d.partial o.partial_proper;
  listed_proper = all_keep (current time now) d.listed o.listed_proper;
  fit = let k : pages_held d ≤ capacity = o.fit in omega (arith, count_keep (current time now) d.partial, count_keep (current time now) d.listed);
}
