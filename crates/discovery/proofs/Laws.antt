-- Laws of the definitions: each source by itself, what every call keeps, and calls about different sources in either order.
-- Assumes nothing.
use Rattle.std.specs.Prelude.{◌≡◌, refl, ◌≢◌, Bool, true, false, cond, ◌&&◌, List, [], ◌∷◌, ◌++◌, map, ℕ, eqb}
use Rattle.std.proofs.Common.{sym, ◌∙◌}
use Rattle.std.proofs.Math.Path.{ap}
use Rattle.std.proofs.Math.Option.{Option, none, some}
use Rattle.laws.specs.Cases.{split, clash, found, missing}
use Rattle.laws.specs.Table.{keep, any, pass}
use Rattle.rules.specs.declared.Cid.{Cid}
use Rattle.rules.specs.Cid.{same}
use Rattle.rules.proofs.CidLaws.{same_refl, same_path, same_not}
use Rattle.discovery.specs.Discovery.{Source, Discovered, Announcement, lookup, drop_source, relisted, updated, complete, extended, begun, Note, begin, extend, list, noted, noting, told, taken, cut, ended, current, swept, Once, Ordered}
use Rattle.discovery.specs.Laws.{About, Alike, cut_found, either, instead, listed_at, partial_at}

-- ── the test of a CID ──
-- CIDs that are the same test alike against a third
pub same_join : (a b c : Cid) → same a b ≡ true → same a c ≡ same b c
same_join a b c h = ap (λ (x : Cid). same x c) (same_path a b h)

pub same_sym : (a b : Cid) → same a b ≡ same b a
same_sym a b =
    split (same a b)
    (λ h. h ∙ sym (ap (λ (x : Cid). same b x) (same_path a b h) ∙ same_refl b))
    (λ h. split (same b a)
    (λ g. let q = ap (λ (x : Cid). same a x) (same_path b a g) ∙ same_refl a in clash q h)
    (λ g. h ∙ sym g))

-- ── a source extended ──
-- "The first last_page value and first name are kept"
pub extended_name : (now : ℕ) (a : Announcement) (t : Source) → (extended now a t).name ≡ t.name
unfolding extended
extended_name now a t = refl

pub extended_cid : (now : ℕ) (a : Announcement) (t : Source) → (extended now a t).cid ≡ t.cid
unfolding extended
extended_cid now a t = refl

pub extended_last : (now : ℕ) (a : Announcement) (t : Source) → (extended now a t).last_page ≡ t.last_page
unfolding extended
extended_last now a t = refl

pub lookup_cid : (c : Cid) (ss : List Source) (s : Source) → lookup c ss ≡ some s → s.cid ≡ c
unfolding lookup
lookup_cid c [] s h = missing {C = s.cid ≡ c} s h refl
lookup_cid c (t ∷ ss) s h =
    split (same t.cid c)
    (λ e. let p : t ≡ s = cc in ap (λ (x : Source). x.cid) (sym p) ∙ same_path t.cid c e)
    (λ e. lookup_cid c ss s (rw e at h))

-- no source of a CID stands in a list without one
pub lookup_none : (c : Cid) (ss : List Source) → any (λ t. same t.cid c) ss ≡ false → lookup c ss ≡ none
unfolding lookup any
lookup_none c [] h = refl
lookup_none c (t ∷ ss) h = split (same t.cid c) (λ e. let z : true ≡ false = rw e at h in clash refl z) (λ e. rw e (lookup_none c ss (rw e at h)))

pub none_lookup : (c : Cid) (ss : List Source) → lookup c ss ≡ none → any (λ t. same t.cid c) ss ≡ false
unfolding lookup any
none_lookup c [] h = refl
none_lookup c (t ∷ ss) h =
    split (same t.cid c)
    (λ e. let z : some t ≡ none = rw e at h in missing {C = any (λ t. same t.cid c) (t ∷ ss) ≡ false} t refl z)
    (λ e. rw e (none_lookup c ss (rw e at h)))

pub lookup_drop : (d c : Cid) (ss : List Source) → lookup d (drop_source c ss) ≡ cond (same c d) none (lookup d ss)
unfolding lookup drop_source keep
lookup_drop d c [] = split (same c d) (λ h. cc) (λ h. cc)
lookup_drop d c (s ∷ ss) =
    let r = lookup_drop d c ss in
    split (same s.cid c)
    (λ h. let j = same_join s.cid c d h in split (same c d) (λ g. cc) (λ g. cc))
    (λ h. split (same c d)
    (λ g. let j = same_join c d s.cid g in let k = same_sym c s.cid in let l = same_sym d s.cid in cc)
    (λ g. split (same s.cid d) (λ i. cc) (λ i. cc)))

pub lookup_append : (d : Cid) (ss ts : List Source) → lookup d (ss ++ ts) ≡ either (lookup d ss) (lookup d ts)
unfolding lookup
lookup_append d [] ts = refl
lookup_append d (s ∷ ss) ts = let r = lookup_append d ss ts in split (same s.cid d) (λ h. cc) (λ h. cc)

pub lookup_one : (d : Cid) (s : Source) → lookup d (s ∷ []) ≡ cond (same s.cid d) (some s) none
unfolding lookup
lookup_one d s = refl

pub lookup_relisted : (d : Cid) (s : Source) (ss : List Source) → lookup d (relisted s ss) ≡ cond (same s.cid d) (some s) (lookup d ss)
unfolding relisted
lookup_relisted d s ss =
    let a = lookup_append d (drop_source s.cid ss) (s ∷ []) in
    let b = lookup_drop d s.cid ss in
    let o = lookup_one d s in
    split (same s.cid d) (λ h. cc) (λ h. found (lookup d ss) (λ g. cc) (λ t g. cc))

pub lookup_updated : (d : Cid) (s : Source) (ss : List Source) → lookup d (updated s ss) ≡ cond (same s.cid d) (instead s (lookup d ss)) (lookup d ss)
unfolding lookup updated
lookup_updated d s [] = split (same s.cid d) (λ h. cc) (λ h. cc)
lookup_updated d s (t ∷ ss) =
    let r = lookup_updated d s ss in
    split (same t.cid s.cid)
    (λ h. let j = same_join t.cid s.cid d h in split (same s.cid d) (λ g. cc) (λ g. cc))
    (λ h. split (same t.cid d)
    (λ g. let j = same_join t.cid d s.cid g in let k = same_sym d s.cid in cc)
    (λ g. cc))

pub lookup_cut : (d c : Cid) (u : ℕ) (ss : List Source)
    → lookup d (map (λ s. cond (same s.cid c) (cut u s) s) ss) ≡ cond (same c d) (cut_found u (lookup d ss)) (lookup d ss)
unfolding lookup cut
lookup_cut d c u [] = split (same c d) (λ h. cc) (λ h. cc)
lookup_cut d c u (s ∷ ss) =
    let r = lookup_cut d c u ss in
    split (same s.cid c)
    (λ h. let j = same_join s.cid c d h in split (same c d) (λ g. cc) (λ g. cc))
    (λ h. split (same s.cid d)
    (λ g. let j = same_join s.cid d c g in let k = same_sym d c in cc)
    (λ g. cc))

-- what is kept of a list without the CID has none of it
pub any_keep : (c : Cid) (p : Source → Bool) (ss : List Source) → any (λ t. same t.cid c) ss ≡ false → any (λ t. same t.cid c) (keep p ss) ≡ false
unfolding any keep
any_keep c p [] h = refl
any_keep c p (s ∷ ss) h =
    split (same s.cid c)
    (λ e. let z : true ≡ false = rw e at h in clash refl z)
    (λ e. let r = any_keep c p ss (rw e at h) in split (p s) (λ g. cc) (λ g. cc))

pub lookup_keep : (d : Cid) (p : Source → Bool) (ss : List Source) → Once ss → lookup d (keep p ss) ≡ pass p (lookup d ss)
unfolding lookup keep
lookup_keep d p [] o = refl
lookup_keep d p (s ∷ ss) o =
    let r = lookup_keep d p ss o.1 in
    split (same s.cid d)
    (λ h.
    let q : any (λ t. same t.cid d) ss ≡ false = rw (same_path s.cid d h) at o.0 in
    let n = lookup_none d (keep p ss) (any_keep d p ss q) in
    split (p s) (λ g. cc) (λ g. cc))
    (λ h. split (p s) (λ g. cc) (λ g. cc))

pub partial_noting : (n : Note) (d : Cid) (k : Discovered) → lookup d (noting n k).partial ≡ partial_at n d (lookup d k.partial)
unfolding noting
partial_noting (begin s) d k = rw (lookup_append d k.partial (s ∷ []), lookup_one d s)
partial_noting (extend s) d k = lookup_updated d s k.partial
partial_noting (list s) d k = lookup_drop d s.cid k.partial

pub listed_noting : (n : Note) (d : Cid) (k : Discovered) → lookup d (noting n k).listed ≡ listed_at n d (lookup d k.listed)
unfolding noting
listed_noting (begin s) d k = refl
listed_noting (extend s) d k = refl
listed_noting (list s) d k = lookup_relisted d s k.listed

pub partial_ended : (c d : Cid) (u : ℕ) (k : Discovered) → lookup d (ended c u k).partial ≡ lookup d k.partial
unfolding ended
partial_ended c d u k = refl

pub listed_ended : (c d : Cid) (u : ℕ) (k : Discovered) → lookup d (ended c u k).listed ≡ cond (same c d) (cut_found u (lookup d k.listed)) (lookup d k.listed)
unfolding ended
listed_ended c d u k = lookup_cut d c u k.listed

pub partial_swept : (time now : ℕ) (d : Cid) (k : Discovered) → Once k.partial → lookup d (swept time now k).partial ≡ pass (current time now) (lookup d k.partial)
unfolding swept
partial_swept time now d k o = lookup_keep d (current time now) k.partial o

pub listed_swept : (time now : ℕ) (d : Cid) (k : Discovered) → Once k.listed → lookup d (swept time now k).listed ≡ pass (current time now) (lookup d k.listed)
unfolding swept
listed_swept time now d k o = lookup_keep d (current time now) k.listed o

-- it leaves what is known of any other
pub partial_other : (n : Note) (c d : Cid) (o : Option Source) → About c n → d ≢ c → partial_at n d o ≡ o
partial_other (begin s) c d o a h = let e = same_not s.cid d (λ q. h (sym q ∙ a)) in found o (λ g. cc) (λ t g. cc)
partial_other (extend s) c d o a h = let e = same_not s.cid d (λ q. h (sym q ∙ a)) in cc
partial_other (list s) c d o a h = let e = same_not s.cid d (λ q. h (sym q ∙ a)) in cc

pub listed_other : (n : Note) (c d : Cid) (o : Option Source) → About c n → d ≢ c → listed_at n d o ≡ o
listed_other (begin s) c d o a h = refl
listed_other (extend s) c d o a h = refl
listed_other (list s) c d o a h = let e = same_not s.cid d (λ q. h (sym q ∙ a)) in cc

about_either : (b : Bool) (c : Cid) (s : Source) → s.cid ≡ c → About c (cond b (list s) (begin s))
about_either true c s h = h
about_either false c s h = h

about_extend : (b : Bool) (c : Cid) (s : Source) → s.cid ≡ c → About c (cond b (list s) (extend s))
about_extend true c s h = h
about_extend false c s h = h

-- what a page's arrival notes is about its CID
pub about_noted : (now : ℕ) (a : Announcement) (ss : List Source) → About a.cid (noted now a (lookup a.cid ss))
unfolding noted begun extended
about_noted now a ss =
    found {C = About a.cid (noted now a (lookup a.cid ss))} (lookup a.cid ss)
    (λ e. rw e (about_either (eqb a.page 0 && eqb a.last_page 0) a.cid (begun now a) refl))
    (λ s e. rw e (about_extend (complete (extended now a s)) a.cid (extended now a s) (lookup_cid a.cid ss s e)))

pub alike_refl : (k : Discovered) → Alike k k
alike_refl k = record { partials = λ c. refl; listeds = λ c. refl }

pub alike_sym : {k l : Discovered} → Alike k l → Alike l k
alike_sym a = record { partials = λ c. sym (a.partials c); listeds = λ c. sym (a.listeds c) }

pub alike_trans : {k l m : Discovered} → Alike k l → Alike l m → Alike k m
alike_trans a b = record { partials = λ c. a.partials c ∙ b.partials c; listeds = λ c. a.listeds c ∙ b.listeds c }

pub alike_noting : (n : Note) (k l : Discovered) → Alike k l → Alike (noting n k) (noting n l)
alike_noting n k l a = record {
  partials = λ c. partial_noting n c k ∙ ap (partial_at n c) (a.partials c) ∙ sym (partial_noting n c l);
  listeds = λ c. listed_noting n c k ∙ ap (listed_at n c) (a.listeds c) ∙ sym (listed_noting n c l);
}

pub alike_ended : (c : Cid) (u : ℕ) (k l : Discovered) → Alike k l → Alike (ended c u k) (ended c u l)
alike_ended c u k l a = record {
  partials = λ d. partial_ended c d u k ∙ a.partials d ∙ sym (partial_ended c d u l);
  listeds = λ d. cc (listed_ended c d u k, listed_ended c d u l, a.listeds d);
}

pub alike_swept : (time now : ℕ) (k l : Discovered) → Ordered k → Ordered l → Alike k l → Alike (swept time now k) (swept time now l)
alike_swept time now k l p q a = record {
  partials = λ d.
      partial_swept time now d k p.partial_once ∙ ap (pass (current time now)) (a.partials d) ∙ sym (partial_swept time now d l q.partial_once);
  listeds = λ d.
      listed_swept time now d k p.listed_once ∙ ap (pass (current time now)) (a.listeds d) ∙ sym (listed_swept time now d l q.listed_once);
}

-- what an arrival notes depends on its own source alone
pub noted_alike : (now : ℕ) (a : Announcement) (k l : Discovered) → Alike k l
    → noted now a (lookup a.cid k.partial) ≡ noted now a (lookup a.cid l.partial)
noted_alike now a k l h = ap (noted now a) (h.partials a.cid)

pub alike_taken : (now : ℕ) (a : Announcement) (k l : Discovered) → Alike k l
    → Alike (taken now a k).0 (taken now a l).0 × ((taken now a k).1 ≡ (taken now a l).1)
unfolding taken
alike_taken now a k l h =
    let e = noted_alike now a k l h in
    (rw (sym e) (alike_noting (noted now a (lookup a.cid k.partial)) k l h), ap told e)

-- ── two calls about different sources, in either order ──
module _ (m n : Note) (c d : Cid) (k : Discovered) (a : About c m) (b : About d n) (h : c ≢ d) where
  pub noting_noting : Alike (noting m (noting n k)) (noting n (noting m k))
  noting_noting = record {
    partials = λ i.
        let x = partial_noting m i (noting n k) in
        let y = partial_noting n i k in
        let z = partial_noting n i (noting m k) in
        let w = partial_noting m i k in
        split (same i c)
        (λ e.
        let q : i ≢ d = λ q. h (sym (same_path i c e) ∙ q) in
        cc (partial_other n d i (lookup i k.partial) b q, partial_other n d i (lookup i (noting m k).partial) b q))
        (λ e.
        let q : i ≢ c = λ q. clash (ap (λ (j : Cid). same j c) q ∙ same_refl c) e in
        cc (partial_other m c i (lookup i k.partial) a q, partial_other m c i (lookup i (noting n k).partial) a q));
    listeds = λ i.
        let x = listed_noting m i (noting n k) in
        let y = listed_noting n i k in
        let z = listed_noting n i (noting m k) in
        let w = listed_noting m i k in
        split (same i c)
        (λ e.
        let q : i ≢ d = λ q. h (sym (same_path i c e) ∙ q) in
        cc (listed_other n d i (lookup i k.listed) b q, listed_other n d i (lookup i (noting m k).listed) b q))
        (λ e.
        let q : i ≢ c = λ q. clash (ap (λ (j : Cid). same j c) q ∙ same_refl c) e in
        cc (listed_other m c i (lookup i k.listed) a q, listed_other m c i (lookup i (noting n k).listed) a q));
  }

-- a note about one source does not change what an arrival of another notes
pub noted_other : (now : ℕ) (a : Announcement) (n : Note) (c : Cid) (k : Discovered) → About c n → a.cid ≢ c
    → noted now a (lookup a.cid (noting n k).partial) ≡ noted now a (lookup a.cid k.partial)
noted_other now a n c k b h =
    ap (noted now a) (partial_noting n a.cid k ∙ partial_other n c a.cid (lookup a.cid k.partial) b h)

module _ (now now' : ℕ) (a b : Announcement) (k : Discovered) (h : a.cid ≢ b.cid) where
  m : Note
  m = noted now a (lookup a.cid k.partial)

  n : Note
  n = noted now' b (lookup b.cid k.partial)

  -- two arrivals of different sources: the same answers, and alike source by source
  pub taken_taken : Alike (taken now a (taken now' b k).0).0 (taken now' b (taken now a k).0).0
      × ((taken now a (taken now' b k).0).1 ≡ (taken now a k).1)
      × ((taken now' b (taken now a k).0).1 ≡ (taken now' b k).1)
  unfolding taken m n
  taken_taken =
      let x = about_noted now a k.partial in
      let y = about_noted now' b k.partial in
      let e = noted_other now a n b.cid k y h in
      let f = noted_other now' b m a.cid k x (λ q. h (sym q)) in
      (rw (e, f) (noting_noting m n a.cid b.cid k x y h), ap told e, ap told f)

-- a universe that ends at one source, and a note about another
pub noting_ended : (n : Note) (c d : Cid) (u : ℕ) (k : Discovered) → About c n → c ≢ d → Alike (noting n (ended d u k)) (ended d u (noting n k))
noting_ended n c d u k a h = record {
  partials = λ i. cc (partial_noting n i (ended d u k), partial_ended d i u k, partial_ended d i u (noting n k), partial_noting n i k);
  listeds = λ i.
      let x = listed_noting n i (ended d u k) in
      let y = listed_ended d i u k in
      let z = listed_ended d i u (noting n k) in
      let w = listed_noting n i k in
      split (same d i)
      (λ e.
      let q : i ≢ c = λ q. h (sym q ∙ sym (same_path d i e)) in
      cc (listed_other n c i (lookup i k.listed) a q, listed_other n c i (lookup i (ended d u k).listed) a q))
      (λ e. cc);
}

pub ended_ended : (c d : Cid) (u v : ℕ) (k : Discovered) → c ≢ d → Alike (ended c u (ended d v k)) (ended d v (ended c u k))
ended_ended c d u v k h = record {
  partials = λ i. cc (partial_ended c i u (ended d v k), partial_ended d i v k, partial_ended d i v (ended c u k), partial_ended c i u k);
  listeds = λ i.
      let x = listed_ended c i u (ended d v k) in
      let y = listed_ended d i v k in
      let z = listed_ended d i v (ended c u k) in
      let w = listed_ended c i u k in
      split (same c i)
      (λ e. let q = same_not d i (λ q. h (same_path c i e ∙ sym q)) in cc)
      (λ e. split (same d i) (λ g. cc) (λ g. cc));
}
