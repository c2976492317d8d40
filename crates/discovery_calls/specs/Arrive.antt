-- A page's arrival, case by case, against its definition.
-- Assumes nothing.
use Rattle.std.specs.Prelude.{◌≡◌, Bool, not, ◌&&◌, List, [], ◌∷◌, ℕ, zero, suc, ◌+◌, ◌≤◌, ◌<◌, eqb, length, take, drop, get_or}
use Rattle.std.proofs.Math.Path.{refl, sym, ap}
use Rattle.std.proofs.Common.{◌∙◌, arith, length-take, get_or-take}
use Rattle.std.proofs.Math.Bool.{true, false}
use Rattle.std.proofs.Math.Option.{none, some}
use borrow.Author.Tests.{le-leb, lt-leb, lt-ltb, le-ltb}
use Rattle.laws.specs.Cases.{split, clash, missing}
use Rattle.laws.specs.Table.{keep, any}
use Rattle.laws.specs.Place.{prefix}
use Rattle.rules.specs.declared.Cid.{Cid}
use Rattle.rules.specs.Cid.{same}
use Rattle.rules.proofs.CidLaws.{same_refl}
use Rattle.discovery_calls.specs.declared.Discovery.{Discovery}
use Rattle.laws.specs.declared.After.{After}
use Rattle.discovery.specs.declared.PageAnswer.{PageAnswer}
use Rattle.discovery.specs.declared.PageCall.{PageCall}
use Rattle.discovery.specs.declared.PageCall.TheVariants.{Done, TooLong}
use Rattle.discovery.specs.declared.PageAnswer.TheVariants.{Taken, Listed, PagesFull}
use Rattle.discovery.specs.Discovery.{Source, Discovered, Announcement, Note, begin, extend, list, told, lookup, drop_source, relisted, updated, numbered, complete, extended, begun, noted, noting, taken, arrived, too_long, page_call, number_of, call_number, pages_held, capacity, overfull, most_name, most_universes}
use Rattle.discovery_pages.specs.Lent.{Lent, lent_none, lent_then}
use Rattle.discovery.proofs.Laws.{none_lookup, lookup_cid, partial_noting, extended_cid, extended_last}
use Rattle.discovery.proofs.KeptLaws.{dropped_none, count_keep}
use Rattle.discovery_rows.specs.Store.{Head, is_head_of, pages_at, view_of, lookup_pages}
use Rattle.discovery_calls.specs.Moves.{without, with_source, lookup_head}
use Rattle.discovery_rows.specs.Rows.{owned, head_of, heads, leaves, amount, in_turn}
use Rattle.discovery_calls.specs.View.{heads_of, leaves_of, discovered_of, Kept, Holds, Dropped, kept_held, heads_prefix, heads_get_d}
use Rattle.discovery_calls.specs.Calls.{headless}

-- what a page's arrival leaves and answers
pub record Took (lent_pool : List ℕ) (r : After Discovery PageAnswer) (S N P : List (List ℕ)) (U : List ℕ) (e : Discovered × PageAnswer) : Type 0 where
  pub kept : Kept r.left S N P U
  pub seen : discovered_of r.left S N P U ≡ e.0
  pub answered : r.answer ≡ e.1
  pub lent : Lent lent_pool U

-- ── no partial entry ──
module _ (d : Discovery) (S N P : List (List ℕ)) (U : List ℕ) (now : ℕ) (a : Announcement) (absent : any (is_head_of 0 a.cid) (heads_of d S N) ≡ false) where
  unseen : lookup a.cid (discovered_of d S N P U).partial ≡ none
  unfolding discovered_of view_of
  unseen = headless 0 a.cid (heads_of d S N) (pages_at 0 (leaves_of d P U)) absent

  -- a partial entry is begun
  pub took_begun : (e : Discovery) (S' N' P' : List (List ℕ)) (U' : List ℕ) → (eqb a.page 0 && eqb a.last_page 0) ≡ false
      → Holds U e S' N' P' U' (with_source 0 (begun now a) (discovered_of d S N P U))
      → Took U (record { left = e; answer = Taken }) S' N' P' U' (taken now a (discovered_of d S N P U))
  unfolding taken noted noting
  took_begun e S' N' P' U' f h = record {
    kept = h.kept;
    seen = rw (unseen, f) h.seen;
    answered = rw (unseen, f);
    lent = h.lent;
  }

  -- page 0 with last page 0 is listed
  pub took_first : (e : Discovery) (S' N' P' : List (List ℕ)) (U' : List ℕ) → (eqb a.page 0 && eqb a.last_page 0) ≡ true
      → Holds U e S' N' P' U' (with_source 1 (begun now a) (without 1 a.cid (discovered_of d S N P U)))
      → Took U (record { left = e; answer = Listed }) S' N' P' U' (taken now a (discovered_of d S N P U))
  unfolding taken noted noting relisted begun
  took_first e S' N' P' U' f h =
      let x : drop_source a.cid (discovered_of d S N P U).partial ≡ (discovered_of d S N P U).partial =
      dropped_none a.cid (discovered_of d S N P U).partial (none_lookup a.cid (discovered_of d S N P U).partial unseen) in
      record {
        kept = h.kept;
        seen = rw (unseen, f, x) h.seen;
        answered = rw (unseen, f);
        lent = h.lent;
      }

held_without : (m : ℕ) (c : Cid) (v : Discovered) → pages_held (without m c v) ≤ pages_held v
unfolding drop_source
held_without m c v =
    let p = count_keep (λ s. not (same s.cid c)) v.partial in
    let l = count_keep (λ s. not (same s.cid c)) v.listed in
    split (eqb m 0)
    (λ e. split (eqb m 1) (λ f. rw (e, f) (omega arith)) (λ f. rw (e, f) (omega arith)))
    (λ e. split (eqb m 1) (λ f. rw (e, f) (omega arith)) (λ f. rw (e, f) (omega arith)))

-- dropping a source holds no more pages
pub dropped_fewer : (m : ℕ) (c : Cid) (d : Discovery) (S N P : List (List ℕ)) (U : List ℕ) (e : Discovery) (S' N' P' : List (List ℕ)) (U' : List ℕ)
    → Kept d S N P U → Dropped m c d S N P U e S' N' P' U' → e.page_count ≤ d.page_count
dropped_fewer m c d S N P U e S' N' P' U' k g =
    let v = discovered_of d S N P U in
    omega (
      arith,
      kept_held d S N P U k,
      kept_held e S' N' P' U' g.kept,
      ap (λ (w : Discovered). pages_held w) g.view,
      held_without m c v,
    )

-- ── a partial entry ──
-- the rows hold the numbers as the pages do
pub in_turn_numbered : (c : Cid) (i n : ℕ) (rs : List (List ℕ)) (us : List ℕ) → in_turn c i n rs ≡ numbered i n (pages_at 0 (leaves rs us) c)
unfolding in_turn numbered pages_at leaves keep
in_turn_numbered c i zero rs us = refl
in_turn_numbered c i (suc n) [] us = refl
in_turn_numbered c i (suc n) (r ∷ rs) us =
    split (owned 0 c r)
    (λ h. rw h (ap (λ (b : Bool). eqb (get_or r 3 0) i && b) (in_turn_numbered c (i + 1) n rs (drop (amount r) us))))
    (λ h. rw h (in_turn_numbered c i (suc n) rs (drop (amount r) us)))

-- a source that is seen has its head
pub seen_head : (d : Discovery) (S N P : List (List ℕ)) (U : List ℕ) (c : Cid) (t : Source) → lookup c (discovered_of d S N P U).partial ≡ some t
    → any (is_head_of 0 c) (heads_of d S N) ≡ true
unfolding discovered_of view_of
seen_head d S N P U c t e =
    split (any (is_head_of 0 c) (heads_of d S N))
    (λ h. h)
    (λ h. missing {C = any (is_head_of 0 c) (heads_of d S N) ≡ true} t e (headless 0 c (heads_of d S N) (pages_at 0 (leaves_of d P U)) h))

-- the last page in the row is the source's
pub last_of : (d : Discovery) (S N P : List (List ℕ)) (U : List ℕ) (k : Kept d S N P U) (c : Cid) (at : ℕ)
    → at ≡ prefix (λ r. not (owned 0 c r)) (take d.source_count S) → at < d.source_count
    → (t : Source) → lookup c (discovered_of d S N P U).partial ≡ some t → get_or (get_or S at []) 3 0 ≡ t.last_page
unfolding discovered_of view_of heads_of
last_of d S N P U k c at place inside t e =
    let n = d.source_count in
    let x : length S ≡ capacity = k.source_rows in
    let w : n ≤ capacity = k.within in
    let h₀ : Head = record { mark = 0; cid = c; name = []; last_page = 0; reading = 0 } in
    let hs = heads (take n S) (take n N) in
    let q : at ≡ prefix (λ h. not (is_head_of 0 c h)) hs = place ∙ sym (heads_prefix 0 c (take n S) (take n N)) in
    let g : get_or hs at h₀ ≡ head_of (get_or S at []) (get_or (take n N) at []) =
    heads_get_d at (take n S) (take n N) h₀ (omega (arith, length-take n S)) ∙ ap (λ (y : List ℕ). head_of y (get_or (take n N) at [])) (get_or-take n S at [] inside) in
    let l = lookup_head 0 c h₀ hs (pages_at 0 (leaves_of d P U)) t e in
    sym (ap (λ (h : Head). h.last_page) g) ∙ ap (λ (i : ℕ). (get_or hs i h₀).last_page) q ∙ ap (λ (s : Source). s.last_page) l

pages_after : (d : Discovery) (S N P : List (List ℕ)) (U : List ℕ) (c : Cid) (s : Source) → lookup c (discovered_of d S N P U).partial ≡ some s
    → s.pages ≡ pages_at 0 (leaves (take d.page_count P) U) c
unfolding discovered_of view_of leaves_of
pages_after d S N P U c s e = lookup_pages 0 c (heads_of d S N) (pages_at 0 (leaves (take d.page_count P) U)) s e

-- an entry replaced and dropped is dropped
drop_updated : (s : Source) (ss : List Source) → drop_source s.cid (updated s ss) ≡ drop_source s.cid ss
unfolding drop_source updated keep
drop_updated s [] = refl
drop_updated s (t ∷ ss) =
    let r = drop_updated s ss in
    split (same t.cid s.cid) (λ h. rw (h, same_refl s.cid) r) (λ h. rw (h, h) (ap (λ (l : List Source). t ∷ l) r))

list_extended : (s : Source) (v : Discovered) → noting (list s) (noting (extend s) v) ≡ noting (list s) v
unfolding noting
list_extended s v = ap (λ (l : List Source). record { partial = l; listed = relisted s v.listed }) (drop_updated s v.partial)

module _ (d : Discovery) (S N P : List (List ℕ)) (U : List ℕ) (now : ℕ) (a : Announcement) (t : Source) (e : lookup a.cid (discovered_of d S N P U).partial ≡ some t)
    (d₁ : Discovery) (S₁ N₁ P₁ : List (List ℕ)) (U₁ : List ℕ) (h : Holds U d₁ S₁ N₁ P₁ U₁ (noting (extend (extended now a t)) (discovered_of d S N P U))) where
  pub seen_after : lookup a.cid (discovered_of d₁ S₁ N₁ P₁ U₁).partial ≡ some (extended now a t)
  seen_after =
      let v = discovered_of d S N P U in
      let s = extended now a t in
      let i : s.cid ≡ a.cid = extended_cid now a t ∙ lookup_cid a.cid v.partial t e in
      let j : same s.cid a.cid ≡ true = rw i (same_refl a.cid) in
      ap (λ (w : Discovered). lookup a.cid w.partial) h.seen
      ∙ partial_noting (extend s) a.cid v
      ∙ (rw (j, e))

  -- the rows tell whether it is complete
  pub complete_rows : (last : ℕ) → last ≡ t.last_page → in_turn a.cid 0 (suc last) (take d₁.page_count P₁) ≡ complete (extended now a t)
  unfolding complete
  complete_rows last l =
      in_turn_numbered a.cid 0 (suc last) (take d₁.page_count P₁) U₁
      ∙ ap (λ (n : ℕ). numbered 0 (suc n) (pages_at 0 (leaves (take d₁.page_count P₁) U₁) a.cid)) (l ∙ sym (extended_last now a t))
      ∙ ap (numbered 0 (suc (extended now a t).last_page)) (sym (pages_after d₁ S₁ N₁ P₁ U₁ a.cid (extended now a t) seen_after))

  pub took_extended : complete (extended now a t) ≡ false → Took U (record { left = d₁; answer = Taken }) S₁ N₁ P₁ U₁ (taken now a (discovered_of d S N P U))
  unfolding taken noted
  took_extended f = record {
    kept = h.kept;
    seen = rw (e, f) h.seen;
    answered = rw (e, f);
    lent = h.lent;
  }

  pub took_listed : complete (extended now a t) ≡ true → (d₂ : Discovery) (S₂ N₂ P₂ : List (List ℕ)) (U₂ : List ℕ)
      → Holds U₁ d₂ S₂ N₂ P₂ U₂ (noting (list (extended now a t)) (discovered_of d₁ S₁ N₁ P₁ U₁))
      → Took U (record { left = d₂; answer = Listed }) S₂ N₂ P₂ U₂ (taken now a (discovered_of d S N P U))
  unfolding taken noted
  took_listed f d₂ S₂ N₂ P₂ U₂ g =
      let s = extended now a t in
      let x = g.seen ∙ ap (noting (list s)) h.seen ∙ list_extended s (discovered_of d S N P U) in
      record {
        kept = g.kept;
        seen = rw (e, f) x;
        answered = rw (e, f);
        lent = lent_then h.lent g.lent;
      }

-- ── the whole arrival: "64 pages on arrival | 13" ──
pub record Arrival (d : Discovery) (S N P : List (List ℕ)) (U : List ℕ) (now : ℕ) (a : Announcement) (r : After Discovery PageAnswer) (S' N' P' : List (List ℕ)) (U' : List ℕ) : Type 0 where
  pub took : Took U r S' N' P' U' (arrived now a (discovered_of d S N P U))
  -- a page that is refused leaves all
  pub refused : overfull a (discovered_of d S N P U) ≡ true → (r.left ≡ d) × (S' ≡ S) × (N' ≡ N) × (P' ≡ P) × (U' ≡ U)

module _ (d : Discovery) (S N P : List (List ℕ)) (U : List ℕ) (k : Kept d S N P U) (now : ℕ) (a : Announcement) where
  pub arrival_full : capacity ≤ d.page_count → Arrival d S N P U now a (record { left = d; answer = PagesFull }) S N P U
  unfolding arrived
  arrival_full h =
      let f : overfull a (discovered_of d S N P U) ≡ true = rw (kept_held d S N P U k) (le-leb capacity d.page_count h) in
      record {
        took = record { kept = k; seen = rw f; answered = rw f; lent = lent_none U };
        refused = λ e. (refl, refl, refl, refl, refl);
      }

  pub arrival_taken : (r : After Discovery PageAnswer) (S' N' P' : List (List ℕ)) (U' : List ℕ) → d.page_count < capacity
      → Took U r S' N' P' U' (taken now a (discovered_of d S N P U)) → Arrival d S N P U now a r S' N' P' U'
  unfolding arrived
  arrival_taken r S' N' P' U' h t =
      let f : overfull a (discovered_of d S N P U) ≡ false = rw (kept_held d S N P U k) (lt-leb capacity d.page_count h) in
      record {
        took = rw f t;
        refused = λ e. clash e f;
      }

-- ── the call, for every input ──
pub record Called (d : Discovery) (S N P : List (List ℕ)) (U : List ℕ) (now : ℕ) (a : Announcement) (r : After Discovery PageCall) (S' N' P' : List (List ℕ)) (U' : List ℕ) : Type 0 where
  pub kept : Kept r.left S' N' P' U'
  pub seen : discovered_of r.left S' N' P' U' ≡ (page_call now a (discovered_of d S N P U)).0
  pub answered : r.answer ≡ (page_call now a (discovered_of d S N P U)).1
  pub lent : Lent U U'
  -- 'What stops a call', 1 and 13: all is left
  pub all_left : eqb (call_number r.answer) 0 ≡ false → (r.left ≡ d) × (S' ≡ S) × (N' ≡ N) × (P' ≡ P) × (U' ≡ U)

-- a page that is not too long arrives
pub page_call_fits : (now : ℕ) (a : Announcement) (v : Discovered) → length a.name ≤ most_name → length a.universes ≤ most_universes
    → page_call now a v ≡ ((arrived now a v).0, Done (arrived now a v).1)
unfolding page_call too_long
page_call_fits now a v g h = rw (le-ltb most_name (length a.name) g, le-ltb most_universes (length a.universes) h)

-- 13 is said of 64 pages only
taken_number : (n : Note) → number_of (told n) ≡ 0
taken_number (begin s) = refl
taken_number (extend s) = refl
taken_number (list s) = refl

full_number : (now : ℕ) (a : Announcement) (v : Discovered) → eqb (number_of (arrived now a v).1) 0 ≡ false → overfull a v ≡ true
unfolding arrived taken
full_number now a v e =
    split (overfull a v)
    (λ h. h)
    (λ h.
    let z : eqb (number_of (told (noted now a (lookup a.cid v.partial)))) 0 ≡ false = rw h at e in
    clash (ap (λ (n : ℕ). eqb n 0) (taken_number (noted now a (lookup a.cid v.partial)))) z)

module _ (d : Discovery) (S N P : List (List ℕ)) (U : List ℕ) (k : Kept d S N P U) (now : ℕ) (a : Announcement) where
  long_name : most_name < length a.name → too_long a ≡ some (length a.name)
  unfolding too_long
  long_name h = rw (lt-ltb most_name (length a.name) h)

  long_list : length a.name ≤ most_name → most_universes < length a.universes → too_long a ≡ some (length a.universes)
  unfolding too_long
  long_list g h = rw (le-ltb most_name (length a.name) g, lt-ltb most_universes (length a.universes) h)

  called_long : (n : ℕ) → too_long a ≡ some n → Called d S N P U now a (record { left = d; answer = TooLong n }) S N P U
  unfolding page_call
  called_long n e = record {
    kept = k;
    seen = rw e;
    answered = rw e;
    lent = lent_none U;
    all_left = λ z. (refl, refl, refl, refl, refl);
  }

  pub called_name : most_name < length a.name → Called d S N P U now a (record { left = d; answer = TooLong (length a.name) }) S N P U
  called_name h = called_long (length a.name) (long_name h)

  pub called_list : length a.name ≤ most_name → most_universes < length a.universes → Called d S N P U now a (record { left = d; answer = TooLong (length a.universes) }) S N P U
  called_list g h = called_long (length a.universes) (long_list g h)

  pub called_done : (r : After Discovery PageAnswer) (S' N' P' : List (List ℕ)) (U' : List ℕ) → length a.name ≤ most_name → length a.universes ≤ most_universes → Arrival d S N P U now a r S' N' P' U'
      → Called d S N P U now a (record { left = r.left; answer = Done r.answer }) S' N' P' U'
  called_done r S' N' P' U' g h t =
      let e = page_call_fits now a (discovered_of d S N P U) g h in
      record {
        kept = t.took.kept;
        seen = t.took.seen ∙ sym (ap (λ (x : Discovered × PageCall). x.0) e);
        answered = ap {B = PageCall} Done t.took.answered ∙ sym (ap (λ (x : Discovered × PageCall). x.1) e);
        lent = t.took.lent;
        all_left = λ z. t.refused (full_number now a (discovered_of d S N P U) (sym (ap (λ (x : PageAnswer). eqb (number_of x) 0) t.took.answered) ∙ z));
      }
