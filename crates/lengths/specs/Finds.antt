-- What a finding says of the lengths that were tested.
-- Assumes nothing.
use Rattle.std.specs.Prelude.{◌≡◌, refl, List, ◌⊎◌, ℕ, ◌≤◌, ltb, length, Ok, Err}
use Rattle.std.proofs.Common.{sym, ap, ◌∙◌, inl, inr, arith, ltb-false}
use Rattle.std.proofs.Math.Option.{Option, none, some}
use Rattle.laws.specs.Cases.{split, missing}
use Rattle.rules.specs.Answer.{first_of}
use Rattle.merge.specs.Merge.{most_values}
use Rattle.discovery.specs.Discovery.{Announcement, most_name, most_universes}
use Rattle.model.specs.Packet.{DataPacket, SyncPacket, data_packet, sync_packet, discovery_packet, too_long, over as longer}
use Rattle.model.specs.Step.{short}
use Rattle.lengths.specs.declared.LengthError.TheVariants as refused
use Rattle.lengths.specs.Space.{Measured, shortage, excess}

-- the length that a packet's own parts gave
abbrev pub long_of : Measured → Option ℕ
long_of (Ok fits) = none
long_of (Err (refused.TooLong n)) = some n
long_of (Err (refused.TooShort n)) = none

pub short_of : (x : Measured) (o : Option ℕ) (n : ℕ) → x ≡ shortage o → x ≡ Err (refused.TooShort n) → o ≡ some n
short_of x none n e f = let z : ◌≡◌ {A = ℕ} 0 1 = cc in absurd (omega arith)
short_of x (some k) n e f = let z : k ≡ n = cc in ap {B = Option ℕ} some z

-- by the places of the cases in the enum, as a test tells them
module _ (tag : Measured → ℕ) where
  pub not_short : ((n : ℕ) → tag (Err (refused.TooShort n)) ≡ 2) → (x : Measured) (o : Option ℕ) → x ≡ shortage o → (tag x ≡ 0) ⊎ (tag x ≡ 1) → o ≡ none
  not_short t x none e k = refl
  not_short t x (some n) e (inl k) = let z : ◌≡◌ {A = ℕ} 2 0 = sym (ap tag e ∙ t n) ∙ k in absurd (omega arith)
  not_short t x (some n) e (inr k) = let z : ◌≡◌ {A = ℕ} 2 1 = sym (ap tag e ∙ t n) ∙ k in absurd (omega arith)

  pub not_long : ((n : ℕ) → tag (Err (refused.TooLong n)) ≡ 1) → (x : Measured) → (tag x ≡ 0) ⊎ (tag x ≡ 2) → long_of x ≡ none
  not_long t (Ok fits) k = refl
  not_long t (Err (refused.TooLong n)) (inl k) = let z : ◌≡◌ {A = ℕ} 1 0 = sym (t n) ∙ k in absurd (omega arith)
  not_long t (Err (refused.TooLong n)) (inr k) = let z : ◌≡◌ {A = ℕ} 1 2 = sym (t n) ∙ k in absurd (omega arith)
  not_long t (Err (refused.TooShort n)) k = refl

-- what a store that is long enough says of its length
pub room_for : (needed room : ℕ) → short needed room ≡ none → needed ≤ room
room_for needed room e = split (ltb room needed) (λ h. missing _ refl (rw h at e)) (λ h. ltb-false room needed h)

pub first_none : (a b : Option ℕ) → first_of a b ≡ none → (a ≡ none) × (b ≡ none)
first_none none b e = (refl, e)
first_none (some n) b e = missing n refl e

-- the packet's own parts, as measured
pub long_of_lem : (o : Option ℕ) → long_of (excess o) ≡ o
long_of_lem none = refl
long_of_lem (some n) = refl

over_room : (most : ℕ) (part : List ℕ) → longer most part ≡ none → length part ≤ most
unfolding longer
over_room most part e = split (ltb most (length part)) (λ h. missing _ refl (rw h at e)) (λ h. ltb-false most (length part) h)

pub long_data : (d : DataPacket) (x : Measured) → x ≡ excess (longer most_values d.values) → too_long (data_packet d) ≡ long_of x
unfolding too_long
long_data d x e = sym (ap long_of e ∙ long_of_lem _)

pub long_sync : (y : SyncPacket) → too_long (sync_packet y) ≡ none
unfolding too_long
long_sync y = refl

pub long_announcement : (a : Announcement) (x : Measured) → x ≡ excess (first_of (longer most_name a.name) (longer most_universes a.universes)) → too_long (discovery_packet a) ≡ long_of x
unfolding too_long
long_announcement a x e = sym (ap long_of e ∙ long_of_lem _)

pub values_fit : (d : DataPacket) → too_long (data_packet d) ≡ none → length d.values ≤ most_values
unfolding too_long
values_fit d e = over_room most_values d.values e

pub name_fits : (a : Announcement) → too_long (discovery_packet a) ≡ none → length a.name ≤ most_name
unfolding too_long
name_fits a e = over_room most_name a.name (first_none _ _ e).0

pub list_fits : (a : Announcement) → too_long (discovery_packet a) ≡ none → length a.universes ≤ most_universes
unfolding too_long
list_fits a e = over_room most_universes a.universes (first_none (longer most_name a.name) (longer most_universes a.universes) e).1
