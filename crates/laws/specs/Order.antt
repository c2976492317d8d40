-- Strict orders of keys, given by a test: numbers, and two orders one after the other.
-- Assumes nothing.
use Rattle.std.specs.Prelude.{◌≡◌, ◌≢◌, Bool, cond, ltb}
use Rattle.std.proofs.Common.{arith, ltb-true, ltb-false, lt-ltb, le-ltb}
use Rattle.std.proofs.Math.Bool.{true, false}
use Rattle.laws.specs.Cases.{split, clash}

-- what makes a test a strict order in which any two keys can be compared
pub record Order {K : Type 0} (lt : K → K → Bool) : Type 0 where
  pub irrefl : (a : K) → lt a a ≡ false
  pub trans : (a b c : K) → lt a b ≡ true → lt b c ≡ true → lt a c ≡ true
  pub total : (a b : K) → lt a b ≡ false → lt b a ≡ false → a ≡ b

module _ {K : Type 0} (lt : K → K → Bool) (O : Order lt) where
  pub asym : (a b : K) → lt a b ≡ true → lt b a ≡ false
  asym a b h = split (lt b a) (λ g. clash (O.trans a b a h g) (O.irrefl a)) (λ g. g)

  -- the three cases of two keys
  pub tri {ℓ} : {C : Type ℓ} (a b : K) → (lt a b ≡ true → lt b a ≡ false → C) → (a ≡ b → C) → (lt a b ≡ false → lt b a ≡ true → C) → C
  tri a b f g h = split (lt a b) (λ p. f p (asym a b p)) (λ p. split (lt b a) (λ q. h p q) (λ q. g (O.total a b p q)))

  -- the two cases
  pub keyed {ℓ} : {C : Type ℓ} (a b : K) → (a ≡ b → C) → (a ≢ b → C) → C
  keyed a b f g = tri a b (λ p q. g (λ e. clash p (rw e (O.irrefl b)))) f (λ p q. g (λ e. clash q (rw e (O.irrefl b))))

  -- a key that is not less, and another one, is greater
  pub beyond : (a b : K) → lt a b ≡ false → a ≢ b → lt b a ≡ true
  beyond a b h n = tri a b (λ p q. clash p h) (λ e. absurd (n e)) (λ p q. q)

  -- two keys that differ are less one way or the other
  pub differs : (a b : K) → a ≢ b → cond (lt a b) true (lt b a) ≡ true
  differs a b n = tri a b (λ p q. cc) (λ f. absurd (n f)) (λ p q. cc)

-- the order of numbers
pub ℕOrder : Order ltb
ℕOrder = record {
  irrefl = λ a. le-ltb a a (omega arith);
  trans = λ a b c p q. lt-ltb a c (omega (arith, ltb-true a b p, ltb-true b c q));
  total = λ a b p q. omega (arith, ltb-false a b p, ltb-false b a q);
}

-- by the first part, and where that is the same by the second
unfoldable pub before_by : {K X Y : Type 0} → (X → X → Bool) → (Y → Y → Bool) → (K → X) → (K → Y) → K → K → Bool
before_by ltx lty first second a b =
    cond (ltx (first a) (first b)) true (cond (ltx (first b) (first a)) false (lty (second a) (second b)))

-- it is an order where the two parts are all there is to a key
module _ {K X Y : Type 0} (ltx : X → X → Bool) (lty : Y → Y → Bool) (first : K → X) (second : K → Y) (O : Order ltx) (P : Order lty)
    (whole : (a b : K) → first a ≡ first b → second a ≡ second b → a ≡ b) where
  lt : K → K → Bool
  lt a b = before_by ltx lty first second a b

  pub order_by : Order (before_by ltx lty first second)
  unfolding before_by
  order_by = record {
    irrefl = λ a. let i = O.irrefl (first a) in let j = P.irrefl (second a) in cc;
    trans = λ a b c p q.
        tri ltx O (first a) (first b)
        (λ f g. tri ltx O (first b) (first c)
        (λ f' g'. let t = O.trans (first a) (first b) (first c) f f' in cc)
        (λ e. cc)
        (λ f' g'. let z : false ≡ true = cc in cc))
        (λ e. tri ltx O (first b) (first c)
        (λ f' g'. cc)
        (λ e'. let i = O.irrefl (first a) in let t = P.trans (second a) (second b) (second c) (cc) (cc) in cc)
        (λ f' g'. let z : false ≡ true = cc in cc))
        (λ f g. let z : false ≡ true = cc in cc);
    total = λ a b p q.
        tri ltx O (first a) (first b)
        (λ f g. let z : false ≡ true = cc in cc)
        (λ e. let i = O.irrefl (first a) in whole a b e (P.total (second a) (second b) (cc) (cc)))
        (λ f g. let z : false ≡ true = cc in cc);
  }
