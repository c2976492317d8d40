-- What a course says of the packet.
-- Assumes nothing.
use Rattle.std.specs.Prelude.{◌≡◌, refl, Bool, true, false, not, ◌&&◌, ℕ}
use Rattle.std.proofs.Common.{sym, ◌∙◌, arith}
use Rattle.laws.specs.Cases.{split}
use Rattle.packets.specs.declared.Course.{Course}
use Rattle.packets.specs.declared.Course.TheVariants as course
use Rattle.packets.specs.View.{course_of}

-- the courses differ
arrive_end : course.Arrive ≡ course.End → ⊥
arrive_end e = let z : ◌≡◌ {A = ℕ} 0 1 = cc in absurd (omega arith)

pass_end : course.Pass ≡ course.End → ⊥
pass_end e = let z : ◌≡◌ {A = ℕ} 0 1 = cc in absurd (omega arith)

pass_arrive : course.Pass ≡ course.Arrive → ⊥
pass_arrive e = let z : ◌≡◌ {A = ℕ} 0 1 = cc in absurd (omega arith)

pub unwanted_off : (p b : Bool) → b ≡ true → false ≡ p && not b
unwanted_off true b e = rw e
unwanted_off false b e = refl

pub unwanted_on : (p b : Bool) → b ≡ false → p ≡ p && not b
unwanted_on true b e = rw e
unwanted_on false b e = refl

-- what a course says of the packet
module _ (t l : Bool) (x : Course) (e : x ≡ course_of t l) where
  pub course_end : x ≡ course.End → t ≡ true
  course_end f =
      split t
      (λ h. h)
      (λ h. split l
      (λ g. let z : course.Arrive ≡ course.End = sym (e ∙ (rw (h, g))) ∙ f in absurd (arrive_end z))
      (λ g. let z : course.Pass ≡ course.End = sym (e ∙ (rw (h, g))) ∙ f in absurd (pass_end z)))

  pub course_arrive : x ≡ course.Arrive → (t ≡ false) × (l ≡ true)
  course_arrive f =
      split t
      (λ h. let z : course.End ≡ course.Arrive = sym (e ∙ (rw h)) ∙ f in absurd (arrive_end (sym z)))
      (λ h. split l
      (λ g. (h, g))
      (λ g. let z : course.Pass ≡ course.Arrive = sym (e ∙ (rw (h, g))) ∙ f in absurd (pass_arrive z)))

  pub course_pass : x ≡ course.Pass → (t ≡ false) × (l ≡ false)
  course_pass f =
      split t
      (λ h. let z : course.End ≡ course.Pass = sym (e ∙ (rw h)) ∙ f in absurd (pass_end (sym z)))
      (λ h. split l
      (λ g. let z : course.Arrive ≡ course.Pass = sym (e ∙ (rw (h, g))) ∙ f in absurd (pass_arrive (sym z)))
      (λ g. (h, g)))
