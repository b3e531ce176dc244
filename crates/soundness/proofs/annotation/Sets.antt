-- Membership in sets of names, and sets that lie in the union of two others.
use Rattle.prelude.specs.Kit.{ℕ, ℕ_discrete, true, false, Bool, false≢true, ◌||◌, ◌≡◌, refl, inl, inr, ◌≢◌, ◌⊎◌, List}
use Rattle.prelude.specs.Kit.{[], ◌∷◌, ne_eqb, eq-eqb, eqb-true}
use Rattle.semantics.specs.Code.{Atom}
use Rattle.semantics.specs.Live.{Set, empty, ◌∪◌, ◌∖◌, ◌∖∖◌, only, just, is, among}
use Rattle.laws.specs.Tests.{or_cases, or_left, or_right}

pub less_in : (A : Set) (x n : ℕ) → x ≢ n → A n ≡ true → (A ∖ x) n ≡ true
less_in A x n f e = rw (ne_eqb x n f) e

pub less_out : (A : Set) (x n : ℕ) → (A ∖ x) n ≡ true → (x ≢ n) × (A n ≡ true)
less_out A x n e = elim (ℕ_discrete x n) [
  | yes q ↦ absurd (false≢true (rw (eq-eqb x n q) at e))
  | no f ↦ (f, rw (ne_eqb x n f) at e)
]

-- ---- A lies in the union of B and C

pub record Inside (A B C : Set) : Type 0 where
  pub either : (n : ℕ) → A n ≡ true → (B n ≡ true) ⊎ (C n ≡ true)

pub inside_left : {A C : Set} → Inside A A C
inside_left = record { either = λ n e. inl e }

pub inside_right : {B C : Set} → Inside C B C
inside_right = record { either = λ n e. inr e }

pub inside_empty : {B C : Set} → Inside empty B C
inside_empty = record { either = λ n e. absurd (false≢true e) }

-- two sets that lie in the same union
pub inside_both : {A₁ A₂ B C : Set} → Inside A₁ B C → Inside A₂ B C → Inside (A₁ ∪ A₂) B C
inside_both {A₁} {A₂} h g = record {
  either = λ n e.
      elim (or_cases (A₁ n) (A₂ n) e) [ inl q ↦ h.either n q | inr q ↦ g.either n q ];
}

pub inside_trans : {A B C D : Set} → Inside A B C → Inside C B D → Inside A B D
inside_trans h g = record { either = λ n e. elim (h.either n e) [ inl q ↦ inl q | inr q ↦ g.either n q ] }

-- the left set may grow
pub inside_more : {A B C : Set} (D : Set) → ((n : ℕ) → B n ≡ true → D n ≡ true) → Inside A B C → Inside A D C
inside_more D f h = record { either = λ n e. elim (h.either n e) [ inl q ↦ inl (f n q) | inr q ↦ inr q ] }

pub inside_or : {A₁ A₂ B₁ B₂ C : Set} → Inside A₁ B₁ C → Inside A₂ B₂ C → Inside (A₁ ∪ A₂) (B₁ ∪ B₂) C
inside_or {A₁} {A₂} {B₁} {B₂} h g =
    inside_both (inside_more (B₁ ∪ B₂) (λ n e. or_left (B₁ n) (B₂ n) e) h)
    (inside_more (B₁ ∪ B₂) (λ n e. or_right (B₁ n) (B₂ n) e) g)

pub inside_with : {A B C : Set} (U : Set) → Inside A B C → Inside (U ∪ A) (U ∪ B) C
inside_with {A} {B} {C} U h = inside_or {A₁ = U} {A₂ = A} {B₁ = U} {B₂ = B} {C = C} inside_left h

pub inside_less : {A B C : Set} (x : ℕ) → Inside A B C → Inside (A ∖ x) (B ∖ x) C
inside_less {A} {B} {C} x h = record { either = λ n e. by n (less_out A x n e) }
  where
    by : (n : ℕ) → (x ≢ n) × (A n ≡ true) → ((B ∖ x) n ≡ true) ⊎ (C n ≡ true)
    by n p = elim (h.either n p.1) [ inl q ↦ inl (less_in B x n p.0 q) | inr q ↦ inr q ]

-- what is bound drops out of the scope
pub inside_bound : {A B C : Set} (x : ℕ) → Inside A (B ∪ only x) C → Inside (A ∖ x) B C
inside_bound {A} {B} {C} x h = record { either = λ n e. by n (less_out A x n e) }
  where
    by : (n : ℕ) → (x ≢ n) × (A n ≡ true) → (B n ≡ true) ⊎ (C n ≡ true)
    by n p = elim (h.either n p.1) [
      | inl q ↦ elim (or_cases (B n) (only x n) q) [ inl r ↦ inl r | inr r ↦ absurd (p.0 (eqb-true x n r)) ]
      | inr q ↦ inr q
    ]

-- and so do the names of a pass
pub inside_pass : {A B C : Set} (ps : List ℕ) → Inside A (B ∪ just ps) C → Inside (A ∖∖ ps) B C
inside_pass {A} {B} {C} [] h = inside_more B (λ n e. go (B n) e) h
  where
    go : (b : Bool) → (b || false) ≡ true → b ≡ true
    go true e = refl
    go false e = e
inside_pass {A} {B} {C} (p ∷ ps) h =
    inside_bound {B = B} p (inside_pass {B = B ∪ only p} ps
    (inside_more ((B ∪ only p) ∪ just ps) (λ n e. go (B n) (only p n) (just ps n) e) h))
  where
    go : (a b c : Bool) → (a || (b || c)) ≡ true → ((a || b) || c) ≡ true
    go true b c e = refl
    go false b c e = e

pub inside_among : {A B C : Set} (us : List Atom) → Inside A B C → Inside (among us A) (among us B) C
unfolding among
inside_among [] h = h
inside_among (a ∷ us) h = inside_with (is a) (inside_among us h)
