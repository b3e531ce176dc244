-- How often a name occurs among the members of a set: once if it is one of the first 256 and in the set.
use Rattle.prelude.specs.Kit.{ℕ, ◌≤◌, ◌+◌, ◌<◌, suc, zero, arith, dec_lt, ℕ_discrete, true, false, Bool, cond, ◌≡◌, refl}
use Rattle.prelude.specs.Kit.{◌∙◌, inl, inr, ◌≢◌, List}
use Rattle.semantics.specs.Basics.{with_if, occurrences, ◌∈◌}
use Rattle.semantics.specs.Live.{Set, members_from, members}
use Rattle.laws.specs.Lists.{hits}

pub with_if_same : (b : Bool) (n : ℕ) (l : List ℕ) → occurrences n (with_if b n l) ≡ cond b 1 0 + occurrences n l
unfolding occurrences
with_if_same true n l = elim (hits n n) [ inl h ↦ omega arith | inr h ↦ absurd (h.0 refl) ]
with_if_same false n l = omega arith

pub with_if_other : (b : Bool) (n x : ℕ) (l : List ℕ) → n ≢ x → occurrences n (with_if b x l) ≡ occurrences n l
unfolding occurrences
with_if_other true n x l f = elim (hits n x) [ inl h ↦ absurd (f h.0) | inr h ↦ omega arith ]
with_if_other false n x l f = refl

members_below : (k i n : ℕ) (A : Set) → n < i → occurrences n (members_from k i A) ≡ 0
unfolding members_from occurrences
members_below zero i n A h = refl
members_below (suc k) i n A h =
    with_if_other (A i) n i (members_from k (suc i) A) (λ e. omega arith) ∙ members_below k (suc i) n A (omega arith)

members_above : (k i n : ℕ) (A : Set) → i + k ≤ n → occurrences n (members_from k i A) ≡ 0
unfolding members_from occurrences
members_above zero i n A h = refl
members_above (suc k) i n A h =
    with_if_other (A i) n i (members_from k (suc i) A) (λ e. omega arith) ∙ members_above k (suc i) n A (omega arith)

members_within : (k i n : ℕ) (A : Set) → i ≤ n → n < i + k → occurrences n (members_from k i A) ≡ cond (A n) 1 0
unfolding members_from
members_within zero i n A g h = absurd (omega arith)
members_within (suc k) i n A g h = elim (ℕ_discrete n i) [
  | yes e ↦
      rw (← e) (with_if_same (A n) n (members_from k (suc n) A)
      ∙ omega (arith, members_below k (suc n) n A (omega arith)))
  | no f ↦
      with_if_other (A i) n i (members_from k (suc i) A) f ∙ members_within k (suc i) n A (omega arith) (omega arith)
]

pub members_in : (n : ℕ) (A : Set) → n < 256 → occurrences n (members A) ≡ cond (A n) 1 0
unfolding members
members_in n A h = members_within 256 0 n A (omega arith) (omega arith)

pub members_out : (n : ℕ) (A : Set) → 256 ≤ n → occurrences n (members A) ≡ 0
unfolding members
members_out n A h = members_above 256 0 n A (omega arith)

-- what occurs among them is in the set
pub members_true : (n : ℕ) (A : Set) → n ∈ members A → A n ≡ true
members_true n A h = elim (dec_lt n 256) [
  | yes g ↦ go (A n) (members_in n A g)
  | no g ↦ absurd (omega (arith, members_out n A (omega arith)))
]
  where
    go : (b : Bool) → occurrences n (members A) ≡ cond b 1 0 → b ≡ true
    go true e = refl
    go false e = absurd (omega arith)
