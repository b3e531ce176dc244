-- Values of a depth: what a typed script's totals are, and what a saved file can hold.
use Rattle.prelude.specs.Kit.{ℕ, ◌≤◌, ◌+◌, suc, zero, arith, true, ◌≡◌, refl, ap, List, [], ◌∷◌, ◌++◌}
use Rattle.semantics.specs.Number.{fits}
use Rattle.semantics.specs.Value.{Value, num, array, Values, nil, cons, of_list, to_list}
use Rattle.semantics.specs.Saved.{size_of}

abbrev mutual
  -- a number, or at most 16 values of the depth below
  pub OfDepth : Value → ℕ → Type 0
  OfDepth (num z) zero = Unit {0}
  OfDepth (num z) (suc d) = ⊥
  OfDepth (array vs) zero = ⊥
  OfDepth (array vs) (suc d) = (size_of vs ≤ 16) × AllOfDepth vs d

  pub AllOfDepth : Values → ℕ → Type 0
  AllOfDepth nil d = Unit {0}
  AllOfDepth (cons v vs) d = OfDepth v d × AllOfDepth vs d

abbrev mutual
  -- all numbers are of 64 bits
  pub Fits : Value → Type 0
  Fits (num z) = fits z ≡ true
  Fits (array vs) = AllFits vs

  pub AllFits : Values → Type 0
  AllFits nil = Unit {0}
  AllFits (cons v vs) = Fits v × AllFits vs

pub of_to : (vs : Values) → of_list (to_list vs) ≡ vs
of_to nil = refl
of_to (cons v vs) = ap (λ (l : Values). cons v l) (of_to vs)

-- ---- arrays

abbrev mutual
  -- how many arrays a value has, counted at every place
  pub arrays_in : Value → ℕ
  arrays_in (num z) = 0
  arrays_in (array vs) = suc (arrays_among vs)

  pub arrays_among : Values → ℕ
  arrays_among nil = 0
  arrays_among (cons v vs) = arrays_in v + arrays_among vs

pub arrays_append : (l m : List Value) →
    arrays_among (of_list (l ++ m)) ≡ arrays_among (of_list l) + arrays_among (of_list m)
arrays_append [] m = omega arith
arrays_append (v ∷ l) m = omega (arith, arrays_append l m)
