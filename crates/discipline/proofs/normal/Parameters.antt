-- The parameters' names and the arguments: a written name means in the source what its new name is worth in the code.
use Rattle.prelude.specs.Kit.{ℕ, ◌≤◌, ◌+◌, ◌<◌, suc, arith, true, false, Bool, cond, ◌≡◌, refl, ◌∙◌, List, [], ◌∷◌, eqb}
use Rattle.prelude.specs.Kit.{pos, length}
use Rattle.laws.specs.Updates.{updated_other, updated_same}
use Rattle.semantics.specs.Basics.{updated, tabulate}
use Rattle.semantics.specs.Value.{Value, num}
use Rattle.semantics.specs.Syntax.{Parameter}
use Rattle.semantics.specs.Meaning.{Env, bound}
use Rattle.semantics.specs.Code.{Atom, number, name}
use Rattle.semantics.specs.Normal.{parameter_names}
use Rattle.semantics.specs.Machine.{first_names}
use Rattle.semantics.specs.Plain.{value, valued}
use Rattle.discipline.proofs.normal.Agree.{AtomBelow, NamesAgree, below_more}

pub parameters_below : (xs : List Parameter) (n : ℕ) (y : ℕ) → AtomBelow (parameter_names xs n y) (n + length xs)
unfolding parameter_names updated
parameters_below [] n y = tt
parameters_below (x ∷ xs) n y =
    elim (eqb x.id y) as (λ t. AtomBelow (cond t (name n) (parameter_names xs (suc n) y)) (n + suc (length xs))) [
      | true ↦ omega arith
      | false ↦ below_more (parameter_names xs (suc n) y) (omega arith) (parameters_below xs (suc n) y)
    ]

-- an atom that is a number, or a name from n on
abbrev pub From : Atom → ℕ → Type 0
From (number z) n = Unit {0}
From (name y) n = n ≤ y

from_more : (u : Atom) {n m : ℕ} → m ≤ n → From u n → From u m
from_more (number z) le from = tt
from_more (name x) le from = omega arith

pub parameters_from : (xs : List Parameter) (n y : ℕ) → From (parameter_names xs n y) n
unfolding parameter_names updated
parameters_from [] n y = tt
parameters_from (x ∷ xs) n y =
    elim (eqb x.id y) as (λ t. From (cond t (name n) (parameter_names xs (suc n) y)) n) [
      | true ↦ omega arith
      | false ↦ from_more (parameter_names xs (suc n) y) (omega arith) (parameters_from xs (suc n) y)
    ]

-- a binding below an atom is not seen by it
value_above : (u : Atom) (δ : Env) (i n : ℕ) (v : Value) → i < n → From u n → value (updated δ i v) u ≡ value δ u
value_above (number z) δ i n v h from = refl
value_above (name x) δ i n v h from = updated_other δ i v x (λ e. omega arith)

-- the names of the parameters xs, the first of which is n
abbrev names_from : ℕ → List Parameter → List ℕ
names_from n xs = tabulate n (length xs) (λ i. i)

-- with no arguments every name means 0
parameters_missing : (xs : List Parameter) (n y : ℕ) → value (λ _. num (pos 0)) (parameter_names xs n y) ≡ num (pos 0)
unfolding parameter_names updated
parameters_missing [] n y = refl
parameters_missing (x ∷ xs) n y =
    elim (eqb x.id y) as (λ t. value (λ _. num (pos 0)) (cond t (name n) (parameter_names xs (suc n) y))
    ≡ num (pos 0)) [
      | true ↦ refl
      | false ↦ parameters_missing xs (suc n) y
    ]

parameters_same : (xs : List Parameter) (vs : List Value) (n y : ℕ) →
    value (valued (names_from n xs) vs) (parameter_names xs n y) ≡ bound xs vs y
unfolding parameter_names updated valued bound tabulate
parameters_same [] vs n y = refl
parameters_same (x ∷ xs) [] n y = parameters_missing (x ∷ xs) n y
parameters_same (x ∷ xs) (v ∷ vs) n y =
    let at : Bool → Atom = λ t. cond t (name n) (parameter_names xs (suc n) y) in
    let rest = valued (names_from (suc n) xs) vs in
    elim (eqb x.id y) as (λ t. value (updated rest n v) (at t) ≡ cond t v (bound xs vs y)) [
      | true ↦ updated_same rest n v
      | false ↦
          value_above (parameter_names xs (suc n) y) rest n (suc n) v (omega arith)
          (parameters_from xs (suc n) y)
          ∙ parameters_same xs vs (suc n) y
    ]

-- the arguments are what the parameters' names mean, whatever the number of either
pub parameters_agree : (xs : List Parameter) (vs : List Value) →
    NamesAgree (parameter_names xs 0) (valued (first_names xs) vs) (bound xs vs) (length xs)
parameters_agree xs vs = record {
  same = λ y. parameters_same xs vs 0 y;
  below = λ y. below_more (parameter_names xs 0 y) (omega arith) (parameters_below xs 0 y);
}
