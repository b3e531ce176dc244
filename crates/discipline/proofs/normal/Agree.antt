-- Written names and new names that agree: what the source means by a name is the value of the atom that stands for it.
use Rattle.prelude.specs.Kit.{ℕ, ◌≤◌, ◌+◌, ◌<◌, suc, arith, true, false, Bool, cond, ◌≡◌, refl, ◌∙◌, List, [], ◌∷◌, eqb}
use Rattle.prelude.specs.Kit.{length}
use Rattle.laws.specs.Updates.{updated_same, updated_other}
use Rattle.semantics.specs.Basics.{updated}
use Rattle.semantics.specs.Value.{Value}
use Rattle.semantics.specs.Kinds.{later_parts}
use Rattle.semantics.specs.Meaning.{Env, binding, argument}
use Rattle.semantics.specs.Syntax as S
use Rattle.semantics.specs.Syntax.{Expr}
use Rattle.semantics.specs.Code.{Atom, number, name}
use Rattle.semantics.specs.Normal.{Meanings, fresh, atom, meaning_names, numbered}
use Rattle.semantics.specs.Plain.{value}

-- an atom that is a number, or a name below n
abbrev pub AtomBelow : Atom → ℕ → Type 0
AtomBelow (number z) n = Unit {0}
AtomBelow (name y) n = y < n

-- the written names mean in ρ what their atoms are worth in δ, and the atoms are below n
pub record NamesAgree (μ : Meanings) (δ ρ : Env) (n : ℕ) : Type 0 where
  pub same : (y : ℕ) → value δ (μ y) ≡ ρ y
  pub below : (y : ℕ) → AtomBelow (μ y) n

-- the names below n keep their values
abbrev pub EnvKept : Env → Env → ℕ → Type 0
EnvKept δ δ' n = (y : ℕ) → y < n → δ' y ≡ δ y

pub value_kept : (u : Atom) {δ δ' : Env} {n : ℕ} → AtomBelow u n → EnvKept δ δ' n → value δ' u ≡ value δ u
value_kept (number z) below kept = refl
value_kept (name x) below kept = kept x below

pub below_more : (u : Atom) {n m : ℕ} → n ≤ m → AtomBelow u n → AtomBelow u m
below_more (number z) le below = tt
below_more (name x) le below = omega arith

pub agree_kept : {μ : Meanings} {δ δ' ρ : Env} {n m : ℕ} → n ≤ m → NamesAgree μ δ ρ n → EnvKept δ δ' n →
    NamesAgree μ δ' ρ m
agree_kept {μ} le g kept = record {
  same = λ x. value_kept (μ x) (g.below x) kept ∙ g.same x;
  below = λ x. below_more (μ x) le (g.below x);
}

pub below_updated : (μ : Meanings) (n : ℕ) (x : ℕ) (u : Atom) → AtomBelow u n → ((y : ℕ) → AtomBelow (μ y) n) →
    (y : ℕ) → AtomBelow (updated μ x u y) n
unfolding updated
below_updated μ n x u below all y = by (eqb x y)
  where
    by : (t : Bool) → AtomBelow (cond t u (μ y)) n
    by true = below
    by false = all y

pub agree_updated : {μ : Meanings} {δ ρ : Env} {n : ℕ} (x : ℕ) (u : Atom) (v : Value) →
    NamesAgree μ δ ρ n → AtomBelow u n → value δ u ≡ v → NamesAgree (updated μ x u) δ (updated ρ x v) n
unfolding updated
agree_updated {μ} {δ} {ρ} {n} x u v g below e = record {
  same = λ y. same_by (eqb x y) y;
  below = below_updated μ n x u below g.below;
}
  where
    same_by : (t : Bool) (y : ℕ) → value δ (cond t u (μ y)) ≡ cond t v (ρ y)
    same_by true y = e
    same_by false y = g.same y

-- the atom of an expression is below the names that come after
pub atom_below : (e : Expr) (μ : Meanings) (n : ℕ) → ((y : ℕ) → AtomBelow (μ y) n) → AtomBelow (atom e μ n)
    (n + fresh e)
unfolding atom fresh
atom_below (S.number z) μ n h = tt
atom_below (S.name x) μ n h = below_more (μ x) (omega arith) (h x)
atom_below (S.let_in x a b) μ n h =
    let above : (y : ℕ) → AtomBelow (μ y) (n + fresh a) = λ y. below_more (μ y) (omega arith) (h y) in
    below_more (atom b (updated μ x (atom a μ n)) (n + fresh a)) (omega arith)
    (atom_below b (updated μ x (atom a μ n)) (n + fresh a)
    (below_updated μ (n + fresh a) x (atom a μ n) (atom_below a μ n h) above))
atom_below (S.leaf l es) μ n h = omega arith
atom_below (S.if_else a b c) μ n h = omega arith
atom_below (S.loop k xs es b) μ n h = omega arith

-- the names of a pass: bound to values, they mean in the source what their new names are worth
pub agree_binding : (xs : List ℕ) (vs : List Value) {μ : Meanings} {δ ρ : Env} (n : ℕ) → NamesAgree μ δ ρ n →
    NamesAgree (meaning_names xs n μ) (binding (numbered xs n) vs δ) (binding xs vs ρ) (n + length xs)
agree_binding [] vs n g = agree_kept (omega arith) g (λ y h. refl)
agree_binding (x ∷ xs) vs {μ} {δ} {ρ} n g =
    let v = argument vs 0 in
    let h = agree_updated x (name n) v
    (agree_kept {m = suc n} (omega arith) g (λ y h. updated_other δ n v y (λ e. omega arith)))
    (omega arith) (updated_same δ n v) in
    let more = agree_binding xs (later_parts vs) (suc n) h in
    record {
      same = more.same;
      below = λ y. below_more (meaning_names xs (suc n) (updated μ x (name n)) y) (omega arith) (more.below y);
    }
