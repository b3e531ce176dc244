-- The arguments of a call as the words and values of its parameters' names.
use Rattle.prelude.specs.Kit.{ℕ, ◌<◌, suc, zero, arith, ℕ_discrete, true, false, Bool, false≢true, ◌≡◌, refl, ◌∙◌, sym}
use Rattle.prelude.specs.Kit.{subst, ap₂, inl, inr, List, [], ◌∷◌, ◌++◌, map, eqb, ℤ, lt-ltb, eq-eqb, ltb-true}
use Rattle.laws.specs.Updates.{updated_same, updated_there}
use Rattle.laws.specs.Tests.{or_left, or_right}
use Rattle.semantics.specs.Basics.{occurrences, ◌∈◌, updated, with_if}
use Rattle.semantics.specs.Value.{Value, num}
use Rattle.semantics.specs.Kinds.{picked}
use Rattle.semantics.specs.Live.{Set, empty, ◌∪◌, only, just}
use Rattle.semantics.specs.Annotate.{NameDepths, is_array}
use Rattle.semantics.specs.Machine.{framed}
use Rattle.semantics.specs.Store.{Store, cell_of}
use Rattle.laws.specs.Lists.{◌⊆◌, hits}
use Rattle.semantics.specs.Plain.{valued}
use Rattle.discipline.proofs.store.Invariant.{StandsFor}
use Rattle.discipline.proofs.machine.Discipline.{AllNew, holds_of}
use Rattle.discipline.proofs.machine.Images.{first_or_later, image_in}
use Rattle.discipline.proofs.machine.Frames.{hold, named_all, Arguments, none, more, Lent}
use Rattle.discipline.proofs.machine.Standing.{stands_number, hold_updated}

-- ---- names

-- a name that may not be bound is none of those that are
pub new_apart : (xs : List ℕ) (S : Set) (x : ℕ) → AllNew xs S → S x ≡ true → occurrences x xs ≡ 0
unfolding occurrences
new_apart [] S x new e = refl
new_apart (y ∷ xs) S x new e = elim (hits x y) [
  | inl h ↦ absurd (false≢true (sym (subst (λ (n : ℕ). S n ≡ false) (sym h.0) new.0.unknown) ∙ e))
  | inr h ↦ omega (arith, h.1, new_apart xs (S ∪ only y) x new.1 (or_left (S x) (eqb y x) e))
]

pub picked_in : (at : ℕ → Bool) (i : ℕ) (xs : List ℕ) → picked at i xs ⊆ xs
unfolding occurrences
picked_in at i [] y h = h
picked_in at i (x ∷ xs) y h = go (at i) (picked_in at (suc i) xs y) h
  where
    go : (b : Bool) → (y ∈ picked at (suc i) xs → y ∈ xs) → y ∈ with_if b x (picked at (suc i) xs) → y ∈ (x ∷ xs)
    go true later h = elim (hits y x) [
      | inl e ↦ omega (arith, e.1)
      | inr e ↦ omega (arith, e.1, later (omega (arith, h, e.1)))
    ]
    go false later h = omega (arith, later h)

pub just_in : (xs : List ℕ) (y : ℕ) → y ∈ xs → just xs y ≡ true
unfolding occurrences
just_in [] y h = absurd (omega arith)
just_in (x ∷ xs) y h = elim (hits y x) [
  | inl e ↦ or_left (eqb x y) (just xs y) (eq-eqb x y (sym e.0))
  | inr e ↦ or_right (eqb x y) (just xs y) (just_in xs y (omega (arith, h, e.1)))
]

module _ (Γ : NameDepths) where
  -- only the arrays among some names hold
  pub holds_in : (xs : List ℕ) → holds_of Γ xs ⊆ xs
  unfolding occurrences
  holds_in [] y h = h
  holds_in (x ∷ xs) y h = go (is_array Γ x) (holds_in xs y) h
    where
      go : (b : Bool) → (y ∈ holds_of Γ xs → y ∈ xs) → y ∈ (with_if b x [] ++ holds_of Γ xs) → y ∈ (x ∷ xs)
      go true later h = elim (hits y x) [
        | inl e ↦ omega (arith, e.1)
        | inr e ↦ omega (arith, e.1, later (omega (arith, h, e.1)))
      ]
      go false later h = omega (arith, later h)

  pub holds_arrays : (xs : List ℕ) (y : ℕ) → y ∈ holds_of Γ xs → 0 < Γ y
  unfolding occurrences
  holds_arrays [] y h = absurd (omega arith)
  holds_arrays (x ∷ xs) y h = go (is_array Γ x) refl (holds_arrays xs y) h
    where
      go : (b : Bool) → is_array Γ x ≡ b → (y ∈ holds_of Γ xs → 0 < Γ y) → y ∈ (with_if b x [] ++ holds_of Γ xs) →
          0 < Γ y
      go true e later h = elim (first_or_later y x (holds_of Γ xs) h) [
        | inl q ↦ subst (λ (n : ℕ). 0 < Γ n) (sym q) (ltb-true 0 (Γ x) e)
        | inr q ↦ later q
      ]
      go false e later h = later h

  -- ---- words and values

  -- the words of the parameters stand for their values
  names_stand : {σ : Store} (xs : List ℕ) {ws : List ℤ} {vs : List Value} → Arguments σ (map Γ xs) ws vs → (y : ℕ) →
      y ∈ xs → StandsFor σ (Γ y) (framed xs ws y) (valued xs vs y)
  unfolding framed valued occurrences
  names_stand [] none y h = absurd (omega arith)
  names_stand {σ} (x ∷ xs) (more {w = w} {v} {ws = ws} {vs} s rest) y h = elim (ℕ_discrete y x) [
    | yes e ↦ rw (e, updated_same (framed xs ws) x w, updated_same (valued xs vs) x v) s
    | no f ↦ rw (updated_there (framed xs ws) x w y f, updated_there (valued xs vs) x v y f)
        (names_stand xs rest y (elim (hits y x) [
          | inl e ↦ absurd (f e.0)
          | inr e ↦ omega (arith, h, e.1)
        ]))
  ]

  pub parameter_numbers : {σ : Store} (xs : List ℕ) {ws : List ℤ} {vs : List Value} → Arguments σ (map Γ xs) ws vs →
      (y : ℕ) → Γ y ≡ 0 → num (framed xs ws y) ≡ valued xs vs y
  unfolding framed valued
  parameter_numbers [] none y e = refl
  parameter_numbers {σ} (x ∷ xs) (more {w = w} {v} {ws = ws} {vs} s rest) y e = elim (ℕ_discrete y x) [
    | yes q ↦ rw (q, updated_same (framed xs ws) x w, updated_same (valued xs vs) x v)
        (stands_number (subst (λ (n : ℕ). Γ n ≡ 0) q e) s)
    | no f ↦ rw (updated_there (framed xs ws) x w y f, updated_there (valued xs vs) x v y f)
        (parameter_numbers xs rest y e)
  ]

  -- ---- the arrays at certain places

  module _ (at : ℕ → Bool) where
    -- their cells are those of the words there
    pub parameters_hold : {σ : Store} (xs : List ℕ) {ws : List ℤ} {vs : List Value} (S : Set) → AllNew xs S →
        Arguments σ (map Γ xs) ws vs → (n : ℕ) →
        hold (framed xs ws) (holds_of Γ (picked at n xs)) ≡ named_all (picked at n (map Γ xs)) (picked at n ws)
    unfolding framed
    parameters_hold [] S new none n = refl
    parameters_hold {σ} (x ∷ xs) S new (more {w = w} {ws = ws} s rest) n = go (at n) (Γ x) refl
        (hold_updated (framed xs ws) x w (holds_of Γ (picked at (suc n) xs)) apart
        ∙ parameters_hold xs (S ∪ only x) new.1 rest (suc n))
      where
        unbound : occurrences x xs ≡ 0
        unbound = new_apart xs (S ∪ only x) x new.1 (or_right (S x) (eqb x x) (eq-eqb x x refl))

        apart : occurrences x (holds_of Γ (picked at (suc n) xs)) ≡ 0
        apart = elim (hits (occurrences x (holds_of Γ (picked at (suc n) xs))) 0) [
          | inl e ↦ e.0
          | inr e ↦ absurd (omega (
            arith,
            unbound,
            picked_in at (suc n) xs x
                (holds_in (picked at (suc n) xs) x (omega (arith, e.0))),
          ))
        ]

        go : (b : Bool) (d : ℕ) → Γ x ≡ d →
            hold (updated (framed xs ws) x w) (holds_of Γ (picked at (suc n) xs))
            ≡ named_all (picked at (suc n) (map Γ xs)) (picked at (suc n) ws) →
            hold (updated (framed xs ws) x w) (holds_of Γ (with_if b x (picked at (suc n) xs)))
            ≡ named_all (with_if b (Γ x) (picked at (suc n) (map Γ xs))) (with_if b w (picked at (suc n) ws))
        go false d e later = later
        go true zero e later = rw e later
        go true (suc d) e later =
            rw (e, lt-ltb 0 (suc d) (omega arith)) (ap₂ {C = List ℕ} (λ (z : ℤ) (l : List ℕ). cell_of z ∷ l)
            (updated_same (framed xs ws) x w) later)

    module _ {σ : Store} (xs : List ℕ) {ws : List ℤ} {vs : List Value} (args : Arguments σ (map Γ xs) ws vs) where
      pub parameter_arrays : (y : ℕ) → y ∈ holds_of Γ (picked at 0 xs) →
          StandsFor σ (Γ y) (framed xs ws y) (valued xs vs y)
      parameter_arrays y h = names_stand xs args y (picked_in at 0 xs y (holds_in (picked at 0 xs) y h))

      -- the arrays at places whose cells others keep
      pub parameters_lent : AllNew xs empty → (F : List ℕ) →
          named_all (picked at 0 (map Γ xs)) (picked at 0 ws) ⊆ F → (y : ℕ) →
          y ∈ holds_of Γ (picked at 0 xs) → Lent σ F (Γ y) (framed xs ws y) (valued xs vs y)
      parameters_lent new F kept y h = record {
        stands = parameter_arrays y h;
        kept = kept (cell_of (framed xs ws y)) (subst (λ (l : List ℕ). cell_of (framed xs ws y) ∈ l)
            (parameters_hold xs empty new args 0)
            (image_in (λ x. cell_of (framed xs ws x)) y (holds_of Γ (picked at 0 xs)) h));
      }
