-- The parameters of a function: the depths of their names, written and new, and the arrays among them.
use Rattle.prelude.specs.Kit.{ℕ, ◌≤◌, ◌+◌, ◌<◌, suc, zero, min, arith, dec_lt, ℕ_discrete, true, false, Bool, cond, ◌&&◌}
use Rattle.prelude.specs.Kit.{false≢true, ◌||◌, and-false, ◌≡◌, refl, ◌∙◌, sym, ap, ◌≢◌, some, List, [], ◌∷◌, map, eqb}
use Rattle.prelude.specs.Kit.{ltb, leb, length, get_or, ne_eqb, lt-ltb, eq-eqb, le-ltb, le-leb, lt-leb}
use Rattle.laws.specs.Updates.{updated_other, updated_same}
use Rattle.semantics.specs.Basics.{updated, occurrences, tabulate, with_if}
use Rattle.semantics.specs.Kinds.{picked}
use Rattle.semantics.specs.Live.{Set, ◌∪◌, only, just}
use Rattle.semantics.specs.Syntax.{Parameter}
use Rattle.semantics.specs.Names.{Scope}
use Rattle.semantics.specs.Types.{Signature, Depths, parameter_depths}
use Rattle.semantics.specs.Code.{Atom, number, name}
use Rattle.semantics.specs.Normal.{parameter_names}
use Rattle.semantics.specs.Annotate.{NameDepths, atom_depth, parameter_depths_from}
use Rattle.discipline.proofs.machine.Discipline.{AllNew, holds_of}
use Rattle.discipline.proofs.normal.Parameters.{From, parameters_from}
use Rattle.soundness.proofs.annotation.Members.{with_if_same, with_if_other}
use Rattle.soundness.proofs.annotation.Checking.{Known, known_updated}

-- ---- the parameters' depths

-- the depths of the written names, the parameters' from last to first
abbrev pub written : List Parameter → (ℕ → ℕ) → ℕ → ℕ
written [] δ = δ
written (x ∷ xs) δ = written xs (updated δ x.id x.depth)

-- no parameter has a name that is known
abbrev pub Distinct : List Parameter → Scope → Type 0
Distinct [] known = Unit {0}
Distinct (x ∷ xs) known = (known x.id ≡ false) × Distinct xs (updated known x.id true)

pub written_known : (signatures : ℕ → Signature) (xs : List Parameter) (Δ : Depths) (δ : ℕ → ℕ) → Known Δ δ →
    Known (parameter_depths signatures xs Δ) (written xs δ)
written_known signatures [] Δ δ k = k
written_known signatures (x ∷ xs) Δ δ k =
    written_known signatures xs (updated Δ x.id (some x.depth)) (updated δ x.id x.depth)
    (known_updated Δ δ x.id (some x.depth) x.depth k refl)

-- a known name keeps its depth
written_kept : (xs : List Parameter) (known : Scope) (δ : ℕ → ℕ) (y : ℕ) → Distinct xs known → known y ≡ true →
    written xs δ y ≡ δ y
written_kept [] known δ y h e = refl
written_kept (x ∷ xs) known δ y h e =
    let apart : x.id ≢ y = λ q. false≢true (sym h.0 ∙ ap known q ∙ e) in
    written_kept xs (updated known x.id true) (updated δ x.id x.depth) y h.1
    (updated_other known x.id true y apart ∙ e)
    ∙ updated_other δ x.id x.depth y apart

depth_above : (u : Atom) (Γ : NameDepths) (i n v : ℕ) → i < n → From u n → atom_depth (updated Γ i v) u ≡ atom_depth Γ u
depth_above (number z) Γ i n v h from = refl
depth_above (name x) Γ i n v h from = updated_other Γ i v x (λ e. omega arith)

-- the new name of a parameter has the parameter's depth
pub written_depth : (xs : List Parameter) (known : Scope) (δ : ℕ → ℕ) (n y : ℕ) → Distinct xs known →
    known y ≡ false → δ y ≡ 0 →
    atom_depth (parameter_depths_from xs n) (parameter_names xs n y) ≡ written xs δ y
unfolding parameter_names parameter_depths_from
written_depth [] known δ n y h e z = sym z
written_depth (x ∷ xs) known δ n y h e z = elim (ℕ_discrete x.id y) [
  | yes q ↦
      let Γ = parameter_depths_from xs (suc n) in
      let δ' = updated δ x.id x.depth in
      ap (λ v. atom_depth (updated Γ n x.depth) (updated (parameter_names xs (suc n)) x.id (name n) v)) (sym q)
      ∙ ap (atom_depth (updated Γ n x.depth)) (updated_same (parameter_names xs (suc n)) x.id (name n))
      ∙ updated_same Γ n x.depth
      ∙ sym (updated_same δ x.id x.depth)
      ∙ sym (written_kept xs (updated known x.id true) δ' x.id h.1 (updated_same known x.id true))
      ∙ ap (written xs δ') q
  | no f ↦
      let Γ = parameter_depths_from xs (suc n) in
      let u = parameter_names xs (suc n) y in
      ap (atom_depth (updated Γ n x.depth)) (updated_other (parameter_names xs (suc n)) x.id (name n) y f)
      ∙ depth_above u Γ n (suc n) x.depth (omega arith) (parameters_from xs (suc n) y)
      ∙ written_depth xs (updated known x.id true) (updated δ x.id x.depth) (suc n) y h.1
      (updated_other known x.id true y f ∙ e) (updated_other δ x.id x.depth y f ∙ z)
]

-- the depth of a new name; past the parameters it is 0
pub parameter_depth : (xs : List Parameter) (n i y : ℕ) → y ≡ n + i →
    parameter_depths_from xs n y ≡ get_or (map (λ x. x.depth) xs) i 0
unfolding parameter_depths_from
parameter_depth [] n i y e = refl
parameter_depth (x ∷ xs) n zero y e =
    ap (updated (parameter_depths_from xs (suc n)) n x.depth) (let q : y ≡ n = omega arith in q)
    ∙ updated_same (parameter_depths_from xs (suc n)) n x.depth
parameter_depth (x ∷ xs) n (suc i) y e =
    updated_other (parameter_depths_from xs (suc n)) n x.depth y (λ q. omega arith)
    ∙ parameter_depth xs (suc n) i y (omega arith)

-- ---- the arrays among the parameters

-- of the parameters from name n on, with these depths, the arrays at certain places
unfoldable pub arrays_at : (ℕ → Bool) → List ℕ → ℕ → List ℕ
arrays_at at [] n = []
arrays_at at (zero ∷ ds) n = arrays_at at ds (suc n)
arrays_at at (suc d ∷ ds) n = with_if (at n) n (arrays_at at ds (suc n))

-- so many names from n on
abbrev pub names_from : ℕ → ℕ → List ℕ
names_from n k = tabulate n k (λ i. i)

-- the names from n on have these depths
pub record DepthsFrom (Γ : NameDepths) (ds : List ℕ) (n : ℕ) : Type 0 where
  pub at : (i : ℕ) → i < length ds → Γ (n + i) ≡ get_or ds i 0

depths_first : {Γ : NameDepths} {d : ℕ} {ds : List ℕ} {n : ℕ} → DepthsFrom Γ (d ∷ ds) n → Γ n ≡ d
depths_first {Γ} {n = n} h = let z : n ≡ n + 0 = omega arith in ap Γ z ∙ h.at 0 (omega arith)

depths_rest : {Γ : NameDepths} {d : ℕ} {ds : List ℕ} {n : ℕ} → DepthsFrom Γ (d ∷ ds) n → DepthsFrom Γ ds (suc n)
depths_rest {Γ} {n = n} h = record {
  at = λ i q. (let z : suc n + i ≡ n + suc i = omega arith in ap Γ z) ∙ h.at (suc i) (omega arith);
}

pub same_depths : (Γ : NameDepths) (ds : List ℕ) (n : ℕ) → DepthsFrom Γ ds n →
    map Γ (names_from n (length ds)) ≡ ds
unfolding tabulate
same_depths Γ [] n h = refl
same_depths Γ (d ∷ ds) n h = λ i. depths_first h i ∷ same_depths Γ ds (suc n) (depths_rest h) i

pub same_arrays : (Γ : NameDepths) (at : ℕ → Bool) (ds : List ℕ) (n : ℕ) → DepthsFrom Γ ds n →
    holds_of Γ (picked at n (names_from n (length ds))) ≡ arrays_at at ds n
unfolding tabulate arrays_at
same_arrays Γ at [] n h = refl
same_arrays Γ at (zero ∷ ds) n h = go (at n) (depths_first h) (same_arrays Γ at ds (suc n) (depths_rest h))
  where
    rest : List ℕ
    rest = picked at (suc n) (names_from (suc n) (length ds))

    go : (b : Bool) → Γ n ≡ 0 → holds_of Γ rest ≡ arrays_at at ds (suc n) →
        holds_of Γ (with_if b n rest) ≡ arrays_at at ds (suc n)
    go true e q = rw e q
    go false e q = q
same_arrays Γ at (suc d ∷ ds) n h = go (at n) (depths_first h) (same_arrays Γ at ds (suc n) (depths_rest h))
  where
    rest : List ℕ
    rest = picked at (suc n) (names_from (suc n) (length ds))

    go : (b : Bool) → Γ n ≡ suc d → holds_of Γ rest ≡ arrays_at at ds (suc n) →
        holds_of Γ (with_if b n rest) ≡ with_if b n (arrays_at at ds (suc n))
    go true e q = rw (e, lt-ltb 0 (suc d) (omega arith)) (ap (λ (l : List ℕ). n ∷ l) q)
    go false e q = q

pub new_from : (k n : ℕ) (S : Set) → n + k ≤ 256 → ((y : ℕ) → n ≤ y → S y ≡ false) → AllNew (names_from n k) S
unfolding tabulate
new_from zero n S h f = tt
new_from (suc k) n S h f = (
  record { unknown = f n (omega arith); small = omega arith },
  new_from k (suc n) (S ∪ only n) (omega arith) (λ y g. both_none (S y) (eqb n y) (f y (omega (arith, g)))
      (ne_eqb n y (λ e. omega (arith, g, e)))),
)
  where
    both_none : (a b : Bool) → a ≡ false → b ≡ false → (a || b) ≡ false
    both_none a b p q = rw (p, q)

pub known_from : (k n y : ℕ) → just (names_from n k) y ≡ (leb n y && ltb y (n + k))
unfolding tabulate
known_from zero n y = sym (elim (dec_lt y n) [
  | yes h ↦ rw (lt-leb n y h)
  | no h ↦ rw (le-ltb y (n + 0) (omega arith)) (and-false (leb n y))
])
known_from (suc k) n y = elim (ℕ_discrete n y) [
  | yes e ↦ rw (eq-eqb n y e, le-leb n y (omega arith), lt-ltb y (n + suc k) (omega arith)) refl
  | no f ↦ rw (ne_eqb n y f, known_from k (suc n) y) (same_range n k y f)
]
  where
    same_range : (n k y : ℕ) → n ≢ y → (leb (suc n) y && ltb y (suc n + k)) ≡ (leb n y && ltb y (n + suc k))
    same_range n k y f = elim (dec_lt y n) [
      | yes h ↦ rw (lt-leb n y h, lt-leb (suc n) y (omega arith)) refl
      | no h ↦ rw (le-leb n y (omega arith), le-leb (suc n) y (omega (arith, f))) (ap (ltb y) (omega arith))
    ]

-- the first k names
pub first_known : (k : ℕ) → just (names_from 0 k) ≡ (λ y. ltb y k)
first_known k = λ i y. (known_from k 0 y ∙ from_first y) i
  where
    from_first : (y : ℕ) → (leb 0 y && ltb y (0 + k)) ≡ ltb y k
    from_first y = rw (le-leb 0 y (omega arith)) (ap (ltb y) (let z : 0 + k ≡ k = omega arith in z))

arrays_below : (at : ℕ → Bool) (ds : List ℕ) (n y : ℕ) → y < n → occurrences y (arrays_at at ds n) ≡ 0
unfolding arrays_at occurrences
arrays_below at [] n y h = refl
arrays_below at (zero ∷ ds) n y h = arrays_below at ds (suc n) y (omega arith)
arrays_below at (suc d ∷ ds) n y h =
    with_if_other (at n) y n (arrays_at at ds (suc n)) (λ e. omega arith) ∙ arrays_below at ds (suc n) y (omega arith)

none_there : (b : Bool) → 0 ≡ cond b (min 1 0) 0
none_there true = omega arith
none_there false = refl

-- an array at one of the places stands there once
pub arrays_at_once : (at : ℕ → Bool) (ds : List ℕ) (n i y : ℕ) → y ≡ n + i →
    occurrences y (arrays_at at ds n) ≡ cond (at y) (min 1 (get_or ds i 0)) 0
unfolding arrays_at occurrences
arrays_at_once at [] n i y e = none_there (at y)
arrays_at_once at (zero ∷ ds) n zero y e = arrays_below at ds (suc n) y (omega arith) ∙ none_there (at y)
arrays_at_once at (zero ∷ ds) n (suc i) y e = arrays_at_once at ds (suc n) i y (omega arith)
arrays_at_once at (suc d ∷ ds) n zero y e =
    let here : n ≡ y = omega arith in
    rw here (with_if_same (at y) y (arrays_at at ds (suc y))
    ∙ one (at y) (arrays_below at ds (suc y) y (omega arith)))
  where
    one : (b : Bool) → occurrences y (arrays_at at ds (suc y)) ≡ 0 →
        cond b 1 0 + occurrences y (arrays_at at ds (suc y)) ≡ cond b (min 1 (suc d)) 0
    one true h = omega (arith, h)
    one false h = omega (arith, h)
arrays_at_once at (suc d ∷ ds) n (suc i) y e =
    with_if_other (at n) y n (arrays_at at ds (suc n)) (λ q. omega arith)
    ∙ arrays_at_once at ds (suc n) i y (omega arith)
