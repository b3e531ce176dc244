-- Where the rows of functions stand, the walk by positions is the walk over the functions.
use Rattle.std.specs.Prelude.{ℕ, ◌≤◌, ◌+◌, suc, ◌*◌, ◌%◌, not, ◌≡◌, refl, List, [], ◌∷◌, map, ℤ, length}
use Rattle.prelude.specs.Kit.{arith, ◌∙◌, sym, ap, subst, Option, length-append, length-map}
use Rattle.semantics.specs.Outcome.{Outcome, done, stop, onward}
use Rattle.semantics.specs.Kinds.{Borrowing, picked}
use Rattle.semantics.specs.Syntax.{Parameter}
use Rattle.semantics.specs.Code.{rows}
use Rattle.semantics.specs.Live.{empty}
use Rattle.semantics.specs.Annotate.{NameDepths}
use Rattle.semantics_lent.specs.Form.{Test, Lent}
use Rattle.semantics_lent.specs.Hold.{Holds, none_held, arrays_in, hold_all, same_holds, hold_tree, hold_function}
use Rattle.semantics_lent.specs.Hold.{names_of}
use Rattle.semantics_lent.specs.Hold.{hold_functions}
use Rattle.machine_code.specs.Reading.{low_bits, name_at}
use Rattle.machine_code.specs.Rows.{At, at_first, at_second}
use Rattle.lent_hold.specs.Functions.{names_from, forgot, function_at, functions_at}
use Rattle.lent_passing.specs.Ends.{Ends}
use Rattle.lent_passing.specs.Functions.{parameter_row, lent_function, lent_code, ParametersFormed, FunctionFormed}
use Rattle.lent_passing.specs.Functions.{FunctionsFormed}
use Rattle.lent_hold_laws.specs.Moves.{tree_moves}
use Rattle.lent_hold_laws.specs.Same.{Short, alike, tree_same}

-- the depths of the functions from number f on are those of the table
abbrev pub Tabled : (ℕ → NameDepths) → ℕ → List Lent → List NameDepths → Type 0
Tabled Γ f [] Γs = Unit {0}
Tabled Γ f (g ∷ gs) [] = ⊥
Tabled Γ f (g ∷ gs) (Δ ∷ Γs) = (Γ f ≡ Δ) × Tabled Γ (suc f) gs Γs

-- an answer that is not looked at
forgetting : (k : Test (Unit {0})) (o : Outcome ℕ Holds) →
    onward (λ (u : Unit {0}). k) (forgot o) ≡ onward (λ (I : Holds). k) o
unfolding onward forgot
forgetting k (done I q) = refl
forgetting k (stop n q) = refl

module _ (kinds : List ℕ) (operands : List ℤ) (few : length kinds ≤ 4096) (arities : List (Option ℕ))
    (short : Short arities) (β : Borrowing) where
  ids_same : (xs : List Parameter) (p : ℕ) → ParametersFormed xs → At kinds operands p (map parameter_row xs) →
      names_from operands (length xs) p ≡ map (λ x. x.id) xs
  unfolding names_from
  ids_same [] p h s = refl
  ids_same (x ∷ xs) p h s = λ j. (ap (λ (z : ℤ). low_bits z % 256) s.0.operand
      ∙ (let z : (x.id + 256 * x.depth) % 16777216 % 256 ≡ x.id = omega (arith, h.0) in z)) j
      ∷ ids_same xs (p + 1) h.1 s.1 j

  count_same : (g : Lent) (p : ℕ) → FunctionFormed arities g → At kinds operands p (lent_function g) →
      name_at operands p ≡ length g.parameters
  count_same g p h s =
      ap (λ (z : ℤ). low_bits z % 256) s.0.operand
      ∙ (let z : (length g.parameters + 256 * g.result) % 16777216 % 256 ≡ length g.parameters =
      omega (arith, h.few, h.result) in z)

  function_same : (Γ : NameDepths) (f : ℕ) (g : Lent) (p : ℕ) → FunctionFormed arities g → At kinds operands p
      (lent_function g) →
      function_at kinds operands β Γ f p ≡ forgot (hold_function β Γ (β f) (names_of g) g.tree p)
  unfolding function_at hold_function onward
  function_same Γ f g p h s =
      let c = count_same g p h s in
      let xs = map (λ x. x.id) g.parameters in
      let heads = at_first kinds operands (p + 1) (map parameter_row g.parameters) (rows g.tree) s.1 in
      let body = at_second kinds operands (p + 1) (map parameter_row g.parameters) (rows g.tree) s.1 in
      let z : p + 1 + length (map parameter_row g.parameters) ≡ p + (1 + length xs) =
      omega (arith, length-map g.parameters parameter_row, length-map g.parameters (λ x. x.id)) in
      let names : names_from operands (name_at operands p) (p + 1) ≡ xs =
      ap (λ (n : ℕ). names_from operands n (p + 1)) c ∙ ids_same g.parameters (p + 1) h.parameters heads in
      let size : name_at operands p ≡ length xs = c ∙ sym (length-map g.parameters (λ x. x.id)) in
      rw (names, size) (ap forgot (tree_same kinds operands few arities short β Γ g.tree 64
      (p + (1 + length xs)) h.tree
      (subst (λ (q : ℕ). At kinds operands q (rows g.tree)) z body)
      (arrays_in Γ (picked (β f) 0 xs)) empty (hold_all Γ (picked (λ i. not (β f i)) 0 xs) none_held)
      (same_holds none_held)))

  past : (Γ : NameDepths) (f : ℕ) (g : Lent) (p : ℕ) →
      Ends (λ (I : Holds) (q : ℕ). q ≡ p + length (lent_function g)) (hold_function β Γ (β f) (names_of g) g.tree p)
  unfolding hold_function onward
  past Γ f g p =
      let xs = map (λ x. x.id) g.parameters in
      subst (λ (n : ℕ). Ends (λ (I : Holds) (q : ℕ). q ≡ n)
      (hold_tree β Γ g.tree (arrays_in Γ (picked (β f) 0 xs)) empty
      (hold_all Γ (picked (λ i. not (β f i)) 0 xs) none_held) (same_holds none_held) (p + (1 + length xs))))
      (let z : p + (1 + length xs) + length (rows g.tree) ≡ p + length (lent_function g) =
      omega (
        arith,
        length-map g.parameters (λ x. x.id),
        length-map g.parameters parameter_row,
        length-append (map parameter_row g.parameters) (rows g.tree),
      ) in z)
      (tree_moves β Γ g.tree (arrays_in Γ (picked (β f) 0 xs)) empty
      (hold_all Γ (picked (λ i. not (β f i)) 0 xs) none_held) (same_holds none_held) (p + (1 + length xs)))

  -- the functions from number f on
  pub functions_same : (Γ : ℕ → NameDepths) (gs : List Lent) (Γs : List NameDepths) (f p : ℕ) →
      FunctionsFormed arities gs →
      Tabled Γ f gs Γs → At kinds operands p (lent_code gs) →
      functions_at kinds operands β Γ (length gs) f p ≡ hold_functions β f gs Γs p
  unfolding functions_at hold_functions lent_code
  functions_same Γ [] Γs f p h t s = refl
  functions_same Γ (g ∷ gs) [] f p h t s = absurd t
  functions_same Γ (g ∷ gs) (Δ ∷ Γs) f p h t s =
      let first = at_first kinds operands p (lent_function g) (lent_code gs) s in
      let rest = at_second kinds operands p (lent_function g) (lent_code gs) s in
      ap (λ (D : NameDepths). onward (λ (u : Unit {0}). functions_at kinds operands β Γ (length gs) (suc f))
      (function_at kinds operands β D f p)) t.0
      ∙ ap (onward (λ (u : Unit {0}). functions_at kinds operands β Γ (length gs) (suc f)))
      (function_same Δ f g p h.0 first)
      ∙ forgetting (functions_at kinds operands β Γ (length gs) (suc f))
      (hold_function β Δ (β f) (names_of g) g.tree p)
      ∙ alike (λ (I : Holds) (q : ℕ). q ≡ p + length (lent_function g)) _ _
      (hold_function β Δ (β f) (names_of g) g.tree p) (past Δ f g p) (λ I q e.
      subst (λ (r : ℕ). functions_at kinds operands β Γ (length gs) (suc f) r ≡ hold_functions β (suc f) gs Γs
      r) (sym e)
      (functions_same Γ gs Γs (suc f) (p + length (lent_function g)) h.1 t.1 rest))
