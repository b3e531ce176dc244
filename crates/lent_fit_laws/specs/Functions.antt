-- Functions and the whole code by positions are tested as `fit` tests them.
use Rattle.std.specs.Prelude.{ℕ, ◌≤◌, ◌+◌, ◌<◌, suc, zero, ◌*◌, true, false, Bool, cond, not, ◌≡◌, refl, List, []}
use Rattle.std.specs.Prelude.{◌∷◌, ◌++◌, map, eqb, ℤ, pos, length, get_or, take}
use Rattle.prelude.specs.Kit.{arith, ◌∙◌, ap, subst, some, none, Option, length-append, length-map, lt-ltb}
use Rattle.semantics.specs.Outcome.{stop, onward, ◌>>=◌, ◌>>◌, give, require}
use Rattle.semantics.specs.Types.{Signature}
use Rattle.semantics.specs.Code as C
use Rattle.semantics.specs.Code.{row}
use Rattle.semantics.specs.Annotate.{NameDepths}
use Rattle.semantics_lent.specs.Form.{skip, Lent}
use Rattle.semantics_lent.specs.Fit.{Bound, with_name, Fitted, fit_tree, nothing_bound, fit_parameters, fit_function}
use Rattle.semantics_lent.specs.Fit.{fit_functions, lent_signature, no_lent, lent_signatures, is_main, fit}
use Rattle.lent_passing.specs.Ends.{Ends, ends_then}
use Rattle.lent_fit_lines.specs.declared.Wants.TheVariants.{Exactly}
use Rattle.lent_fit_lines.specs.Walk.{first_at, second_at, start_of, signature_at, depths_from}
use Rattle.lent_fit_trees.specs.Trees.{tree_fits}
use Rattle.machine_code.specs.Rows.{Here, At, at_first, at_second}
use Rattle.lent_fit_laws.specs.Reading.{first_read, second_read}
use Rattle.lent_fit_laws.specs.Same.{ends_at, tree_ends}
use Rattle.lent_fit_laws.specs.Leaves.{Known}
use Rattle.semantics.specs.Syntax.{Parameter}
use Rattle.lent_passing.specs.Functions.{parameter_row, lent_function, lent_code, ParametersFormed, FunctionFormed}
use Rattle.lent_passing.specs.Functions.{FunctionsFormed}
use Rattle.lent_passing.specs.Arities.{arity}
use Rattle.lent_fit.specs.Functions.{parameters_fit, body_fits, function_fits, functions_fit, code_fits}
use Rattle.lent_fit_laws.specs.Trees.{tree_same}

-- ---- parameters

module _ (K : List ℕ) (O : List ℤ) where
  pair_here : (p k a b : ℕ) → a < 256 → b < 256 → Here K O p (row k (a + 256 * b)) →
      (first_at O p ≡ a) × (second_at O p ≡ b)
  pair_here p k a b x y h =
      let i = h.operand ∙ ap (λ (n : ℕ). pos n) (let z : a + 256 * b ≡ a + 256 * b + 65536 * 0 = omega arith in z) in
      (first_read O p a b 0 x y (omega arith) i, second_read O p a b 0 x y (omega arith) i)

  depths_here : (xs : List Parameter) (p : ℕ) → ParametersFormed xs → At K O p (map parameter_row xs) →
      depths_from O (length xs) p ≡ map (λ x. x.depth) xs
  unfolding depths_from
  depths_here [] p F h = refl
  depths_here (x ∷ xs) p F h =
      let r = pair_here p 1 x.id x.depth F.0.0 (omega (arith, F.0.1)) h.0 in
      λ i. r.1 i ∷ depths_here xs (p + 1) F.1 h.1 i

  parameters_same : (sig : ℕ → Signature) (xs : List Parameter) (N : Bound) (p : ℕ) → ParametersFormed xs →
      At K O p (map parameter_row xs) → parameters_fit O (length xs) N p ≡ fit_parameters sig xs N p
  unfolding parameters_fit fit_parameters onward require
  parameters_same sig [] N p F h = refl
  parameters_same sig (x ∷ xs) N p F h =
      let r = pair_here p 1 x.id x.depth F.0.0 (omega (arith, F.0.1)) h.0 in
      rw (r.0, r.1, parameters_same sig xs (with_name x.id x.depth N) (p + 1) F.1 h.1)
      (go (N.names x.id))
    where
      go : (b : Bool) → cond b (stop 29 p) (fit_parameters sig xs (with_name x.id x.depth N) (p + 1))
          ≡ onward (λ (u : Unit {0}). skip 1 >> fit_parameters sig xs (with_name x.id x.depth N))
          (require (not b) 29 p)
      go true = refl
      go false = refl

  parameters_end : (sig : ℕ → Signature) (xs : List Parameter) (N : Bound) (p : ℕ) →
      Ends (λ M q. q ≡ p + length xs) (fit_parameters sig xs N p)
  unfolding fit_parameters onward require
  parameters_end sig [] N p = let z : p ≡ p + 0 = omega arith in z
  parameters_end sig (x ∷ xs) N p =
      go (not (N.names x.id)) (parameters_end sig xs (with_name x.id x.depth N) (p + 1))
    where
      M : Bound
      M = with_name x.id x.depth N

      go : (b : Bool) → Ends (λ M q. q ≡ p + 1 + length xs) (fit_parameters sig xs M (p + 1)) →
          Ends (λ M q. q ≡ p + suc (length xs))
          (onward (λ (u : Unit {0}). skip 1 >> fit_parameters sig xs M) (require b 29 p))
      go true h = subst (λ (i : ℕ). Ends (λ M q. q ≡ i) (fit_parameters sig xs M (p + 1)))
          (let z : p + 1 + length xs ≡ p + suc (length xs) = omega arith in z) h
      go false h = tt

  -- ---- functions

  module _ (st : List ℕ) (sig : ℕ → Signature) (arities : List (Option ℕ)) (known : Known O st sig arities) where
    function_same : (g : Lent) (p : ℕ) → FunctionFormed arities g → At K O p (lent_function g) →
        function_fits K O st p ≡ fit_function sig g p
    unfolding function_fits fit_function onward tree_fits
    function_same g p F h =
        let xs = g.parameters in
        let r = pair_here p 0 (length xs) g.result (omega (arith, F.few)) (omega (arith, F.result)) h.0 in
        let a = at_first K O (p + 1) (map parameter_row xs) (C.rows g.tree) h.1 in
        let b = at_second K O (p + 1) (map parameter_row xs) (C.rows g.tree) h.1 in
        let z : p + 1 + length (map parameter_row xs) ≡ p + 1 + length xs =
        ap (λ (n : ℕ). p + 1 + n) (length-map xs parameter_row) in
        rw (r.0, r.1, parameters_same sig xs nothing_bound (p + 1) F.parameters a)
        (ends_at
        (λ (N : Bound). body_fits K O st g.result N >>= λ A. give A.bound.depths)
        (λ (N : Bound). fit_tree sig g.tree (eqb g.result) N.names N >>= λ A. give A.bound.depths)
        (fit_parameters sig xs nothing_bound (p + 1)) (p + 1 + length xs)
        (parameters_end sig xs nothing_bound (p + 1))
        (λ N. ap (onward (λ (A : Fitted). give A.bound.depths))
        (tree_same K O st sig arities known g.tree 63 4096 (p + 1 + length xs) (Exactly g.result) N.names N
        F.tree F.short (omega arith) (subst (λ (q : ℕ). At K O q (C.rows g.tree)) z b))))

    function_ends : (g : Lent) (p : ℕ) → Ends (λ Γ q. q ≡ p + length (lent_function g)) (fit_function sig g p)
    unfolding fit_function onward
    function_ends g p =
        ends_then (λ N q. q ≡ p + 1 + length g.parameters) _ _
        (fit_parameters sig g.parameters nothing_bound (p + 1))
        (parameters_end sig g.parameters nothing_bound (p + 1)) (λ N q h.
        ends_then (λ A s. s ≡ q + length (C.rows g.tree)) _ _
        (fit_tree sig g.tree (eqb g.result) N.names N q)
        (tree_ends sig g.tree (eqb g.result) N.names N q) (λ A s k.
        omega (
          arith,
          h,
          k,
          length-append (map parameter_row g.parameters) (C.rows g.tree),
          length-map g.parameters parameter_row,
        )))

    pub functions_same : (gs : List Lent) (p : ℕ) → FunctionsFormed arities gs → At K O p (lent_code gs) →
        functions_fit K O st (length gs) p ≡ fit_functions sig gs p
    unfolding functions_fit fit_functions lent_code onward
    functions_same [] p F h = refl
    functions_same (g ∷ gs) p F h =
        rw (
          lt-ltb p (length K) h.0.within,
          function_same g p F.0 (at_first K O p (lent_function g) (lent_code gs) h),
        )
        (ends_at
        (λ (Γ : NameDepths). functions_fit K O st (length gs) >>= λ Γs. give (Γ ∷ Γs))
        (λ (Γ : NameDepths). fit_functions sig gs >>= λ Γs. give (Γ ∷ Γs))
        (fit_function sig g p) (p + length (lent_function g)) (function_ends g p)
        (λ Γ. ap (onward (λ (Γs : List NameDepths). give (Γ ∷ Γs)))
        (functions_same gs (p + length (lent_function g)) F.1 (at_second K O p (lent_function g) (lent_code gs) h))))

-- ---- the whole code

-- the lines of the functions, by the table
abbrev pub Placed : List ℕ → List Lent → Type 0
Placed st gs = (f : ℕ) → f < length gs → start_of st f ≡ length (lent_code (take f gs))

module _ (K : List ℕ) (O : List ℤ) where
  -- the signature that is read where a function stands
  signature_here : (arities : List (Option ℕ)) (g : Lent) (p : ℕ) → FunctionFormed arities g →
      At K O p (lent_function g) →
      (length g.parameters ≤ 16) × ((first_at O p ≡ length g.parameters) × (signature_at O p ≡ lent_signature g))
  unfolding signature_at
  signature_here arities g p F h =
      let xs = g.parameters in
      let r = pair_here K O p 0 (length xs) g.result (omega (arith, F.few)) (omega (arith, F.result)) h.0 in
      let a = at_first K O (p + 1) (map parameter_row xs) (C.rows g.tree) h.1 in
      let d : depths_from O (first_at O p) (p + 1) ≡ map (λ x. x.depth) xs =
      ap (λ (n : ℕ). depths_from O n (p + 1)) r.0 ∙ depths_here K O xs (p + 1) F.parameters a in
      (omega (arith, F.few), (r.0, λ i. record { parameters = d i; result = r.1 i }))

  -- the f-th function stands behind those before it
  function_at : (arities : List (Option ℕ)) (gs : List Lent) (p f : ℕ) → FunctionsFormed arities gs →
      At K O p (lent_code gs) →
      f < length gs →
      (length (get_or gs f no_lent).parameters ≤ 16)
      × ((first_at O (p + length (lent_code (take f gs))) ≡ length (get_or gs f no_lent).parameters)
      × (signature_at O (p + length (lent_code (take f gs))) ≡ lent_signature (get_or gs f no_lent)))
  unfolding lent_code
  function_at arities [] p f F h l = absurd (let z : ⊥ = omega (arith, l) in z)
  function_at arities (g ∷ gs) p zero F h l =
      let z : p ≡ p + 0 = omega arith in
      subst (λ (q : ℕ). (length g.parameters ≤ 16) × ((first_at O q ≡ length g.parameters)
      × (signature_at O q ≡ lent_signature g))) z
      (signature_here arities g p F.0 (at_first K O p (lent_function g) (lent_code gs) h))
  function_at arities (g ∷ gs) p (suc f) F h l =
      let y = length-append (lent_function g) (lent_code (take f gs)) in
      let z : p + length (lent_function g) + length (lent_code (take f gs))
      ≡ p + length (lent_function g ++ lent_code (take f gs)) = omega (arith, y) in
      subst (λ (q : ℕ). (length (get_or gs f no_lent).parameters ≤ 16)
      × ((first_at O q ≡ length (get_or gs f no_lent).parameters) ×
      (signature_at O q ≡ lent_signature (get_or gs f no_lent)))) z
      (function_at arities gs (p + length (lent_function g)) f F.1
      (at_second K O p (lent_function g) (lent_code gs) h) (omega (arith, l)))

  arity_is : (gs : List Lent) (f n : ℕ) → get_or (map arity gs) f none ≡ some n → f < length gs →
      length (get_or gs f no_lent).parameters ≡ n
  arity_is [] f n e l = absurd (let z : ⊥ = omega (arith, l) in z)
  arity_is (g ∷ gs) zero n e l = let z : length g.parameters ≡ n = cc in z
  arity_is (g ∷ gs) (suc f) n e l = arity_is gs f n e (omega (arith, l))

  pub signatures_known : (st : List ℕ) (gs : List Lent) → FunctionsFormed (map arity gs) gs → At K O 0 (lent_code gs) →
      Placed st gs → Known O st (lent_signatures gs) (map arity gs)
  signatures_known st gs F h places f n l e =
      let m : f < length gs = omega (arith, l, length-map gs arity) in
      let r = function_at (map arity gs) gs 0 f F h m in
      let a = arity_is gs f n e m in
      let z : start_of st f ≡ 0 + length (lent_code (take f gs)) = omega (arith, places f m) in
      (omega (arith, r.0, a), (ap (first_at O) z ∙ r.1.0 ∙ a, ap (signature_at O) z ∙ r.1.1))

  -- the walk by positions is `fit`
  pub code_same : (st : List ℕ) (gs : List Lent) (d : ℕ) → FunctionsFormed (map arity gs) gs → At K O 0 (lent_code gs) →
      Placed st gs → 0 < length gs → code_fits K O st d (length gs) ≡ fit d gs
  unfolding code_fits fit onward require lent_code
  code_same st gs d F h places Some_of =
      let r = function_at (map arity gs) gs 0 0 F h Some_of in
      rw (
        main gs Some_of r,
        functions_same K O st (lent_signatures gs) (map arity gs)
            (signatures_known st gs F h places) gs 0 F h,
      )
      (go (is_main d (lent_signatures gs 0)))
    where
      main : (gs : List Lent) → 0 < length gs →
          (length (get_or gs 0 no_lent).parameters ≤ 16)
          × ((first_at O (0 + length (lent_code (take 0 gs))) ≡ length (get_or gs 0 no_lent).parameters)
          × (signature_at O (0 + length (lent_code (take 0 gs))) ≡ lent_signature (get_or gs 0 no_lent))) →
          signature_at O 0 ≡ lent_signatures gs 0
      main [] h r = absurd (let z : ⊥ = omega (arith, h) in z)
      main (g ∷ gs) h r = r.1.1

      go : (b : Bool) → cond b (fit_functions (lent_signatures gs) gs 0) (stop 29 0)
          ≡ onward (λ (u : Unit {0}). fit_functions (lent_signatures gs) gs) (require b 29 0)
      go true = refl
      go false = refl
