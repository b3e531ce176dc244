-- One function of a translated script: it passes the second walk with the script's depths, and is in form.
use Rattle.std.specs.Prelude.{ℕ, ◌≤◌, ◌+◌, ◌<◌, ◌-◌, suc, zero, true, false, Bool, not, ◌||◌, ◌≡◌, refl, ◌⊎◌, List}
use Rattle.std.specs.Prelude.{[], ◌∷◌, map, eqb, ltb, length, get_or}
use Rattle.prelude.specs.Kit.{arith, dec_lt, false≢true, ◌∙◌, sym, ap, subst, inl, inr, Option, eq-eqb}
use Rattle.semantics.specs.Basics.{tabulate, updated}
use Rattle.semantics.specs.Outcome.{done, onward, require}
use Rattle.semantics.specs.Syntax.{Parameter, Function, Script}
use Rattle.semantics.specs.Types.{Signature}
use Rattle.semantics.specs.Code as C
use Rattle.semantics.specs.Code.{Tree, end}
use Rattle.semantics.specs.Live.{Set, empty, just, uses}
use Rattle.semantics.specs.Normal.{fresh, atom, normal, parameter_names, normal_body}
use Rattle.semantics.specs.Borrow.{Table, borrows, borrowed}
use Rattle.semantics.specs.Annotate.{owned_depths, dying, NameDepths, full_style, annotate, annotated_in}
use Rattle.semantics.specs.Annotate.{annotated_body, depths_of, parameter_depths_from}
use Rattle.semantics.specs.Machine.{program, first_names}
use Rattle.semantics_lent.specs.Form.{must}
use Rattle.semantics_lent.specs.Fit.{Bound, nothing_bound, with_name, fit_tree, fit_parameters, fit_function}
use Rattle.laws.specs.Updates.{updated_same, updated_other}
use Rattle.discipline.proofs.machine.Discipline.{RoutineDisciplined, Scoped}
use Rattle.soundness.proofs.annotation.Reader as R
use Rattle.soundness.proofs.annotation.Reader.{FunctionLimits}
use Rattle.lent_soundness.specs.Passing.{new_parameters}
use Rattle.lent_passing.specs.Functions.{ParametersFormed, FunctionFormed}
use Rattle.lent_passing.specs.FitPasses.{Reaches, reach_then, after_tree, Once, Sees, tree_passes}
use Rattle.lent_passing.specs.Skeletons.{plain, plain_releases, plain_annotated, once_plain, plain_once}
use Rattle.lent_passing.specs.Skeletons.{nested_plain, plain_nested, Nested, binds, binds_plain}
use Rattle.lent_passing.specs.NormalOnce.{Below, not_yet, below_with, below_up, lines_once, end_then, Levelled}
use Rattle.lent_passing.specs.NormalOnce.{lines_nested, some_level}
use Rattle.lent_passing.specs.Levels.{AllOf}
use Rattle.lent_passing.specs.Forms.{Says, tree_formed}
use Rattle.lent_passing.specs.Accepts.{or_nothing, or_assoc}
use Rattle.lent_passing.specs.SameDepths.{after_off, after_it, tree_off}

-- ---- the tree of a function

module _ (fs : Script) (T : Table) (f : ℕ) (g : Function) where
  same_plain : plain (annotated_body fs T f g) ≡ plain (normal_body g)
  unfolding annotated_in
  same_plain =
      let Θ = owned_depths fs T f g in
      let t = normal_body g in
      plain_releases (dying Θ (λ x. ltb x (length g.parameters)) (uses t))
      (annotate full_style (borrows T) Θ t empty)
      ∙ plain_annotated full_style (borrows T) Θ t empty

  body_nested : Levelled 64 g.body → Nested 64 (annotated_body fs T f g)
  unfolding normal_body normal Nested
  body_nested l =
      nested_plain (annotated_body fs T f g) 64 (subst (Nested 64) (sym same_plain)
      (plain_nested (normal_body g) 64 (lines_nested g.body _ _ 64 _ l (some_level g.body 64 l))))

  body_once : (Γ : NameDepths) (M : Bound) → Below M.names (length g.parameters) →
      Once Γ (annotated_body fs T f g) M
  unfolding normal_body normal
  body_once Γ M b =
      let n = length g.parameters in
      let c = n + fresh g.body in
      once_plain Γ (annotated_body fs T f g) M (subst (λ (t : Tree). Once Γ t M) (sym same_plain)
      (plain_once Γ (normal_body g) M (lines_once Γ g.body (parameter_names g.parameters 0) n c
      (end (atom g.body (parameter_names g.parameters 0) n)) (end_then Γ _ c) M b).0))

  body_binds : binds (annotated_body fs T f g) ≡ binds (normal_body g)
  body_binds = sym (binds_plain (annotated_body fs T f g)) ∙ ap binds same_plain ∙ binds_plain (normal_body g)

-- ---- parameters

pub new_count : (xs : List Parameter) (n : ℕ) → length (new_parameters xs n) ≡ length xs
new_count [] n = refl
new_count (x ∷ xs) n = ap suc (new_count xs (suc n))

abbrev ids : List Parameter → List ℕ
ids xs = map (λ x. x.id) xs

-- what is bound after some parameters
unfoldable params_after : List Parameter → Bound → Bound
params_after [] N = N
params_after (x ∷ xs) N = params_after xs (with_name x.id x.depth N)

not_false : (a : Bool) → a ≡ false → not a ≡ true
not_false true e = absurd (false≢true (sym e))
not_false false e = refl

pub must_pass : (b : Bool) (q : ℕ) → b ≡ true → Reaches tt (must b q)
unfolding require
must_pass true q e = record { at = q; is = refl }
must_pass false q e = absurd (false≢true e)

-- new ones pass, and are below what comes after them
params_pass : (signatures : ℕ → Signature) (xs : List Parameter) (n : ℕ) (N : Bound) → Below N.names n → (q : ℕ) →
    Reaches (params_after (new_parameters xs n) N) (fit_parameters signatures (new_parameters xs n) N q)
unfolding fit_parameters params_after onward
params_pass signatures [] n N b q = record { at = q; is = refl }
params_pass signatures (x ∷ xs) n N b q =
    reach_then (must (not (N.names n))) _ q tt _
    (must_pass (not (N.names n)) q (not_false (N.names n) (not_yet N.names n n b (omega arith)))) (λ t.
    params_pass signatures xs (suc n) (with_name n x.depth N)
    (below_with N.names n (suc n) n b (omega arith) (omega arith)) (t + 1))

params_below : (xs : List Parameter) (n : ℕ) (N : Bound) → Below N.names n →
    Below (params_after (new_parameters xs n) N).names (n + length xs)
unfolding params_after
params_below [] n N b = below_up N.names n (n + 0) b (omega arith)
params_below (x ∷ xs) n N b =
    below_up _ (suc n + length xs) (n + suc (length xs)) (params_below xs (suc n) (with_name n x.depth N)
    (below_with N.names n (suc n) n b (omega arith) (omega arith))) (omega arith)

-- their depths are the script's
params_kept : (xs : List Parameter) (n : ℕ) (N : Bound) (y : ℕ) → y < n →
    (params_after (new_parameters xs n) N).depths y ≡ N.depths y
unfolding params_after
params_kept [] n N y h = refl
params_kept (x ∷ xs) n N y h =
    params_kept xs (suc n) (with_name n x.depth N) y (omega (arith, h))
    ∙ updated_other N.depths n x.depth y (λ e. omega (arith, h, e))

params_depths : (xs : List Parameter) (n : ℕ) (N : Bound) (y : ℕ) → n ≤ y → N.depths y ≡ 0 →
    (params_after (new_parameters xs n) N).depths y ≡ parameter_depths_from xs n y
unfolding params_after parameter_depths_from
params_depths [] n N y h e = e
params_depths (x ∷ xs) n N y h e = elim (dec_lt n y) [
  | yes l ↦
      params_depths xs (suc n) (with_name n x.depth N) y (omega (arith, l))
      (updated_other N.depths n x.depth y (λ z. omega (arith, l, z)) ∙ e)
      ∙ sym (updated_other (parameter_depths_from xs (suc n)) n x.depth y (λ z. omega (arith, l, z)))
  | no f ↦
      let z : n ≡ y = omega (arith, h, f) in
      subst (λ (v : ℕ). (params_after (new_parameters xs (suc n)) (with_name n x.depth N)).depths v
      ≡ updated (parameter_depths_from xs (suc n)) n x.depth v) z
      (params_kept xs (suc n) (with_name n x.depth N) n (omega arith) ∙ updated_same N.depths n x.depth
      ∙ sym (updated_same (parameter_depths_from xs (suc n)) n x.depth))
]

-- the names that are bound
params_names : (xs : List Parameter) (N : Bound) (y : ℕ) →
    (params_after xs N).names y ≡ (N.names y || just (ids xs) y)
unfolding params_after
params_names [] N y = or_nothing (N.names y)
params_names (x ∷ xs) N y =
    params_names xs (with_name x.id x.depth N) y ∙ or_assoc (N.names y) (eqb x.id y) (just (ids xs) y)

-- ---- one function

bool_cases : (b : Bool) → (b ≡ true) ⊎ (b ≡ false)
bool_cases true = inl refl
bool_cases false = inr refl

new_names : (xs : List Parameter) (n : ℕ) → ids (new_parameters xs n) ≡ tabulate n (length xs) (λ i. i)
unfolding tabulate
new_names [] n = refl
new_names (x ∷ xs) n = ap (λ (l : List ℕ). n ∷ l) (new_names xs (suc n))

-- the depth of the i-th parameter
depth_at : (xs : List Parameter) (n i : ℕ) → i < length xs →
    parameter_depths_from xs n (n + i) ≡ get_or (map (λ x. x.depth) xs) i 0
unfolding parameter_depths_from
depth_at [] n i h = absurd (omega (arith, h))
depth_at (x ∷ xs) n zero h =
    ap (updated (parameter_depths_from xs (suc n)) n x.depth) (let z : n + 0 ≡ n = omega arith in z)
    ∙ updated_same (parameter_depths_from xs (suc n)) n x.depth
depth_at (x ∷ xs) n (suc i) h =
    updated_other (parameter_depths_from xs (suc n)) n x.depth (n + suc i) (λ e. omega (arith, e))
    ∙ ap (parameter_depths_from xs (suc n)) (let z : n + suc i ≡ suc n + i = omega arith in z)
    ∙ depth_at xs (suc n) i (omega (arith, h))

mapped_at : (k n i : ℕ) (Γ : NameDepths) → i < k → get_or (map Γ (tabulate n k (λ j. j))) i 0 ≡ Γ (n + i)
unfolding tabulate
mapped_at zero n i Γ h = absurd (omega (arith, h))
mapped_at (suc k) n zero Γ h = ap Γ (let z : n ≡ n + 0 = omega arith in z)
mapped_at (suc k) n (suc i) Γ h =
    mapped_at k (suc n) i Γ (omega (arith, h)) ∙ ap Γ (let z : suc n + i ≡ n + suc i = omega arith in z)

params_formed : (xs : List Parameter) (n : ℕ) → n + length xs ≤ 256 → R.AllOf (λ x. x.depth ≤ 4) xs →
    ParametersFormed (new_parameters xs n)
params_formed [] n h d = tt
params_formed (x ∷ xs) n h d =
    ((omega (arith, h), d.0), params_formed xs (suc n) (omega (arith, h)) d.1)

module _ (fs : Script) (f : ℕ) (g : Function)
    (disciplined : RoutineDisciplined (program fs) ((program fs).borrowing f)
    (record {
      names = first_names g.parameters;
      tree = annotated_body fs (borrowed fs) f g;
      depths = depths_of fs g;
    })
    (record { parameters = map (λ x. x.depth) g.parameters; result = g.result })) where
  abbrev xs : List Parameter
  xs = new_parameters g.parameters 0

  abbrev Γ : NameDepths
  Γ = depths_of fs g

  abbrev t : Tree
  t = annotated_body fs (borrowed fs) f g

  abbrev M : Bound
  M = params_after xs nothing_bound

  -- the depths that are found
  M_depths : (y : ℕ) → M.depths y ≡ parameter_depths_from g.parameters 0 y
  M_depths y = params_depths g.parameters 0 nothing_bound y (omega arith) refl

  same_depths : (y : ℕ) → (after_tree Γ t M).depths y ≡ Γ y
  unfolding depths_of
  same_depths y = elim (bool_cases (binds t y)) [
    | inl h ↦ after_it Γ t M y h
    | inr h ↦ after_off Γ t M y h ∙ M_depths y
        ∙ sym (tree_off _ (normal_body g) (parameter_depths_from g.parameters 0) y
        (ap (λ (S : Set). S y) (sym (body_binds fs (borrowed fs) f g)) ∙ h))
  ]

  M_names : M.names ≡ just (first_names g.parameters)
  M_names = λ i y. (params_names xs nothing_bound y ∙ ap (λ (l : List ℕ). just l y) (new_names g.parameters 0)) i

  none_below : Below nothing_bound.names 0
  none_below = record { below = λ y h. absurd (false≢true h) }

  M_below : Below M.names (length g.parameters)
  M_below = below_up M.names (0 + length g.parameters) (length g.parameters)
      (params_below g.parameters 0 nothing_bound none_below) (omega arith)

  sees : Sees (program fs) Γ M.names M
  sees = record {
    inside = λ y h. h;
    alike = λ y h.
        let small : y < length g.parameters = M_below.below y h in
        let z : 0 + y ≡ y = omega arith in
        ap Γ (sym z) ∙ sym (mapped_at (length g.parameters) 0 y Γ small)
        ∙ ap (λ (l : List ℕ). get_or l y 0) disciplined.parameters
        ∙ sym (depth_at g.parameters 0 y small) ∙ ap (parameter_depths_from g.parameters 0) z ∙ sym (M_depths y);
  }

  -- the function passes, with the script's depths
  pub function_passes : (q : ℕ) →
      Reaches Γ (fit_function (program fs).signatures (record { parameters = xs; result = g.result; tree = t }) q)
  unfolding fit_function onward
  function_passes q =
      reach_then (fit_parameters (program fs).signatures xs nothing_bound) _ (q + 1) M _
      (params_pass (program fs).signatures g.parameters 0 nothing_bound none_below (q + 1)) (λ s.
      reach_then (fit_tree (program fs).signatures t (eqb g.result) M.names M) _ s
      (record { bound = after_tree Γ t M; depth = g.result }) _
      (tree_passes (program fs) Γ t g.result disciplined.fits M.names
      (subst (Scoped t) (sym M_names) disciplined.scoped) M (body_once fs (borrowed fs) f g Γ M M_below) sees
      (eqb g.result) (eq-eqb g.result g.result refl) s) (λ s₁.
      record { at = s₁; is = λ i. done (λ y. same_depths y i) s₁ }))

  -- and is in form
  pub function_formed : (arities : List (Option ℕ)) → Says (program fs) arities → FunctionLimits g →
      Levelled 64 g.body → length (C.rows t) ≤ 4096 →
      FunctionFormed arities (record { parameters = xs; result = g.result; tree = t })
  function_formed arities says limits levels short = record {
    few = omega (arith, limits.parameters, new_count g.parameters 0);
    result = limits.result;
    parameters = params_formed g.parameters 0 (omega (arith, limits.parameters)) limits.depths;
    tree = tree_formed (program fs) Γ arities says t g.result (just (first_names g.parameters)) 64
        disciplined.fits disciplined.scoped
        (record {
          below = λ y h. omega (
            arith,
            limits.parameters,
            M_below.below y (ap (λ (S : Set). S y) M_names ∙ h),
          );
        })
        (body_nested fs (borrowed fs) f g levels);
    short = short;
  }
