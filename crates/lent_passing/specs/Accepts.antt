-- `fits_say`: lent code that `form` and `fit` accept is what the soundness of holds asks for.
use Rattle.std.specs.Prelude.{ℕ, ◌≤◌, ◌+◌, ◌<◌, suc, zero, true, false, Bool, not, ◌||◌, ◌≡◌, refl, List, [], ◌∷◌}
use Rattle.std.specs.Prelude.{map, eqb, length, get_or}
use Rattle.prelude.specs.Kit.{arith, ◌∙◌, sym, ap, subst, ap₂, length-append, eqb-true, not-true}
use Rattle.semantics.specs.Outcome.{Outcome, done, stop, onward}
use Rattle.semantics.specs.Syntax.{Parameter}
use Rattle.semantics.specs.Types.{Signature, same}
use Rattle.semantics.specs.Code as C
use Rattle.semantics.specs.Live.{Set, just}
use Rattle.semantics.specs.Annotate.{NameDepths}
use Rattle.semantics.specs.Borrow.{Table}
use Rattle.semantics.specs.Machine.{Routine, no_routine, Program}
use Rattle.semantics_lent.specs.Form.{must, Lent}
use Rattle.semantics_lent.specs.Fit.{Bound, nothing_bound, with_name, Fitted, fit_tree, fit_parameters, fit_function}
use Rattle.semantics_lent.specs.Fit.{fit_functions, fit, lent_signature, lent_signatures, no_lent, is_main}
use Rattle.semantics_lent.specs.Calls.{lent_routines, lent_program}
use Rattle.discipline.proofs.machine.Discipline.{Fitting, Scoped, AllNew}
use Rattle.laws.specs.Tests.{same_lists}
use Rattle.laws.specs.Updates.{updated_same}
use Rattle.lent_soundness.specs.Functions.{AllFew}
use Rattle.lent_soundness.specs.Accepted.{RoutineFits, FitsSay}
use Rattle.lent_passing.specs.Ends.{Ends, ends_then, ends_more, ends_required, ended}
use Rattle.lent_passing.specs.Functions.{parameter_row, lent_function, lent_code, ParametersFormed}
use Rattle.lent_passing.specs.SaidFunctions.{Lined, AllLined, form_said}
use Rattle.lent_passing.specs.Fits.{both, Grows, grows_trans, Few, few_with, bound_with, with_has, map_alike}
use Rattle.lent_passing.specs.FitTrees.{TreeFits, tree_fits}

-- ---- parameters

abbrev pub ids : List Parameter → List ℕ
ids xs = map (λ x. x.id) xs

abbrev pub depths_in : List Parameter → List ℕ
depths_in xs = map (λ x. x.depth) xs

-- parameters bound after N
pub record ParametersFit (xs : List Parameter) (N M : Bound) : Type 0 where
  pub grows : Grows N M
  pub few : Few M.depths
  pub names : (y : ℕ) → M.names y ≡ (N.names y || just (ids xs) y)
  pub depths : map M.depths (ids xs) ≡ depths_in xs
  pub new : AllNew (ids xs) N.names

pub or_nothing : (a : Bool) → a ≡ (a || false)
or_nothing true = refl
or_nothing false = refl

pub or_assoc : (a b c : Bool) → ((a || b) || c) ≡ (a || (b || c))
or_assoc true b c = refl
or_assoc false b c = refl

pub parameters_fit : (signatures : ℕ → Signature) (xs : List Parameter) (N : Bound) → ParametersFormed xs →
    Few N.depths → (q : ℕ) → Ends (λ (M : Bound) (s : ℕ). ParametersFit xs N M) (fit_parameters signatures xs N q)
unfolding fit_parameters onward
parameters_fit signatures [] N F few q = record {
  grows = record { names = λ y h. h; depths = λ y h. refl };
  few = few;
  names = λ y. or_nothing (N.names y);
  depths = refl;
  new = tt;
}
parameters_fit signatures (x ∷ xs) N F few q =
    let b = not (N.names x.id) in
    let M = with_name x.id x.depth N in
    ends_then (λ (u : Unit {0}) (s : ℕ). (b ≡ true) × (s ≡ q)) _ _ (must b q) (ends_required b 29 q) (λ u s h.
    let new = not-true (N.names x.id) h.0 in
    ends_more (λ (O : Bound) (s : ℕ). ParametersFit xs M O) (λ O s. ParametersFit (x ∷ xs) N O)
    (fit_parameters signatures xs M (s + 1))
    (parameters_fit signatures xs M F.1 (few_with N.depths x.id x.depth F.0.0 few) (s + 1)) (λ O t g.
    record {
      grows = grows_trans N M O (bound_with N x.id x.depth new) g.grows;
      few = g.few;
      names = λ y. g.names y ∙ or_assoc (N.names y) (eqb x.id y) (just (ids xs) y);
      depths = ap₂ (λ (d : ℕ) (ds : List ℕ). d ∷ ds)
          (g.grows.depths x.id (with_has N x.id x.depth) ∙ updated_same N.depths x.id x.depth)
          g.depths;
      new = (record { unknown = new; small = F.0.0 }, g.new);
    }))

-- ---- functions

abbrev routine : Lent → NameDepths → Routine
routine g Γ = record { names = ids g.parameters; tree = g.tree; depths = Γ }

pub record FunctionFits (p : Program) (g : Lent) (Γ : NameDepths) : Type 0 where
  pub few : Few Γ
  pub fits : RoutineFits p (routine g Γ) (lent_signature g)

module _ (p : Program) where
  function_fits : (g : Lent) → Lined (length p.routines) g → (q : ℕ) →
      Ends (λ (Γ : NameDepths) (s : ℕ). FunctionFits p g Γ) (fit_function p.signatures g q)
  unfolding fit_function onward
  function_fits g F q =
      let xs = g.parameters in
      ends_then (λ (M : Bound) (s : ℕ). ParametersFit xs nothing_bound M) _ _
      (fit_parameters p.signatures xs nothing_bound (q + 1))
      (parameters_fit p.signatures xs nothing_bound F.parameters (λ y h. refl) (q + 1)) (λ M s h.
      let names : M.names ≡ just (ids xs) = λ i y. h.names y i in
      ends_then (λ (A : Fitted) (s : ℕ). TreeFits p g.tree (eqb g.result) M.names M A) _ _
      (fit_tree p.signatures g.tree (eqb g.result) M.names M s)
      (tree_fits p g.tree 64 F.tree (eqb g.result) M.names M (λ y k. k) h.few s) (λ A t k. record {
        few = k.few;
        fits = record {
          parameters = map_alike (ids xs) A.bound.depths M.depths
              (λ y v. k.grows.depths y (ap (λ (S : Set). S y) names ∙ v))
              ∙ h.depths;
          new = h.new;
          fits = subst (Fitting p A.bound.depths g.tree) (sym (eqb-true g.result A.depth k.given))
              (k.fits A.bound.depths (λ y v c. refl));
          scoped = subst (Scoped g.tree) names k.scoped;
        };
      }))

  abbrev pub AllFit : List Lent → List NameDepths → Type 0
  AllFit [] [] = Unit {0}
  AllFit [] (Γ ∷ Γs) = ⊥
  AllFit (g ∷ gs) [] = ⊥
  AllFit (g ∷ gs) (Γ ∷ Γs) = FunctionFits p g Γ × AllFit gs Γs

  functions_fit : (gs : List Lent) → AllLined (length p.routines) gs → (q : ℕ) →
      Ends (λ (Γs : List NameDepths) (s : ℕ). AllFit gs Γs) (fit_functions p.signatures gs q)
  unfolding fit_functions
  functions_fit [] F q = tt
  functions_fit (g ∷ gs) F q =
      ends_then (λ (Γ : NameDepths) (s : ℕ). FunctionFits p g Γ) _ _ (fit_function p.signatures g q)
      (function_fits g F.0 q) (λ Γ s h.
      ends_then (λ (Γs : List NameDepths) (s : ℕ). AllFit gs Γs) (λ Γs t. AllFit (g ∷ gs) Γs) _
      (fit_functions p.signatures gs s) (functions_fit gs F.1 s) (λ Γs t k. (h, k)))

-- as many tables as functions
fit_count : (signatures : ℕ → Signature) (gs : List Lent) (q : ℕ) →
    Ends (λ (Γs : List NameDepths) (s : ℕ). length Γs ≡ length gs) (fit_functions signatures gs q)
unfolding fit_functions
fit_count signatures [] q = refl
fit_count signatures (g ∷ gs) q =
    ends_then (λ (Γ : NameDepths) (s : ℕ). Unit {0}) _ _ (fit_function signatures g q)
    (anything (fit_function signatures g q))
    (λ Γ s h.
    ends_then (λ (Γs : List NameDepths) (s : ℕ). length Γs ≡ length gs) (λ Γs t. length Γs ≡ suc (length gs)) _
    (fit_functions signatures gs s) (fit_count signatures gs s) (λ Γs t k. ap suc k))
  where
    anything : (o : Outcome ℕ NameDepths) → Ends (λ (Γ : NameDepths) (s : ℕ). Unit {0}) o
    anything (done Γ s) = tt
    anything (stop n s) = tt

routines_count : (gs : List Lent) (Γs : List NameDepths) → length Γs ≡ length gs →
    length (lent_routines gs Γs) ≡ length gs
unfolding lent_routines
routines_count [] Γs e = refl
routines_count (g ∷ gs) [] e = absurd (omega (arith, e))
routines_count (g ∷ gs) (Γ ∷ Γs) e = ap suc (routines_count gs Γs (omega (arith, e)))

fit_at : (p : Program) (gs : List Lent) (Γs : List NameDepths) → AllFit p gs Γs → (f : ℕ) → f < length gs →
    RoutineFits p (get_or (lent_routines gs Γs) f no_routine) (lent_signature (get_or gs f no_lent))
unfolding lent_routines
fit_at p [] Γs h f q = absurd (omega (arith, q))
fit_at p (g ∷ gs) [] h f q = absurd h
fit_at p (g ∷ gs) (Γ ∷ Γs) h zero q = h.0.fits
fit_at p (g ∷ gs) (Γ ∷ Γs) h (suc f) q = fit_at p gs Γs h.1 f (omega (arith, q))

all_few : (p : Program) (gs : List Lent) (Γs : List NameDepths) → AllFit p gs Γs → AllFew (lent_routines gs Γs)
unfolding lent_routines
all_few p [] Γs h = tt
all_few p (g ∷ gs) [] h = tt
all_few p (g ∷ gs) (Γ ∷ Γs) h = (h.0.few, all_few p gs Γs h.1)

rows_most : (gs : List Lent) (Γs : List NameDepths) → length Γs ≡ length gs → (f : ℕ) → f < length gs →
    length (C.rows (get_or (lent_routines gs Γs) f no_routine).tree) ≤ length (lent_code gs)
unfolding lent_routines lent_code
rows_most [] Γs e f q = absurd (omega (arith, q))
rows_most (g ∷ gs) [] e f q = absurd (omega (arith, e))
rows_most (g ∷ gs) (Γ ∷ Γs) e zero q =
    omega (
      arith,
      length-append (lent_function g) (lent_code gs),
      length-append (map parameter_row g.parameters) (C.rows g.tree),
    )
rows_most (g ∷ gs) (Γ ∷ Γs) e (suc f) q =
    omega (
      arith,
      rows_most gs Γs (omega (arith, e)) f (omega (arith, q)),
      length-append (lent_function g) (lent_code gs),
    )

-- ---- the whole code

main_is : (d : ℕ) (s : Signature) → is_main d s ≡ true → s ≡ record { parameters = d ∷ 1 ∷ []; result = d }
main_is d s h =
    let b = both (same s.parameters (d ∷ 1 ∷ [])) (eqb s.result d) h in
    ap₂ (λ (ds : List ℕ) (r : ℕ). record { parameters = ds; result = r })
    (same_lists s.parameters (d ∷ 1 ∷ []) b.0) (eqb-true s.result d b.1)

module _ (d : ℕ) (gs : List Lent) (Γs : List NameDepths) where
  -- what the walk over all functions tells
  fit_tells : (P : List NameDepths → Type 0) → ((q : ℕ) →
      Ends (λ (Γs : List NameDepths) (s : ℕ). P Γs) (fit_functions (lent_signatures gs) gs q)) → (n : ℕ) →
      fit d gs ≡ done Γs n → P Γs × (is_main d (lent_signatures gs 0) ≡ true)
  unfolding fit
  fit_tells P h n e =
      let b = is_main d (lent_signatures gs 0) in
      ended (λ (l : List NameDepths) (s : ℕ). P l × (b ≡ true)) (fit d gs) Γs n
      (ends_then (λ (u : Unit {0}) (s : ℕ). (b ≡ true) × (s ≡ 0)) (λ l s. P l × (b ≡ true)) _ (must b 0)
      (ends_required b 29 0) (λ u s g.
      ends_more (λ (l : List NameDepths) (t : ℕ). P l) (λ l t. P l × (b ≡ true))
      (fit_functions (lent_signatures gs) gs s)
      (h s) (λ l t k. (k, g.0)))) e

pub fits_say : FitsSay
fits_say kinds operands d lines q gs Γs e f =
    let s = form_said kinds operands gs lines e in
    let n : length Γs ≡ length gs =
    (fit_tells d gs Γs (λ (l : List NameDepths). length l ≡ length gs) (fit_count (lent_signatures gs) gs) q f).0 in
    let m = routines_count gs Γs n in
    let lined : AllLined (length (lent_routines gs Γs)) gs = subst (λ (k : ℕ). AllLined k gs) (sym m) s.lined in
    let all : (T : Table) → AllFit (lent_program d gs Γs T) gs Γs =
    λ T. (fit_tells d gs Γs (AllFit (lent_program d gs Γs T) gs) (functions_fit (lent_program d gs Γs T) gs lined) q f).0
    in
    record {
      many = m;
      some = s.some;
      functions = λ T f h. fit_at (lent_program d gs Γs T) gs Γs (all T) f h;
      few = all_few (lent_program d gs Γs []) gs Γs (all []);
      short = λ f h. omega (arith, rows_most gs Γs n f h, s.count, s.short);
      main = main_is d (lent_signatures gs 0)
          (fit_tells d gs Γs (λ (l : List NameDepths). length l ≡ length gs)
          (fit_count (lent_signatures gs) gs) q f).1;
    }
