-- `running_is_meaning`: running the code of a script on values is the script's meaning, for every script, function and
-- arguments, in whatever style the code is annotated.
use Rattle.prelude.specs.Kit.{ℕ, suc, zero, ◌≡◌, refl, ◌∙◌, ap, List, [], ◌∷◌, length, get_or}
use Rattle.semantics.specs.Basics.{tabulate}
use Rattle.semantics.specs.Value.{Value}
use Rattle.semantics.specs.Syntax.{Function, Script, no_function, function_at}
use Rattle.semantics.specs.Meaning.{Meter, Callee, eval, bound, meaning}
use Rattle.semantics.specs.Normal.{atom, lines, normal, normal_body, parameter_names}
use Rattle.semantics.specs.Annotate.{Style, full_style}
use Rattle.semantics.specs.Borrow.{Table, borrowed}
use Rattle.semantics.specs.Machine.{first_names, routines_from, no_routine, program_in, program}
use Rattle.semantics.specs.Plain.{run, valued, running}
use Rattle.discipline.proofs.normal.Lines.{normal_run}
use Rattle.discipline.proofs.normal.Retains.{run_annotated}
use Rattle.discipline.proofs.normal.Parameters.{parameters_agree}

body_run : (callee : Callee) (g : Function) (vs : List Value) →
    run callee (normal_body g) (valued (first_names g.parameters) vs)
    ≡ eval callee g.body (bound g.parameters vs)
unfolding normal_body
body_run callee g vs =
    normal_run callee g.body (parameter_names g.parameters 0) (bound g.parameters vs)
    (valued (first_names g.parameters) vs) (length g.parameters) (parameters_agree g.parameters vs)

-- a routine is its function's body; a number that is no function's gives 0
routine_run : (callee : Callee) (style : Style) (fs : Script) (T : Table) (k : ℕ) (gs : List Function) (f : ℕ) →
    run callee (get_or (routines_from style fs T k gs) f no_routine).tree ≡
    run callee (normal_body (get_or gs f no_function))
unfolding routines_from normal_body normal lines atom
routine_run callee style fs T k [] f = refl
routine_run callee style fs T k (g ∷ gs) zero = run_annotated callee style fs T k g
routine_run callee style fs T k (g ∷ gs) (suc f) = routine_run callee style fs T (suc k) gs f

-- and its parameters are those of the function
routine_names : (style : Style) (fs : Script) (T : Table) (k : ℕ) (gs : List Function) (f : ℕ) →
    (get_or (routines_from style fs T k gs) f no_routine).names ≡ first_names (get_or gs f no_function).parameters
unfolding routines_from tabulate
routine_names style fs T k [] f = refl
routine_names style fs T k (g ∷ gs) zero = refl
routine_names style fs T k (g ∷ gs) (suc f) = routine_names style fs T (suc k) gs f

pub running_in_style : (style : Style) (fs : Script) (n f : ℕ) (vs : List Value) (m : Meter) →
    running (program_in style fs) n f vs m ≡ meaning fs n f vs m
unfolding running meaning program_in
running_in_style style fs zero f vs m = refl
running_in_style style fs (suc n) f vs m =
    let g = function_at fs f in
    let p = program_in style fs in
    let callees : running p n ≡ meaning fs n = λ i h us r. running_in_style style fs n h us r i in
    let same =
    (λ i. routine_run (running p n) style fs (borrowed fs) 0 fs f i
    (valued (routine_names style fs (borrowed fs) 0 fs f i) vs))
    ∙ body_run (running p n) g vs
    ∙ ap (λ c. eval c g.body (bound g.parameters vs)) callees in
    λ i. same i m

pub running_is_meaning : (fs : Script) (n f : ℕ) (vs : List Value) (m : Meter) →
    running (program fs) n f vs m ≡ meaning fs n f vs m
running_is_meaning = running_in_style full_style
