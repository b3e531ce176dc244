-- `functions_in_disciplined`, `functions_in_frugal`: every function of an accepted script is so, in every style.
-- `main_shape_of`: main has main's shape.
use Rattle.prelude.specs.Kit.{ℕ, ◌≤◌, ◌+◌, suc, zero, arith, true, false, Bool, cond, ◌≡◌, refl, sym, ap, subst, some}
use Rattle.prelude.specs.Kit.{none, Option, List, [], ◌∷◌, ltb, length, get_or, ltb-false}
use Rattle.script_laws.specs.Admitted.{no_script}
use Rattle.semantics.specs.Basics.{least, updated}
use Rattle.semantics.specs.Outcome.{Outcome, done, stop}
use Rattle.semantics.specs.Syntax.{Expr, Parameter, Function, Script, no_function, function_size, main_depth}
use Rattle.semantics.specs.File.{read_file}
use Rattle.semantics.specs.Names.{Scope, unknown_from, unknown_in, name_faults}
use Rattle.semantics.specs.Types.{all_are, check, parameter_depths, result_rule, check_function, function_faults}
use Rattle.semantics.specs.Types.{signatures_of, main_shape, type_faults}
use Rattle.semantics.specs.Normal.{fresh, too_many_names_from, too_many_names}
use Rattle.semantics.specs.Calls.{Verdict, accepted, refused, judged_script, judged_read, judged}
use Rattle.semantics.specs.Annotate.{Style, full_style}
use Rattle.semantics.specs.Machine.{program_in, program}
use Rattle.laws.specs.Tests.{not_some, some_if_holds, all_equal, same_lists}
use Rattle.discipline.proofs.machine.Discipline.{FunctionDisciplined, FunctionFrugal}
use Rattle.soundness.proofs.annotation.Typed.{Limited, Called, Functions, Typed}
use Rattle.laws.specs.Lists.{append_empty}
use Rattle.laws.specs.Routines.{length_routines}
use Rattle.soundness.proofs.annotation.Rules.{with_if_empty, node_parts, node_depth}
use Rattle.soundness.proofs.annotation.Calling.{body_called}
use Rattle.soundness.proofs.annotation.Checking.{check_typed}
use Rattle.soundness.proofs.annotation.Parameters.{written, written_known, Distinct}
use Rattle.soundness.proofs.annotation.Functions.{functions_in, Accepted}
use Rattle.soundness.proofs.annotation.Routines.{all_disciplined, all_frugal}
use Rattle.soundness.proofs.annotation.Reader.{After, AllOf, FunctionLimits, ScriptLimits, file_limited}

-- ---- what an accepting verdict says

script_of : Verdict → Script
script_of (accepted fs) = fs
script_of (refused n p) = []

-- a script that is read, within limits and without fault
pub record Clean (fs : Script) : Type 0 where
  pub limits : ScriptLimits fs
  pub names : name_faults fs ≡ []
  pub types : type_faults fs ≡ []
  pub roomy : too_many_names fs ≡ none

script_clean : (gs fs : Script) (ps qs : List ℕ) (o : Option ℕ) → judged_script gs ps qs o ≡ accepted fs →
    (gs ≡ fs) × (ps ≡ []) × (qs ≡ []) × (o ≡ none)
unfolding script_of
script_clean gs fs [] [] none e = (ap script_of e, refl, refl, refl)
script_clean gs fs [] [] (some p) e = no_script 8 p fs e
script_clean gs fs [] (q ∷ qs) o e = no_script 7 (least q qs) fs e
script_clean gs fs (p ∷ ps) qs o e = no_script 6 (least p ps) fs e

pub judged_clean : (file : List ℕ) (fs : Script) → judged file ≡ accepted fs → Clean fs
unfolding judged
judged_clean file fs = go (read_file file) (file_limited file)
  where
    go : (o : Outcome ℕ Script) → After ScriptLimits o → judged_read o ≡ accepted fs → Clean fs
    go (done gs p) l e =
        let clean = script_clean gs fs (name_faults gs) (type_faults gs) (too_many_names gs) e in
        subst Clean clean.0 (record { limits = l; names = clean.1; types = clean.2; roomy = clean.3 })
    go (stop n p) l e = no_script n p fs e

-- ---- one function

distinct_of : (functions : ℕ) (xs : List Parameter) (known : Scope) (p : ℕ) (e : Expr) →
    unknown_from functions xs known p e ≡ [] →
    Distinct xs known
unfolding unknown_from
distinct_of functions [] known p e h = tt
distinct_of functions (x ∷ xs) known p e h =
    let parts = with_if_empty (known x.id) p (unknown_from functions xs (updated known x.id true) (p + 1) e) h in
    (parts.0, distinct_of functions xs (updated known x.id true) (p + 1) e parts.1)

-- a function node without fault: its shape is right, and its body has the result's depth
function_typed : (F : Functions) (shape : Bool) (g : Function) (p : ℕ) → Limited g.body →
    Called F.number g.body → (check_function F.signatures shape g p).faults ≡ [] →
    (shape ≡ true) × Typed F g.body (written g.parameters (λ _. 0)) g.result
unfolding check_function
function_typed F false g p l called e = absurd (omega (arith, ap length e))
function_typed F true g p l called e =
    let signatures = F.signatures in
    let Δ = parameter_depths signatures g.parameters (λ _. some 0) in
    let δ = written g.parameters (λ _. 0) in
    let at = p + 1 + length g.parameters in
    let c = check signatures g.body Δ at in
    let rule = result_rule signatures g.result in
    let found = check_typed F g.body Δ δ at l called
    (written_known signatures g.parameters (λ _. some 0) (λ _. 0) (record { depth = λ y. refl }))
    (append_empty c.faults [] (node_parts p rule (c ∷ []) e)).0 in
    let whole = node_depth p rule (c ∷ []) (found.0 ∷ []) e (found.1, tt) in
    let holds = some_if_holds (all_are g.result (found.0 ∷ [])) g.result whole.0 whole.2 in
    (refl, subst (Typed F g.body δ) (all_equal g.result (found.0 ∷ []) holds.0).0 found.2)

-- ---- all functions

none_accepted : (fs : Script) → Accepted fs no_function
unfolding fresh
none_accepted fs = record { typed = refl; distinct = tt; few = omega arith }

roomy_here : (b : Bool) (p : ℕ) (o : Option ℕ) → cond b (some p) o ≡ none → (b ≡ false) × (o ≡ none)
roomy_here true p o e = not_some p (sym e)
roomy_here false p o e = (refl, e)

-- some functions of the script fs from node p on, without fault
pub record Faultless (fs : Script) (functions : ℕ) (shape : Bool) (gs : List Function) (p : ℕ) : Type 0 where
  pub names : unknown_in functions gs p ≡ []
  pub types : function_faults (signatures_of fs) shape gs p ≡ []
  pub roomy : too_many_names_from gs p ≡ none

module _ (fs : Script) (functions : ℕ) where
  first_accepted : functions ≡ (functions_in fs).number → (shape : Bool) (g : Function) (gs : List Function) (p : ℕ) →
      FunctionLimits g → Faultless fs functions shape (g ∷ gs) p → Accepted fs g
  unfolding unknown_in function_faults too_many_names_from program_in
  first_accepted same shape g gs p l h =
      let crowd = length g.parameters + fresh g.body in
      let called = body_called functions g.parameters (λ _. false) (p + 1) g.body
      (append_empty (unknown_from functions g.parameters (λ _. false) (p + 1) g.body) _ h.names).0 in
      record {
        typed = (function_typed (functions_in fs) shape g p l.body (subst (λ n. Called n g.body) same called)
            (append_empty (check_function (signatures_of fs) shape g p).faults _ h.types).0).1;
        distinct = distinct_of functions g.parameters (λ _. false) (p + 1) g.body
            (append_empty (unknown_from functions g.parameters (λ _. false) (p + 1) g.body) _ h.names).0;
        few = ltb-false 256 crowd (roomy_here (ltb 256 crowd) p (too_many_names_from gs (p + function_size g))
            h.roomy).0;
      }

  rest_faultless : (shape : Bool) (g : Function) (gs : List Function) (p : ℕ) →
      Faultless fs functions shape (g ∷ gs) p → Faultless fs functions true gs (p + function_size g)
  unfolding unknown_in function_faults too_many_names_from
  rest_faultless shape g gs p h =
      let crowd = length g.parameters + fresh g.body in
      record {
        names = (append_empty (unknown_from functions g.parameters (λ _. false) (p + 1) g.body) _ h.names).1;
        types = (append_empty (check_function (signatures_of fs) shape g p).faults _ h.types).1;
        roomy = (roomy_here (ltb 256 crowd) p (too_many_names_from gs (p + function_size g)) h.roomy).1;
      }

  pub accepted_at : functions ≡ (functions_in fs).number → (shape : Bool) (gs : List Function) (p f : ℕ) →
      AllOf FunctionLimits gs → Faultless fs functions shape gs p → Accepted fs (get_or gs f no_function)
  accepted_at same shape [] p f l h = none_accepted fs
  accepted_at same shape (g ∷ gs) p zero l h = first_accepted same shape g gs p l.0 h
  accepted_at same shape (g ∷ gs) p (suc f) l h =
      accepted_at same true gs (p + function_size g) f l.1 (rest_faultless shape g gs p h)

-- ---- accepted scripts

pub all_accepted : (file : List ℕ) (fs : Script) → judged file ≡ accepted fs → (f : ℕ) →
    Accepted fs (get_or fs f no_function)
unfolding name_faults type_faults program_in
all_accepted file fs e f =
    let clean = judged_clean file fs e in
    let shape = main_shape (signatures_of fs 0) in
    let faultless : Faultless fs (length fs) shape fs 0 =
    record { names = clean.names; types = clean.types; roomy = clean.roomy } in
    accepted_at fs (length fs) (sym (length_routines fs)) shape fs 0 f clean.limits.1 faultless

pub functions_in_disciplined : (style : Style) (file : List ℕ) (fs : Script) → judged file ≡ accepted fs → (f : ℕ) →
    FunctionDisciplined (program_in style fs) f
unfolding program_in
functions_in_disciplined style file fs e f = all_disciplined style fs (all_accepted file fs e) f

pub functions_in_frugal : (style : Style) (file : List ℕ) (fs : Script) → judged file ≡ accepted fs → (f : ℕ) →
    FunctionFrugal (program_in style fs) f
unfolding program_in
functions_in_frugal style file fs e f = all_frugal style fs (all_accepted file fs e) f

pub functions_disciplined : (file : List ℕ) (fs : Script) → judged file ≡ accepted fs → (f : ℕ) →
    FunctionDisciplined (program fs) f
functions_disciplined = functions_in_disciplined full_style

-- a script has a first function
shaped : (fs : Script) (shape : Bool) (gs : List Function) → 1 ≤ length gs →
    function_faults (signatures_of fs) shape gs 0 ≡ [] → shape ≡ true
unfolding function_faults check_function
shaped fs true gs h e = refl
shaped fs false [] h e = absurd (omega arith)
shaped fs false (g ∷ gs) h e = absurd (omega (arith, ap length e))

shallow : (gs : List Function) → AllOf FunctionLimits gs → (get_or gs 0 no_function).result ≤ 4
shallow [] l = omega arith
shallow (g ∷ gs) l = l.0.result

-- main takes the totals and the readings, and gives new totals, of depth 4 at most
pub main_shape_of : (file : List ℕ) (fs : Script) → judged file ≡ accepted fs →
    (signatures_of fs 0 ≡ record { parameters = main_depth fs ∷ 1 ∷ []; result = main_depth fs }) × (main_depth fs ≤ 4)
unfolding type_faults
main_shape_of file fs e =
    let clean = judged_clean file fs e in
    let s = signatures_of fs 0 in
    let shape = shaped fs (main_shape s) fs clean.limits.0 clean.types in
    let parameters = same_lists s.parameters (s.result ∷ 1 ∷ []) shape in
    (λ i. record { parameters = parameters i; result = main_depth fs }, shallow fs clean.limits.1)
