-- `code_passes`: all code from the translator passes.
use Rattle.std.specs.Prelude.{ℕ, ◌≤◌, ◌+◌, ◌<◌, ◌-◌, suc, zero, ◌*◌, true, Bool, ◌&&◌, ◌≡◌, refl, List, [], ◌∷◌, ◌++◌}
use Rattle.std.specs.Prelude.{map, length, get_or}
use Rattle.prelude.specs.Kit.{arith, ◌∙◌, sym, ap, subst, ap₂, some, none, Option, length-append, length-map, eq-eqb}
use Rattle.semantics.specs.Outcome.{done}
use Rattle.semantics.specs.Syntax.{Parameter, Function, Script, function_at, no_function, main_depth}
use Rattle.semantics.specs.Types.{Signature, signatures_of, same}
use Rattle.semantics.specs.Code as C
use Rattle.semantics.specs.Code.{Row, row}
use Rattle.semantics.specs.Borrow.{Table, borrowed}
use Rattle.semantics.specs.Annotate.{annotated_body, depths_of, code, parameter_rows, function_rows, functions_rows}
use Rattle.semantics.specs.Machine.{program, program_in, Routine, first_names}
use Rattle.semantics.specs.Calls.{accepted, judged}
use Rattle.semantics_lent.specs.Form.{Lent, form, arities_of, must}
use Rattle.semantics_lent.specs.Fit.{fit_function, fit_functions, fit, lent_signatures, is_main}
use Rattle.laws.specs.Routines.{length_routines, routine_is}
use Rattle.discipline.proofs.machine.Discipline.{RoutineDisciplined}
use Rattle.soundness.proofs.annotation.Reader as R
use Rattle.soundness.proofs.annotation.Reader.{FunctionLimits}
use Rattle.soundness.proofs.annotation.Accepting.{judged_clean, functions_disciplined, main_shape_of}
use Rattle.semantics_lent.specs.Hold.{lent_table}
use Rattle.semantics_lent.specs.Calls.{lent_program, judged_holds, judged_depths, judged_form, judged_code}
use Rattle.lent_soundness.specs.Passing.{new_parameters, lents_from, lents_of, depths_in, code_holds}
use Rattle.lent_passing.specs.Functions.{parameter_row, lent_function, lent_code, FunctionsFormed}
use Rattle.lent_passing.specs.Arities.{arity, Stated, arities_are}
use Rattle.lent_passing.specs.Words.{kinds_array, operands_array, form_reads}
use Rattle.lent_passing.specs.FitPasses.{Reaches, reach_then}
use Rattle.lent_passing.specs.Levels.{AllOf, Bodied, judged_levelled}
use Rattle.lent_passing.specs.Forms.{Says}
use Rattle.lent_passing.specs.TranslatedFunction.{new_count, must_pass, function_passes, function_formed}

-- ---- the rows of the code

new_rows : (xs : List Parameter) (n : ℕ) → map parameter_row (new_parameters xs n) ≡ parameter_rows xs n
unfolding parameter_rows
new_rows [] n = refl
new_rows (x ∷ xs) n = ap (λ (l : List Row). row 1 (n + 256 * x.depth) ∷ l) (new_rows xs (suc n))

rows_are : (fs : Script) (T : Table) (f : ℕ) (gs : List Function) →
    lent_code (lents_from fs T f gs) ≡ functions_rows fs T f gs
unfolding lent_code functions_rows function_rows
rows_are fs T f [] = refl
rows_are fs T f (g ∷ gs) =
    let xs = g.parameters in
    λ i. (row 0 (new_count xs 0 i + 256 * g.result) ∷ (new_rows xs 0 i ++ C.rows (annotated_body fs T f g)))
    ++ rows_are fs T (suc f) gs i

pub code_rows : (fs : Script) → lent_code (lents_of fs) ≡ code fs
unfolding code
code_rows fs = rows_are fs (borrowed fs) 0 fs

-- ---- all functions

same_self : (ds : List ℕ) → same ds ds ≡ true
same_self [] = refl
same_self (d ∷ ds) = ap (λ (b : Bool). b && same ds ds) (eq-eqb d d refl) ∙ same_self ds

-- the functions of a script from number f on
pub record Suffix (fs : Script) (f : ℕ) (gs : List Function) : Type 0 where
  pub whole : f + length gs ≡ length fs
  pub at : (i : ℕ) → i < length gs → function_at fs (f + i) ≡ get_or gs i no_function

suffix_first : (fs : Script) (f : ℕ) (g : Function) (gs : List Function) → Suffix fs f (g ∷ gs) → function_at fs f ≡ g
suffix_first fs f g gs s =
    ap (function_at fs) (let z : f ≡ f + 0 = omega arith in z) ∙ s.at 0 (omega arith)

suffix_rest : (fs : Script) (f : ℕ) (g : Function) (gs : List Function) → Suffix fs f (g ∷ gs) → Suffix fs (suc f) gs
suffix_rest fs f g gs s = record {
  whole = omega (arith, s.whole);
  at = λ i h. ap (function_at fs) (let z : suc f + i ≡ f + suc i = omega arith in z) ∙ s.at (suc i) (omega (arith, h));
}

module _ (file : List ℕ) (fs : Script) (ok : judged file ≡ accepted fs) where
  abbrev T : Table
  T = borrowed fs

  abbrev gs : List Lent
  gs = lents_of fs

  routine_disciplined : (f : ℕ) (g : Function) → f < length fs → function_at fs f ≡ g →
      RoutineDisciplined (program fs) ((program fs).borrowing f)
      (record { names = first_names g.parameters; tree = annotated_body fs T f g; depths = depths_of fs g })
      (record { parameters = map (λ x. x.depth) g.parameters; result = g.result })
  unfolding program_in
  routine_disciplined f g h e =
      subst (λ (k : Function). RoutineDisciplined (program fs) ((program fs).borrowing f)
      (record { names = first_names k.parameters; tree = annotated_body fs T f k; depths = depths_of fs k })
      (record { parameters = map (λ x. x.depth) k.parameters; result = k.result })) e
      (subst (λ (r : Routine). RoutineDisciplined (program fs) ((program fs).borrowing f) r (signatures_of fs f))
      (routine_is fs f h) (functions_disciplined file fs ok f))

  functions_pass : (f : ℕ) (hs : List Function) → Suffix fs f hs → (q : ℕ) →
      Reaches (map (depths_of fs) hs) (fit_functions (program fs).signatures (lents_from fs T f hs) q)
  unfolding fit_functions
  functions_pass f [] s q = record { at = q; is = refl }
  functions_pass f (g ∷ hs) s q =
      reach_then (fit_function (program fs).signatures _) _ q (depths_of fs g) _
      (function_passes fs f g (routine_disciplined f g (omega (arith, s.whole)) (suffix_first fs f g hs s)) q) (λ t.
      reach_then (fit_functions (program fs).signatures (lents_from fs T (suc f) hs)) _ t (map (depths_of fs) hs) _
      (functions_pass (suc f) hs (suffix_rest fs f g hs s) t) (λ u. record { at = u; is = refl }))

  functions_formed : (arities : List (Option ℕ)) → Says (program fs) arities → (f : ℕ) (hs : List Function) →
      Suffix fs f hs → R.AllOf FunctionLimits hs → AllOf Bodied hs → length (lent_code (lents_from fs T f hs)) ≤ 4096 →
      FunctionsFormed arities (lents_from fs T f hs)
  unfolding lent_code
  functions_formed arities says f [] s l b short = tt
  functions_formed arities says f (g ∷ hs) s l b short =
      let k : Lent = record {
        parameters = new_parameters g.parameters 0;
        result = g.result;
        tree = annotated_body fs T f g;
      } in
      let z = length-append (lent_function k) (lent_code (lents_from fs T (suc f) hs)) in (
        function_formed fs f g (routine_disciplined f g (omega (arith, s.whole)) (suffix_first fs f g hs s))
            arities says
            l.0 b.0
            (omega (
              arith,
              short,
              z,
              length-append (map parameter_row (new_parameters g.parameters 0)) (C.rows (annotated_body fs T f g)),
            )),
        functions_formed arities says (suc f) hs (suffix_rest fs f g hs s) l.1 b.1 (omega (arith, short, z)),
      )

  all_fs : Suffix fs 0 fs
  all_fs = record {
    whole = omega arith;
    at = λ i h. ap (function_at fs) (let z : 0 + i ≡ i = omega arith in z);
  }

  -- ---- signatures and numbers of parameters

  new_depths : (xs : List Parameter) (n : ℕ) →
      map (λ x. x.depth) (new_parameters xs n) ≡ map (λ x. x.depth) xs
  new_depths [] n = refl
  new_depths (x ∷ xs) n = ap (λ (l : List ℕ). x.depth ∷ l) (new_depths xs (suc n))

  signatures_from : (f : ℕ) (hs : List Function) (i : ℕ) →
      lent_signatures (lents_from fs T f hs) i ≡ signatures_of hs i
  signatures_from f [] i = refl
  signatures_from f (g ∷ hs) zero =
      ap (λ (ds : List ℕ). record { parameters = ds; result = g.result }) (new_depths g.parameters 0)
  signatures_from f (g ∷ hs) (suc i) = signatures_from (suc f) hs i

  signatures_are : lent_signatures gs ≡ (program fs).signatures
  unfolding program_in
  signatures_are = λ i f. signatures_from 0 fs f i

  stated : (f : ℕ) (hs : List Function) → R.AllOf FunctionLimits hs → Stated (lents_from fs T f hs)
  stated f [] l = tt
  stated f (g ∷ hs) l =
      ((omega (arith, l.0.parameters, new_count g.parameters 0), l.0.result), stated (suc f) hs l.1)

  lents_count : (f : ℕ) (hs : List Function) → length (lents_from fs T f hs) ≡ length hs
  lents_count f [] = refl
  lents_count f (g ∷ hs) = ap suc (lents_count (suc f) hs)

  arity_at : (f : ℕ) (hs : List Function) (i : ℕ) → i < length hs →
      get_or (map arity (lents_from fs T f hs)) i none ≡ some (length (signatures_of hs i).parameters)
  arity_at f [] i h = absurd (omega (arith, h))
  arity_at f (g ∷ hs) zero h =
      ap (λ (n : ℕ). some n) (new_count g.parameters 0 ∙ sym (length-map g.parameters (λ x. x.depth)))
  arity_at f (g ∷ hs) (suc i) h = arity_at (suc f) hs i (omega (arith, h))

  abbrev limits : R.AllOf FunctionLimits fs
  limits = (judged_clean file fs ok).limits.1

  arities_of_code : arities_of (lent_code gs) ≡ map arity gs
  arities_of_code = arities_are gs (stated 0 fs limits)

  says : Says (program fs) (arities_of (lent_code gs))
  unfolding program_in
  says =
      let n : length (arities_of (lent_code gs)) ≡ length fs =
      ap length arities_of_code ∙ length-map gs arity ∙ lents_count 0 fs in
      record {
        count = n ∙ sym (length_routines fs);
        most = omega (arith, n, (judged_levelled file fs ok).many);
        arity = λ f h. ap (λ (l : List (Option ℕ)). get_or l f none) arities_of_code ∙ arity_at 0 fs f
            (omega (arith, h, n));
      }

  -- ---- the three tests

  reads_list : (l : List Lent) (m n : ℕ) → 0 < length l → length l ≤ 32 →
      FunctionsFormed (arities_of (lent_code l)) l → length (lent_code l) ≤ 4096 →
      form (kinds_array (lent_code l) m n) (operands_array (lent_code l) m n) ≡ done l (length (lent_code l))
  reads_list [] m n h many F short = absurd (omega (arith, h))
  reads_list (g ∷ l) m n h many F short = form_reads g l m n F (omega (arith, many)) short

  module _ (short : length (code fs) ≤ 4096) where
    -- the code is read back
    pub form_passes : (m n : ℕ) →
        form (kinds_array (code fs) m n) (operands_array (code fs) m n) ≡ done gs (length (code fs))
    form_passes m n =
        subst (λ (rs : List Row). form (kinds_array rs m n) (operands_array rs m n) ≡ done gs (length rs))
        (code_rows fs)
        (reads_list gs m n (omega (arith, lents_count 0 fs, (judged_clean file fs ok).limits.0))
        (omega (arith, lents_count 0 fs, (judged_levelled file fs ok).many))
        (functions_formed (arities_of (lent_code gs)) says 0 fs all_fs limits (judged_levelled file fs ok).bodies
        (omega (arith, short, ap length (code_rows fs)))) (omega (arith, short, ap length (code_rows fs))))

    -- with its own depths
    pub fit_passes : Reaches (depths_in fs) (fit (main_depth fs) gs)
    unfolding fit program_in
    fit_passes =
        let d = main_depth fs in
        let e : is_main d (lent_signatures gs 0) ≡ true =
        ap (is_main d) (signatures_from 0 fs 0 ∙ (main_shape_of file fs ok).0)
        ∙ ap₂ (λ (a b : Bool). (a && true) && b) (eq-eqb d d refl) (eq-eqb d d refl) in
        reach_then (must (is_main d (lent_signatures gs 0))) _ 0 tt _ (must_pass _ 0 e) (λ t.
        subst (λ (sig : ℕ → Signature). Reaches (depths_in fs) (fit_functions sig gs t)) (sym signatures_are)
        (functions_pass 0 fs all_fs t))

    -- and with its own holds
    pub code_passes : (m n : ℕ) → judged_code (kinds_array (code fs) m n) (operands_array (code fs) m n) (main_depth fs)
        ≡ done (lent_program (main_depth fs) gs (depths_in fs) (lent_table gs)) (length (code fs))
    unfolding judged_code
    code_passes m n =
        ap (judged_form (main_depth fs)) (form_passes m n)
        ∙ ap (judged_depths (length (code fs)) (main_depth fs) gs) fit_passes.is
        ∙ ap (judged_holds (length (code fs)) (main_depth fs) gs (depths_in fs)) (code_holds file fs ok).is
