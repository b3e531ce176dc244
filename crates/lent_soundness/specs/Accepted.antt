-- `accepted_disciplined`, `accepted_sound`: what passes is disciplined, and one delivery by it on a settled store does
-- what it means with retains and releases ignored.
use Rattle.std.specs.Prelude.{ℕ, ◌≤◌, ◌+◌, ◌<◌, true, false, Bool, ◌≡◌, refl, List, [], ◌∷◌, map, ℤ, length, get_or}
use Rattle.prelude.specs.Kit.{arith, false≢true, ◌∙◌, sym, ap, subst}
use Rattle.semantics.specs.Outcome.{Outcome, done, stop}
use Rattle.semantics.specs.Value.{Value, numbers}
use Rattle.semantics.specs.Types.{Signature}
use Rattle.semantics.specs.Code.{rows}
use Rattle.semantics.specs.Live.{empty, just}
use Rattle.semantics.specs.Annotate.{NameDepths}
use Rattle.semantics.specs.Borrow.{Table, borrows}
use Rattle.semantics.specs.Store.{Store}
use Rattle.semantics.specs.Machine.{Routine, no_routine, Program, routine_of, delivery, starting}
use Rattle.semantics.specs.Plain.{main_running}
use Rattle.semantics.specs.Calls.{request_fits}
use Rattle.semantics_lent.specs.Form.{Lent, form}
use Rattle.semantics_lent.specs.Fit.{lent_signatures, fit}
use Rattle.semantics_lent.specs.Hold.{lent_table, hold}
use Rattle.semantics_lent.specs.Calls.{lent_routines, lent_program, judged_holds, judged_depths, judged_form}
use Rattle.semantics_lent.specs.Calls.{judged_code}
use Rattle.discipline.proofs.machine.Discipline.{Fitting, Scoped, AllNew}
use Rattle.discipline.proofs.machine.Size.{tree_rows}
use Rattle.discipline.proofs.machine.Agreement.{Start}
use Rattle.discipline.proofs.machine.Calls.{ProgramDisciplined}
use Rattle.discipline.proofs.machine.Delivery.{Delivers, delivery_sound}
use Rattle.soundness.proofs.Settled.{Settled}
use Rattle.soundness.proofs.Delivering.{few_readings}
use Rattle.lent_soundness.specs.Answers.{Ends}
use Rattle.lent_soundness.specs.Functions.{RoutineHolds, AllFew, AllHold, hold_at, hold_decides}
use Rattle.lent_soundness.specs.Tables.{lent_stable}

-- ---- what the first two tests establish

-- A routine of the program p with these depths of its parameters and its result, but for its holds: no two parameters
-- have one name, every name is known where it is used, and the depths fit.
pub record RoutineFits (p : Program) (r : Routine) (s : Signature) : Type 0 where
  pub parameters : map r.depths r.names ≡ s.parameters
  pub new : AllNew r.names empty
  pub fits : Fitting p r.depths r.tree s.result
  pub scoped : Scoped r.tree (just r.names)

-- lent code for main of depth d that has passed them
pub record LentFits (d : ℕ) (gs : List Lent) (Γs : List NameDepths) : Type 0 where
  pub many : length (lent_routines gs Γs) ≡ length gs
  pub some : 0 < length gs
  -- whatever the table
  pub functions : (T : Table) (f : ℕ) → f < length gs →
      RoutineFits (lent_program d gs Γs T) (routine_of (lent_program d gs Γs T) f) (lent_signatures gs f)
  -- only names below 256 are arrays
  pub few : AllFew (lent_routines gs Γs)
  pub short : (f : ℕ) → f < length gs → length (rows (get_or (lent_routines gs Γs) f no_routine).tree) ≤ 4096
  pub main : lent_signatures gs 0 ≡ record { parameters = d ∷ 1 ∷ []; result = d }

-- ---- what passes all three

pub lent_disciplined : (d : ℕ) (gs : List Lent) (Γs : List NameDepths) → LentFits d gs Γs →
    AllHold (borrows (lent_table gs)) 0 (lent_routines gs Γs) →
    ProgramDisciplined (lent_program d gs Γs (lent_table gs))
lent_disciplined d gs Γs fits h =
    let T = lent_table gs in
    record {
      functions = λ f q.
          let there : f < length gs = omega (arith, q, fits.many) in
          let r = fits.functions T f there in
          record {
            parameters = r.parameters;
            new = r.new;
            fits = r.fits;
            scoped = r.scoped;
            holds = subst (λ (k : ℕ). RoutineHolds (borrows T) (borrows T k) (get_or (lent_routines gs Γs) f no_routine))
                (let z : 0 + f ≡ f = omega arith in z) (hold_at (borrows T) 0 (lent_routines gs Γs) h f q);
          };
      short = λ f q. omega (
        arith,
        fits.short f (omega (arith, q, fits.many)),
        tree_rows (get_or (lent_routines gs Γs) f no_routine).tree,
      );
      some = omega (arith, fits.many, fits.some);
      owns = (lent_stable gs).main_owns;
      takes = ap (λ (s : Signature). s.parameters) fits.main;
      gives = ap (λ (s : Signature). s.result) fits.main;
    }

-- ---- what a verdict says

abbrev no_program : Program
no_program = lent_program 0 [] [] []

program_in : Outcome ℕ Program → Program
program_in (done P p) = P
program_in (stop n p) = no_program

lines_in : Outcome ℕ Program → ℕ
lines_in (done P p) = p
lines_in (stop n p) = 0

is_done : Outcome ℕ Program → Bool
is_done (done P p) = true
is_done (stop n p) = false

-- lent code that passes: its functions, the depths of their names, and the table of what they borrow
pub record Passed (kinds : List ℕ) (operands : List ℤ) (d : ℕ) (P : Program) (lines : ℕ) : Type 0 where
  pub functions : List Lent
  pub depths : List NameDepths
  pub table : Table
  pub fitted_at : ℕ
  pub held_at : ℕ
  pub formed : form kinds operands ≡ done functions lines
  pub fitted : fit d functions ≡ done depths fitted_at
  pub held : hold functions depths ≡ done table held_at
  pub is : lent_program d functions depths table ≡ P

module _ (kinds : List ℕ) (operands : List ℤ) (d : ℕ) (P : Program) (lines : ℕ) where
  pub passed : judged_code kinds operands d ≡ done P lines → Passed kinds operands d P lines
  unfolding judged_code program_in lines_in is_done
  passed = by_form (form kinds operands) refl
    where
      by_holds : (gs : List Lent) (Γs : List NameDepths) (m q : ℕ) → form kinds operands ≡ done gs m →
          fit d gs ≡ done Γs q → (o : Outcome ℕ Table) → hold gs Γs ≡ o → judged_holds m d gs Γs o ≡ done P lines →
          Passed kinds operands d P lines
      by_holds gs Γs m q e f (done T r) h j = record {
        functions = gs;
        depths = Γs;
        table = T;
        fitted_at = q;
        held_at = r;
        formed = e ∙ ap (λ (k : ℕ). done gs k) (ap lines_in j);
        fitted = f;
        held = h;
        is = ap program_in j;
      }
      by_holds gs Γs m q e f (stop n r) h j = absurd (false≢true (ap is_done j))

      by_depths : (gs : List Lent) (m : ℕ) → form kinds operands ≡ done gs m →
          (o : Outcome ℕ (List NameDepths)) → fit d gs ≡ o → judged_depths m d gs o ≡ done P lines →
          Passed kinds operands d P lines
      by_depths gs m e (done Γs q) f j = by_holds gs Γs m q e f (hold gs Γs) refl j
      by_depths gs m e (stop n q) f j = absurd (false≢true (ap is_done j))

      by_form : (o : Outcome ℕ (List Lent)) → form kinds operands ≡ o → judged_form d o ≡ done P lines →
          Passed kinds operands d P lines
      by_form (done gs m) e j = by_depths gs m e (fit d gs) refl j
      by_form (stop n m) e j = absurd (false≢true (ap is_done j))

-- ---- one delivery

-- what the first two tests are to establish: proved apart
abbrev pub FitsSay : Type 0
FitsSay = (kinds : List ℕ) (operands : List ℤ) (d lines q : ℕ) (gs : List Lent) (Γs : List NameDepths) →
    form kinds operands ≡ done gs lines → fit d gs ≡ done Γs q → LentFits d gs Γs

-- a delivery by lent code begins here: its code need not be frugal
abbrev pub lent_start : ℕ → Store → Start
lent_start budget σ = record { budget = budget; store = σ; frugal = false }

module _ (fits_say : FitsSay) (kinds : List ℕ) (operands : List ℤ) (d : ℕ) (P : Program) (lines : ℕ)
    (ok : judged_code kinds operands d ≡ done P lines) where
  abbrev found : Passed kinds operands d P lines
  found = passed kinds operands d P lines ok

  fits : LentFits d found.functions found.depths
  fits = fits_say kinds operands d lines found.fitted_at found.functions found.depths found.formed
      found.fitted

  held : (found.table ≡ lent_table found.functions)
      × AllHold (borrows (lent_table found.functions)) 0 (lent_routines found.functions found.depths)
  held = subst (Ends _ _) found.held (hold_decides found.functions found.depths fits.few)

  program_is : lent_program d found.functions found.depths (lent_table found.functions) ≡ P
  program_is = ap (lent_program d found.functions found.depths) (sym held.0) ∙ found.is

  pub accepted_disciplined : ProgramDisciplined P
  accepted_disciplined = subst ProgramDisciplined program_is
      (lent_disciplined d found.functions found.depths fits held.1)

  pub accepted_depth : P.depth ≡ d
  accepted_depth = sym (ap (λ (Q : Program). Q.depth) program_is)

  -- On a store at rest with totals of value v: it ends as the code means on values with retains and releases ignored,
  -- or is out of cells where that wants one; it touches no free cell, and leaves the store at rest.
  pub accepted_sound : {σ : Store} {v : Value} → Settled P.depth σ v → (readings : List ℤ) (budget : ℕ) →
      request_fits readings budget ≡ true →
      Delivers (lent_start budget σ) P.depth (delivery P readings (starting budget σ))
      (main_running P v (numbers readings) budget)
  unfolding main_running
  accepted_sound {σ} {v} settled readings budget asked =
      subst (λ (w : Value). Delivers (lent_start budget σ) P.depth (delivery P readings (starting budget σ))
      (main_running P w (numbers readings) budget)) settled.value
      (delivery_sound P accepted_disciplined false (λ e. absurd (false≢true e)) readings
      (few_readings readings budget asked) budget σ settled.rests)
