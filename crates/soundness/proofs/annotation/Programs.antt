-- `program_disciplined`, `program_frugal`: the program of an accepted script whose code has at most 4,096 rows is what
-- the machine's soundness asks for; and so it is in every style.
use Rattle.prelude.specs.Kit.{ℕ, ◌≤◌, arith, ◌≡◌, refl, ap, List, length}
use Rattle.semantics.specs.Syntax.{Script, function_at}
use Rattle.semantics.specs.Types.{Signature}
use Rattle.semantics.specs.Borrow.{borrowed}
use Rattle.semantics.specs.Annotate.{Style, full_style, code}
use Rattle.semantics.specs.Machine.{Routine, program_in, program}
use Rattle.semantics.specs.Calls.{accepted, judged}
use Rattle.laws.specs.Routines.{length_routines_in, routine_in_is}
use Rattle.soundness.proofs.borrowing.Stable.{stable}
use Rattle.discipline.proofs.machine.Size.{function_adds, tree_adds}
use Rattle.discipline.proofs.machine.Calls.{ProgramDisciplined, ProgramFrugal}
use Rattle.soundness.proofs.annotation.Accepting.{judged_clean, functions_in_disciplined}
use Rattle.soundness.proofs.annotation.Accepting.{functions_in_frugal, main_shape_of}
use Rattle.soundness.proofs.annotation.Sizes.{annotated_adds}

module _ (style : Style) (file : List ℕ) (fs : Script) (ok : judged file ≡ accepted fs) where
  pub program_in_disciplined : length (code fs) ≤ 4096 → ProgramDisciplined (program_in style fs)
  unfolding program_in
  program_in_disciplined few = record {
    functions = λ f h. functions_in_disciplined style file fs ok f;
    short = λ f h. omega (
      arith,
      few,
      function_adds fs f,
      annotated_adds style fs (borrowed fs) f (function_at fs f),
      ap (λ (r : Routine). tree_adds r.tree)
          (routine_in_is style fs f (omega (arith, h, length_routines_in style fs))),
    );
    some = omega (arith, (judged_clean file fs ok).limits.0, length_routines_in style fs);
    owns = (stable fs).main_owns;
    takes = ap (λ (s : Signature). s.parameters) (main_shape_of file fs ok).0;
    gives = refl;
  }

  pub program_in_frugal : ProgramFrugal (program_in style fs)
  unfolding program_in
  program_in_frugal f h = functions_in_frugal style file fs ok f

pub program_disciplined : (file : List ℕ) (fs : Script) → judged file ≡ accepted fs → length (code fs) ≤ 4096 →
    ProgramDisciplined (program fs)
program_disciplined = program_in_disciplined full_style

pub program_frugal : (file : List ℕ) (fs : Script) → judged file ≡ accepted fs → ProgramFrugal (program fs)
program_frugal = program_in_frugal full_style
