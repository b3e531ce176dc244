-- A name is bound in both tables, by `Laws.bound_with`.
use Rattle.prelude.specs.Kit.{arith, length-set}
use Rattle.lent_fit_lines.proofs.Laws.{bound_with}
use Rattle.lent_fit_lines.proofs.bind.Goals as goal

pub returns : goal.returns
returns c = (
  bound_with _ _ _ _ (omega arith) (omega arith),
  simp length-set (omega arith),
  simp length-set (omega arith),
)
