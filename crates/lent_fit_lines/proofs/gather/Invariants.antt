-- The first i atoms are read.
use Rattle.lent_fit_lines.specs.Walk.{set_of, depths_of}
use Rattle.lent_fit_lines.proofs.Laws.{Gathering}
use Rattle.lent_fit_lines.proofs.gather.Given as goal

abbrev pub invariant-loop-i : goal.invariant-loop-i
invariant-loop-i l = Gathering (set_of l.scope) (depths_of l.depths) l.kinds l.operands l.at l.n l.i l.ds
