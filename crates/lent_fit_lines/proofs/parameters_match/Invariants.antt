-- The first i parameters have their depths.
use Rattle.lent_fit_lines.proofs.Laws.{Matched}
use Rattle.lent_fit_lines.proofs.parameters_match.Given as goal

abbrev pub invariant-loop-i : goal.invariant-loop-i
invariant-loop-i l = Matched l.operands l.at l.n l.ds l.i
