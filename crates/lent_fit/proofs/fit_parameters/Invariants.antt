-- The parameters before line p are bound.
use Rattle.lent_fit_lines.specs.Walk.{bound_of}
use Rattle.lent_fit.proofs.Laws.{Binding}
use Rattle.lent_fit.proofs.fit_parameters.Given as goal

abbrev pub invariant-loop-p : goal.invariant-loop-p
invariant-loop-p l = Binding l.operands l.n l.at (bound_of l.fn.bound l.fn.depths) l.p l.bound l.depths
