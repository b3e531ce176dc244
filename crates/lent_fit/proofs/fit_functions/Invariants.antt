-- The first f functions fit.
use Rattle.lent_fit.proofs.Laws.{Fitting}
use Rattle.lent_fit.proofs.fit_functions.Given as goal

abbrev pub invariant-loop-f : goal.invariant-loop-f
invariant-loop-f l = Fitting l.kinds l.operands l.starts l.functions l.fn.table l.f l.p l.table
