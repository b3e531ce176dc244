-- The depths of the results of the functions before the i-th are there.
use Rattle.flatten_functions.specs.Script.{Translatable}
use Rattle.flatten_functions.proofs.Functions.{Results}
use Rattle.flatten_functions.proofs.results_of.Given as goal

abbrev pub invariant-loop-i : goal.invariant-loop-i
invariant-loop-i l = (t : Translatable l.kinds l.operands l.functions l.starts) × Results t.tree l.i l.results
