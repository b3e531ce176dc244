use Rattle.script_rules.proofs.Rules.{Matched}
use Rattle.script_rules.proofs.parameters_match.Given as goal

abbrev pub invariant-loop-i : goal.invariant-loop-i
invariant-loop-i l = Matched l.kinds l.operands l.at l.n l.ds l.i
