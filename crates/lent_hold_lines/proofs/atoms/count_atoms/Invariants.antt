-- What the loop of `lent_hold_lines::atoms::count_atoms` keeps.
use Rattle.lent_hold_lines.proofs.Arguments.{Counting}
use Rattle.lent_hold_lines.proofs.atoms.count_atoms.Given as goal

abbrev pub invariant-loop-n : goal.invariant-loop-n
invariant-loop-n l = Counting l.of.kinds.now l.of.operands.now l.at l.n
