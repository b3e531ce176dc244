-- What the loop of `lent_hold::lent_first` keeps.
use Rattle.lent_hold_lines.specs.Lines.{depths_of, borrowed_of}
use Rattle.lent_hold.proofs.Parameters.{Lending}
use Rattle.lent_hold.proofs.lent_first.Given as goal

abbrev pub invariant-loop-i : goal.invariant-loop-i
invariant-loop-i l = Lending (depths_of l.of) (borrowed_of l.of l.of.number) l.of.operands.now l.at l.count l.i l.lent
