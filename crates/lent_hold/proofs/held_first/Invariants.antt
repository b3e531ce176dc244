-- What the loop of `lent_hold::held_first` keeps.
use Rattle.prelude.specs.Kit.{not}
use Rattle.lent_hold_lines.specs.Lines.{depths_of, borrowed_of}
use Rattle.lent_hold.proofs.Parameters.{Holding}
use Rattle.lent_hold.proofs.held_first.Given as goal

abbrev pub invariant-loop-i : goal.invariant-loop-i
invariant-loop-i l =
    Holding (depths_of l.of) (λ i. not (borrowed_of l.of l.of.number i)) l.of.operands.now l.at l.count l.i l.holds
