-- What the loop of `lent_hold_lines::atoms::read_atoms` keeps.
use Rattle.lent_counts.specs.Counted.{counted, set_of}
use Rattle.lent_hold_lines.specs.Lines.{depths_of, borrowed_of, is_read}
use Rattle.lent_hold_lines.proofs.Arguments.{Reading}
use Rattle.lent_hold_lines.proofs.atoms.read_atoms.Given as goal

abbrev pub invariant-loop-i : goal.invariant-loop-i
invariant-loop-i l =
    Reading l.of.kinds.now l.of.operands.now (depths_of l.of) (set_of l.lent) (counted l.holds)
    (is_read (borrowed_of l.of) l.callee) l.at l.i
