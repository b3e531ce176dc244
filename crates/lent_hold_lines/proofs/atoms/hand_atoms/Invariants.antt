-- What the loop of `lent_hold_lines::atoms::hand_atoms` keeps.
use Rattle.prelude.specs.Kit.{◌≡◌, not, length}
use Rattle.lent_counts.specs.Counted.{counted}
use Rattle.lent_hold_lines.specs.Lines.{depths_of, borrowed_of, is_read}
use Rattle.lent_hold_lines.proofs.Arguments.{Handing}
use Rattle.lent_hold_lines.proofs.atoms.hand_atoms.Given as goal

abbrev pub invariant-loop-i : goal.invariant-loop-i
invariant-loop-i l = record {
  long : length l.holds ≡ 256;
  handing : Handing l.of.kinds.now l.of.operands.now (depths_of l.of) (λ i. not (is_read (borrowed_of l.of) l.callee i))
      l.at (counted l.initial.holds) l.i l.holds;
}
