-- What the loop of `lent_hold::hold` keeps.
use Rattle.semantics.specs.Borrow.{borrows}
use Rattle.lent_atoms.specs.Told.{depths}
use Rattle.lent_hold.proofs.Functions.{Passing}
use Rattle.lent_hold.proofs.hold.Given as goal

abbrev pub invariant-loop-number : goal.invariant-loop-number
invariant-loop-number l =
    Passing l.kinds l.operands (borrows l.borrowed) (depths l.table) l.functions l.number l.line
