-- What the loop of `lent_spent::spent_in` keeps.
use Rattle.semantics.specs.Borrow.{borrows}
use Rattle.lent_spent.proofs.Scans.{Scanning}
use Rattle.lent_spent.proofs.spent_in.Given as goal

abbrev pub invariant-loop-p : goal.invariant-loop-p
invariant-loop-p l =
    Scanning l.kinds l.operands (borrows l.borrowed) l.fn.from l.to l.p l.line l.g l.i l.spent
