-- The names before the i-th are owned.
use Rattle.translate_script.proofs.Owned.{Owning}
use Rattle.translate_script.proofs.owned_depths.Given as goal

abbrev pub invariant-loop-i : goal.invariant-loop-i
invariant-loop-i l = Owning l.borrowing l.f l.n l.depths l.owned l.i
