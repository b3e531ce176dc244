-- The first i items are copied.
use Rattle.store_reset.proofs.Copying.{Copying}
use Rattle.store_reset.proofs.copy_padded.Given as goal

abbrev pub invariant-loop-i : goal.invariant-loop-i
invariant-loop-i g l = Copying l.none l.from l.to l.i
