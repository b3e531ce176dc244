-- What stands before i is as it is to be, and the rest as it was.
use Rattle.clearing.proofs.Clearing.{Clearing}
use Rattle.clearing.proofs.clear_from.Given as goal

abbrev pub invariant-loop-i : goal.invariant-loop-i
invariant-loop-i g l = Clearing l.initial.items l.from l.value l.i l.items
