-- As far as the loop has come, the set is both joined.
use Rattle.plain_rows.proofs.Sets.{Joining}
use Rattle.plain_rows.proofs.join.Given as goal

abbrev pub invariant-loop-i : goal.invariant-loop-i
invariant-loop-i l = Joining l.initial.set l.other l.set l.i
