-- The loop of `fill_ends`: the positions of the rows from one on are written.
use Rattle.machine_table.proofs.Filling.{Ending}
use Rattle.machine_table.proofs.fill_ends.Given as goal

abbrev pub invariant-loop-at : goal.invariant-loop-at
invariant-loop-at l = Ending l.kinds l.rows l.initial.table l.table l.at
