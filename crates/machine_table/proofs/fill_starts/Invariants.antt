-- The loop of `fill_starts`: f positions are written.
use Rattle.machine_table.proofs.Filling.{Filling}
use Rattle.machine_table.proofs.fill_starts.Given as goal

abbrev pub invariant-loop-f : goal.invariant-loop-f
invariant-loop-f l = Filling l.kinds l.functions l.places l.initial.table l.table l.f
