-- The loop of `end_of`: the position is behind as many trees as were passed.
use Rattle.std.proofs.Common.{◌≡◌, ◌+◌}
use Rattle.machine_table.specs.Positions.{past_trees}
use Rattle.machine_table.proofs.end_of.Given as goal

abbrev pub invariant-loop : goal.invariant-loop
invariant-loop l = l.next ≡ past_trees l.counter l.table (l.at + 1)
