-- What the loop of `lent_table::borrow_table` keeps.
use Rattle.prelude.specs.Kit.{◌-◌}
use Rattle.lent_table.proofs.Rounds.{Working}
use Rattle.lent_table.proofs.borrow_table.Given as goal

abbrev pub invariant-loop : goal.invariant-loop
invariant-loop l = Working l.kinds l.operands l.starts l.functions (257 - l.counter) l.t
