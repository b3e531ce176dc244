-- What the loop of `lent_table::rework_row` keeps.
use Rattle.prelude.specs.Kit.{false}
use Rattle.lent_table.specs.Rounds.{stays}
use Rattle.lent_table.proofs.Tables.{Filled}
use Rattle.lent_table.proofs.rework_row.Given as goal

abbrev pub invariant-loop-i : goal.invariant-loop-i
invariant-loop-i l = Filled (stays l.code.kinds.now l.code.operands.now l.code.starts.now l.code.functions l.borrowed l.f) false 8 l.i l.entry-items
