-- The goal of `lent_table::rework_row` that the check leaves.
use Rattle.prelude.specs.Kit.{arith}
use Rattle.lent_table.proofs.Tables.{filled_whole}
use Rattle.lent_table.proofs.rework_row.Goals as goal

pub returns : goal.returns
returns c = filled_whole _ _ 8 c.loop-i.invariant (omega arith)
