-- `fill_ends` meets its contract.
use Rattle.std.proofs.Common.{arith}
use Rattle.machine_table.proofs.Filling.{ended, end_more}
use Rattle.machine_table.proofs.fill_ends.Goals as goal

pub loop-at-preserved : goal.loop-at-preserved
loop-at-preserved c =
    end_more c.loop-at.invariant (omega arith) c.end_of-end.result c.end_of-end.ensures c.put_position.new.table
    c.put_position.ensures

pub returns : goal.returns
returns c = ended c.loop-at.invariant (omega arith)
