-- `fill_starts` meets its contract.
use Rattle.std.proofs.Common.{arith}
use Rattle.machine_table.proofs.Filling.{filled_all, filled_past, fill_more}
use Rattle.machine_table.proofs.fill_starts.Goals as goal

pub returns-then-kinds-p : goal.returns-then-kinds-p
returns-then-kinds-p c = filled_past c.loop-f.invariant _ c.position_of-p.ensures c.if-kinds-p.true

pub loop-f-preserved : goal.loop-f-preserved
loop-f-preserved c =
    fill_more c.loop-f.invariant _ c.position_of-p.ensures c.loop-f-test.true c.if-kinds-p.false
    c.put_position.new.table c.put_position.ensures

pub returns : goal.returns
returns c = filled_all c.loop-f.invariant (omega arith)
