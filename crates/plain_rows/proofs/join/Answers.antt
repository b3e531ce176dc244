-- Each step joins one name.
use Rattle.std.proofs.Common.{refl, arith}
use Rattle.plain_rows.proofs.Sets.{joining_none, joining_set, joining_all}
use Rattle.plain_rows.proofs.join.Goals as goal

pub loop-i-init : goal.loop-i-init
loop-i-init c = joining_none _ _

pub loop-i-preserved : goal.loop-i-preserved
loop-i-preserved c = joining_set c.loop-i.invariant _ (omega arith) refl

pub returns : goal.returns
returns c = joining_all c.loop-i.invariant (omega arith) (omega arith)
