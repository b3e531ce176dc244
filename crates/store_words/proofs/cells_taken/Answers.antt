-- `store_words::cells_taken` meets its contract: a cell is in use where its count is above 0.
use Rattle.prelude.specs.Kit.{arith}
use Rattle.store_words.proofs.Counting.{used_none, used_some, counting_none, counting_more, counting_all}
use Rattle.store_words.proofs.cells_taken.Goals as goal
use Rattle.store_words.proofs.cells_taken.Goals.{then-heads-c-ne0, else-heads-c-ne0}

pub loop-c-init : goal.loop-c-init
loop-c-init c = counting_none _

pub loop-c-preserved : goal.loop-c-preserved
loop-c-preserved c = counting_more _ _ c.loop-c.invariant (omega arith) _ (elim c.if-heads-c-ne0.branch [
  | then-heads-c-ne0 w ↦ omega (arith, used_some _ w.if-heads-c-ne0.true)
  | else-heads-c-ne0 w ↦ omega (arith, used_none _ w.if-heads-c-ne0.false)
])

pub returns : goal.returns
returns c = counting_all _ _ c.loop-c.invariant (omega arith)
