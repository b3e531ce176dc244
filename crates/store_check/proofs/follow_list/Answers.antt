-- `store_check::follow_list` meets its contract, by the laws of `FreeList`.
use Rattle.prelude.specs.Kit.{◌+◌, ◌-◌, arith}
use Rattle.store_words.proofs.CellWords.{store_size}
use Rattle.store_check.proofs.FreeList.{following_more, following_spent, following_out}
use Rattle.store_check.proofs.follow_list.Goals as goal

pub returns-then-n-c-clause-end : goal.returns-then-n-c-clause-end
returns-then-n-c-clause-end c =
    let a = c.args in
    (rw c.cells-n.ensures.is at
    (following_out c.loop.invariant (omega (arith, store_size a.slots.now a.heads.now)))).0

pub returns-then-n-c-clause-meets : goal.returns-then-n-c-clause-meets
returns-then-n-c-clause-meets c =
    let a = c.args in
    (rw c.cells-n.ensures.is at
    (following_out c.loop.invariant (omega (arith, store_size a.slots.now a.heads.now)))).1

pub loop-preserved : goal.loop-preserved
loop-preserved c =
    let a = c.args in
    following_more c.loop.invariant (omega (arith, store_size a.slots.now a.heads.now))
    (c.cells-n.result - (c.loop.counter + 1)) (omega arith) c.count_one.ensures c.head_of-c.ensures.next

pub returns-clause-end : goal.returns-clause-end
returns-clause-end c = (rw c.cells-n.ensures.is at (following_spent c.loop.invariant (omega arith))).0

pub returns-clause-meets : goal.returns-clause-meets
returns-clause-meets c = (rw c.cells-n.ensures.is at (following_spent c.loop.invariant (omega arith))).1
