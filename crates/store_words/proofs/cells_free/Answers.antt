-- `store_words::cells_free` meets its contract: no more cells are in use than there are.
use Rattle.prelude.specs.Kit.{arith}
use Rattle.store_words.proofs.CellWords.{store_size}
use Rattle.store_words.proofs.Counting.{taken_within}
use Rattle.store_words.proofs.cells_free.Goals as goal

pub overflow_sub-result : goal.overflow_sub-result
overflow_sub-result c =
    let a = c.args in
    omega (arith, store_size a.slots.now a.heads.now, taken_within a.slots.now a.heads.now)

pub returns : goal.returns
returns c =
    let a = c.args in
    (omega (arith, store_size a.slots.now a.heads.now), omega arith)
