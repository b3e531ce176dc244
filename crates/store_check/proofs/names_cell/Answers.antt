-- `store_check::names_cell` meets its contract.
use Rattle.prelude.specs.Kit.{arith, to_z-of_z}
use Rattle.store_words.proofs.CellWords.{store_size}
use Rattle.store_check.proofs.Comparing.{names_out, names_free, names_deep}
use Rattle.store_check.proofs.names_cell.Goals as goal

pub returns-then-cells-c : goal.returns-then-cells-c
returns-then-cells-c c =
    let a = c.args in
    let named = rw (to_z-of_z {z = a.w} c.ranges.w) at c.named_cell-c.ensures in
    names_out _ _ _ _ named (omega (arith, store_size a.slots.now a.heads.now))

pub returns-then-h-ne0 : goal.returns-then-h-ne0
returns-then-h-ne0 c =
    let a = c.args in
    let named = rw (to_z-of_z {z = a.w} c.ranges.w) at c.named_cell-c.ensures in
    names_deep _ _ _ _ named (omega (arith, store_size a.slots.now a.heads.now)) c.head_of-h.ensures c.if-h-ne0.true

pub returns-else-h-ne0 : goal.returns-else-h-ne0
returns-else-h-ne0 c =
    let a = c.args in
    let named = rw (to_z-of_z {z = a.w} c.ranges.w) at c.named_cell-c.ensures in
    rw c.if-h-ne0.false
    (names_free _ _ _ _ named (omega (arith, store_size a.slots.now a.heads.now)) c.head_of-h.ensures c.if-h-ne0.false)
