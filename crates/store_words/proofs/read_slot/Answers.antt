-- `store_words::read_slot` meets its contract: a cell that is not there has no elements.
use Rattle.prelude.specs.Kit.{arith}
use Rattle.store_words.proofs.CellWords.{told_gone, length_out, element_out}
use Rattle.store_words.proofs.read_slot.Goals as goal

pub returns-then-not-is_cell : goal.returns-then-not-is_cell
returns-then-not-is_cell c =
    element_out _ _ _ _ (omega (arith, length_out _ _ _ (told_gone c.is_cell.ensures c.if-not-is_cell.true)))
