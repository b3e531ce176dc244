-- `store::is_alone` meets its contract: a cell that is not there has no reference.
use Rattle.prelude.specs.Kit.{◌∙◌}
use Rattle.store_words.proofs.CellWords.{told_there, told_gone}
use Rattle.store.proofs.Overwriting.{alone_out, alone_in}
use Rattle.store.proofs.is_alone.Goals as goal

pub returns-then-is_cell : goal.returns-then-is_cell
returns-then-is_cell c = alone_in _ _ _ (told_there c.is_cell.ensures c.if-is_cell.true).0

pub returns-else-is_cell : goal.returns-else-is_cell
returns-else-is_cell c = c.if-is_cell.false ∙ alone_out _ _ _ (told_gone c.is_cell.ensures c.if-is_cell.false)
