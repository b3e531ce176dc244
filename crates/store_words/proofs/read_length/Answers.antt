-- `store_words::read_length` meets its contract: a cell that is not there has no elements.
use Rattle.prelude.specs.Kit.{◌∙◌}
use Rattle.store_words.proofs.CellWords.{told_there, told_gone, length_in, length_out}
use Rattle.store_words.proofs.read_length.Goals as goal

pub returns-then-not-is_cell : goal.returns-then-not-is_cell
returns-then-not-is_cell c = length_out _ _ _ (told_gone c.is_cell.ensures c.if-not-is_cell.true)

pub returns : goal.returns
returns c = c.min.ensures ∙ length_in _ _ _ (told_there c.is_cell.ensures c.if-not-is_cell.false).0
