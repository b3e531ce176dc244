-- `store::append` meets its contract: a cell that is not there takes no write.
use Rattle.store.proofs.Appending.{append_out}
use Rattle.store.proofs.append.Goals as goal

pub returns-else-is_cell : goal.returns-else-is_cell
returns-else-is_cell c = append_out _ _ _ _ (c.is_cell.ensures.gone c.if-is_cell.false)
