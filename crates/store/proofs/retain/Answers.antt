-- `store::retain` meets its contract: a cell that is not there takes no write.
use Rattle.prelude.specs.Kit.{◌≤◌, ◌+◌, ◌*◌, arith, get_or}
use Rattle.store_words.proofs.CellWords.{told_there, told_gone}
use Rattle.store.proofs.Retaining.{retain_in, retain_out}
use Rattle.store.proofs.retain.Goals as goal

pub returns-then-is_cell : goal.returns-then-is_cell
returns-then-is_cell c =
    let small : get_or c.args.heads.now (1 + 4 * c.args.c) 0 ≤ 4294967295 = omega arith in
    retain_in _ _ _ _ (told_there c.is_cell.ensures c.if-is_cell.true).0 small c.saturating_add.ensures

pub returns-else-is_cell : goal.returns-else-is_cell
returns-else-is_cell c = retain_out _ _ _ (told_gone c.is_cell.ensures c.if-is_cell.false)
