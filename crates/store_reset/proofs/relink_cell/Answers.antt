-- `store_reset::relink_cell` meets its contract.
use Rattle.prelude.specs.Kit.{arith}
use Rattle.store_words.proofs.CellWords.{to_cells}
use Rattle.store_reset.proofs.Linking.{link_used, link_free}
use Rattle.store_reset.proofs.relink_cell.Goals as goal

pub returns-then-heads-c-ne0 : goal.returns-then-heads-c-ne0
returns-then-heads-c-ne0 c = link_used _ _ _ _ c.if-heads-c-ne0.true

pub returns : goal.returns
returns c =
    link_free _ _ _ _ (to_cells _ _ _ (omega arith) (omega arith) (omega arith)) c.if-heads-c-ne0.false
    c.clear_slots.auto.slots c.clear_slots.ensures c.write_head.ensures
