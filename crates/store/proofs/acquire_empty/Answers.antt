-- `store::acquire_empty` meets its contract.
use Rattle.prelude.specs.Kit.{[]}
use Rattle.store_words.proofs.CellWords.{told_there, told_gone}
use Rattle.store.proofs.Acquiring.{with_remaining, none_acquired, one_acquired}
use Rattle.store.proofs.acquire_empty.Goals as goal

pub returns-then-not-is_cell : goal.returns-then-not-is_cell
returns-then-not-is_cell c =
    with_remaining _ _ _ _ _ _
    (none_acquired _ _ _ _ [] _ c.in_ok-c.ensures.value (told_gone c.is_cell.ensures c.if-not-is_cell.true))

pub returns : goal.returns
returns c =
    with_remaining _ _ _ _ _ _ (rw c.saturating_sub.ensures (one_acquired _ _ _ _ _ c.in_ok-c.ensures.value (record {
      long = c.clear_slots.auto.slots;
      slots_cleared = c.clear_slots.ensures;
      heads_written = c.write_head.ensures;
    }) (told_there c.is_cell.ensures c.if-not-is_cell.false).0))
