-- `store_release::free` meets its contract.
use Rattle.prelude.specs.Kit.{arith}
use Rattle.store_words.proofs.CellWords.{to_cells}
use Rattle.store_release.proofs.Releasing.{freed_store}
use Rattle.store_release.proofs.free.Goals as goal

pub returns : goal.returns
returns c =
    freed_store
    (record {
      long = c.clear_slots.auto.slots;
      slots_cleared = c.clear_slots.ensures;
      heads_written = c.write_head.ensures;
    })
    (to_cells _ _ _ (omega arith) (omega arith) (omega arith))
