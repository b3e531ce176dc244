-- `store_check::head_of` meets its contract.
use Rattle.prelude.specs.Kit.{sym}
use Rattle.store_words.proofs.CellWords.{to_cells, count_is, size_is, depth_is, next_is}
use Rattle.store_check.proofs.head_of.Goals as goal

pub returns : goal.returns
returns c =
    let a = c.args in
    let there = to_cells a.slots.now a.heads.now a.c c.requires.0 c.requires.1 c.requires.2 in
    record {
      count = sym (count_is _ _ _ there);
      size = sym (size_is _ _ _ there);
      depth = sym (depth_is _ _ _ there);
      next = sym (next_is _ _ _ there);
    }
