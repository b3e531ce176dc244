-- `store::append_within` meets its contract: a full cell stays as it is.
use Rattle.prelude.specs.Kit.{◌<◌, arith, to_z-of_z}
use Rattle.semantics.specs.Words.{cells_in}
use Rattle.store_words.proofs.CellWords.{to_cells}
use Rattle.store.proofs.Appending.{append_one, append_full}
use Rattle.store.proofs.append_within.Goals as goal

pub returns-then-size-lt16 : goal.returns-then-size-lt16
returns-then-size-lt16 c =
    let a = c.args in
    let inside : a.c < cells_in a.slots.now a.heads.now = to_cells _ _ _ c.requires.0 c.requires.1 c.requires.2 in
    rw (to_z-of_z {z = a.w} c.ranges.w) (append_one _ _ _ a.w inside (omega arith))

pub returns-else-size-lt16 : goal.returns-else-size-lt16
returns-else-size-lt16 c =
    let a = c.args in
    append_full _ _ _ _ (to_cells _ _ _ c.requires.0 c.requires.1 c.requires.2) (omega arith)
