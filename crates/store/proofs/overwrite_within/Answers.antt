-- `store::overwrite_within` meets its contract: past the length and past the sixteen slots there is no element.
use Rattle.prelude.specs.Kit.{◌<◌, to_z-of_z}
use Rattle.semantics.specs.Words.{cells_in}
use Rattle.store_words.proofs.CellWords.{to_cells}
use Rattle.store.proofs.Overwriting.{overwrite_past, overwrite_outside, overwrite_one}
use Rattle.store.proofs.overwrite_within.Goals as goal
use Rattle.store.proofs.overwrite_within.Goals.{else-i-heads-via-then-i-heads+else-i-lt16, else-i-heads-via-else-i-heads}

pub returns-then-i-lt16 : goal.returns-then-i-lt16
returns-then-i-lt16 c =
    let a = c.args in
    let inside : a.c < cells_in a.slots.now a.heads.now = to_cells _ _ _ c.requires.0 c.requires.1 c.requires.2 in
    rw (to_z-of_z {z = a.w} c.ranges.w) (overwrite_one _ _ _ _ _ inside c.if-i-heads.true c.if-i-lt16.true)

pub returns-else-i-heads : goal.returns-else-i-heads
returns-else-i-heads c =
    let a = c.args in
    let inside : a.c < cells_in a.slots.now a.heads.now = to_cells _ _ _ c.requires.0 c.requires.1 c.requires.2 in
    elim c.else-i-heads.branch [
      | else-i-heads-via-then-i-heads+else-i-lt16 w ↦
          overwrite_outside _ _ _ _ _ inside w.if-i-heads.true w.if-i-lt16.false
      | else-i-heads-via-else-i-heads w ↦ overwrite_past _ _ _ _ _ inside w.if-i-heads.false
    ]
