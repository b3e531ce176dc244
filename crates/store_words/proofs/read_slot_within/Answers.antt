-- `store_words::read_slot_within` meets its contract: past the length there is no element.
use Rattle.prelude.specs.Kit.{◌+◌, ◌<◌, ◌*◌, arith, pos, get_or, to_z-of_z, w64, SFits}
use Rattle.semantics.specs.Words.{cells_in}
use Rattle.store_words.proofs.CellWords.{to_cells, length_in, element_in, element_out}
use Rattle.store_words.proofs.read_slot_within.Goals as goal
use Rattle.store_words.proofs.read_slot_within.Goals.{then-i-ge16-via-then-i-ge16, then-i-ge16-via-else-i-ge16+then-heads-c}

pub returns-then-i-ge16 : goal.returns-then-i-ge16
returns-then-i-ge16 c =
    let a = c.args in
    let inside : a.c < cells_in a.slots.now a.heads.now = to_cells _ _ _ c.requires.0 c.requires.1 c.requires.2 in
    elim c.then-i-ge16.branch [
      | then-i-ge16-via-then-i-ge16 w ↦ element_out _ _ _ _ (omega (arith, length_in _ _ _ inside))
      | then-i-ge16-via-else-i-ge16+then-heads-c w ↦ element_out _ _ _ _ (omega (arith, length_in _ _ _ inside))
    ]

pub returns : goal.returns
returns c =
    let a = c.args in
    let fits : SFits w64 (get_or a.slots.now (1 + 16 * a.c + a.i) (pos 0)) = record { sfits = omega arith } in
    rw (to_z-of_z fits)
    (element_in _ _ _ _ (to_cells _ _ _ c.requires.0 c.requires.1 c.requires.2) (omega arith))
