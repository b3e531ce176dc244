-- `store_check::count_cell` meets its contract: the elements are cut out of the array.
use Rattle.prelude.specs.Kit.{arith, refl, ◌∙◌, ap, take}
use Rattle.semantics.specs.Words.{slots_at}
use Rattle.store_words.proofs.CellWords.{to_cells}
use Rattle.store_words.proofs.Slots.{front_cut}
use Rattle.store_check.proofs.Gathering.{free_cell, used_cell}
use Rattle.store_check.proofs.count_cell.Goals as goal

pub returns-then-h-eq0 : goal.returns-then-h-eq0
returns-then-h-eq0 c = free_cell _ _ _ c.head_of-h.ensures _ c.if-h-eq0.true

pub returns : goal.returns
returns c =
    let a = c.args in
    let words = front_cut a.slots.now a.c c.min-n.result _ _ (omega arith) refl (omega arith) c.requires.2
    ∙ ap (λ n. take n (slots_at a.slots.now a.c)) c.min-n.ensures in
    used_cell a.slots.now a.heads.now a.c c.head_of-h.ensures _
    (to_cells _ _ _ c.requires.0 c.requires.1 c.requires.2) c.if-h-eq0.false words c.count_words.ensures
