-- `store_check::cell_is_sound` meets its contract.
use Rattle.prelude.specs.Kit.{arith, refl, ap, not}
use Rattle.laws.specs.Tests.{passed, failed}
use Rattle.store_words.proofs.CellWords.{to_cells}
use Rattle.store_words.proofs.Slots.{front_cut}
use Rattle.store_check.proofs.Comparing.{head_small, head_unfit, empty_cell, not_zero, names_decide}
use Rattle.store_check.proofs.cell_is_sound.Goals as goal

pub returns-then-not-head_fits : goal.returns-then-not-head_fits
returns-then-not-head_fits c =
    head_unfit _ _ _ _ _ (to_cells _ _ _ c.requires.0 c.requires.1 c.requires.2) c.head_of-h.ensures
    (failed c.head_fits.ensures (ap not c.if-not-head_fits.true))

pub returns-then-h-eq0 : goal.returns-then-h-eq0
returns-then-h-eq0 c =
    empty_cell _ _ _ _ _ (to_cells _ _ _ c.requires.0 c.requires.1 c.requires.2) c.head_of-h.ensures
    (passed c.head_fits.ensures (ap not c.if-not-head_fits.false)) c.if-h-eq0.true c.zero_from.ensures

pub returns-then-not-zero_from : goal.returns-then-not-zero_from
returns-then-not-zero_from c =
    not_zero _ _ _ _ _ (to_cells _ _ _ c.requires.0 c.requires.1 c.requires.2) c.head_of-h.ensures
    (passed c.head_fits.ensures (ap not c.if-not-head_fits.false))
    (failed c.zero_from-2.ensures (ap not c.if-not-zero_from.true))

pub overflow_add-start-2 : goal.overflow_add-start-2
overflow_add-start-2 c =
    let small = head_small _ _ _ _ _ _ (passed c.head_fits.ensures (ap not c.if-not-head_fits.false)) in
    record { fits = omega (arith, small) }

pub slice_bounds-all_name_cells-end : goal.slice_bounds-all_name_cells-end
slice_bounds-all_name_cells-end c =
    let small = head_small _ _ _ _ _ _ (passed c.head_fits.ensures (ap not c.if-not-head_fits.false)) in
    omega (arith, small)

pub returns : goal.returns
returns c =
    let a = c.args in
    let head = passed c.head_fits.ensures (ap not c.if-not-head_fits.false) in
    let small = head_small _ _ _ _ _ _ head in
    names_decide _ _ _ _ _ (to_cells _ _ _ c.requires.0 c.requires.1 c.requires.2) c.head_of-h.ensures head
    (passed c.zero_from-2.ensures (ap not c.if-not-zero_from.false))
    (front_cut a.slots.now a.c c.head_of-h.result.size _ _ (omega arith) refl small c.requires.2)
    c.all_name_cells.ensures
