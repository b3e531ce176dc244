-- `store_check::is_sound` meets its contract, by the laws of `Whole`.
use Rattle.prelude.specs.Kit.{arith, ◌∙◌, sym, ap, not, length-take}
use Rattle.laws.specs.Tests.{passed, failed}
use Rattle.store_check.proofs.Whole.{first_words, unfit, list_open, totals_fail, cells_decide}
use Rattle.store_check.proofs.is_sound.Goals as goal

pub returns-then-not-lengths_fit : goal.returns-then-not-lengths_fit
returns-then-not-lengths_fit c = unfit _ _ _ (failed c.lengths_fit.ensures (ap not c.if-not-lengths_fit.true))

pub gather-holders-requires : goal.gather-holders-requires
gather-holders-requires c =
    (first_words _ _ (passed c.lengths_fit.ensures (ap not c.if-not-lengths_fit.false))).0

pub follow_list-requires : goal.follow_list-requires
follow_list-requires c =
    (first_words _ _ (passed c.lengths_fit.ensures (ap not c.if-not-lengths_fit.false))).1

pub returns-then-follow_list-cells : goal.returns-then-follow_list-cells
returns-then-follow_list-cells c =
    list_open _ _ _ (passed c.lengths_fit.ensures (ap not c.if-not-lengths_fit.false)) c.follow_list.ensures.end
    c.follow_list.ensures.meets c.gather-holders.ensures (λ e. c.if-follow_list-cells.true (e ∙ sym c.cells.ensures.is))

pub slice_bounds-all_name_cells-end : goal.slice_bounds-all_name_cells-end
slice_bounds-all_name_cells-end c =
    let first = (first_words _ _ (passed c.lengths_fit.ensures (ap not c.if-not-lengths_fit.false))).0 in
    omega (arith, first, length-take 1 c.args.slots.now)

pub returns-then-not-all_name_cells : goal.returns-then-not-all_name_cells
returns-then-not-all_name_cells c =
    totals_fail _ _ _ (passed c.lengths_fit.ensures (ap not c.if-not-lengths_fit.false)) c.follow_list.ensures.end
    c.follow_list.ensures.meets c.gather-holders.ensures
    (failed c.all_name_cells.ensures (ap not c.if-not-all_name_cells.true))

pub returns : goal.returns
returns c =
    cells_decide _ _ _ (passed c.lengths_fit.ensures (ap not c.if-not-lengths_fit.false)) c.follow_list.ensures.end
    c.follow_list.ensures.meets c.gather-holders.ensures (c.if-follow_list-cells.false ∙ c.cells.ensures.is)
    (passed c.all_name_cells.ensures (ap not c.if-not-all_name_cells.false)) c.cells_are_sound.ensures
