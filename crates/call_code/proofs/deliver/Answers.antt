-- The goals of `call_code::deliver` that the check leaves.
use Rattle.prelude.specs.Kit.{arith, sym, length-take-le}
use Rattle.call_code.proofs.Laws.{passed_as, lines_of_passed, delivers_code, delivers_not}
use Rattle.call_code.proofs.deliver.Goals as goal

pub slice_bounds-deliver_words-end : goal.slice_bounds-deliver_words-end
slice_bounds-deliver_words-end c = sym (length-take-le _ _ (lines_of_passed c.in-Ok.ensures).kinds_long)

pub slice_bounds-deliver_words-end-in-Ok : goal.slice_bounds-deliver_words-end-in-Ok
slice_bounds-deliver_words-end-in-Ok c = sym (length-take-le _ _ (lines_of_passed c.in-Ok.ensures).operands_long)

pub deliver_words-ended-requires : goal.deliver_words-ended-requires
deliver_words-ended-requires c = (lines_of_passed c.in-Ok.ensures).cut

pub returns-in-Ok : goal.returns-in-Ok
returns-in-Ok c =
    let a = c.args in
    let h = c.in-Ok.ensures in
    let p = passed_as h in
    let depth = h.depth p.program _ p.judged in
    delivers_code a.kinds.now a.operands.now a.slots.now a.heads.now a.readings.now a.budget p
    (c.deliver_words-ended.ensures p.program (h.performs p.program _ p.judged (omega arith))
    (omega (arith, depth.0, depth.1)))
    c.answer.ensures

pub returns-in-Err : goal.returns-in-Err
returns-in-Err c =
    let a = c.args in
    delivers_not a.slots.now a.heads.now a.readings.now a.budget c.in-Err.ensures c.refused.ensures
