-- `engine_save`: the totals of a loaded script's store in the buffer, or the answer of a refusal.
use Rattle.prelude.specs.Kit.{◌∙◌}
use Rattle.semantics.specs.SaveCalls.{engine_save}
use Rattle.clearing.proofs.Clearing.{cleared_whole}
use Rattle.engine.proofs.Laws.{shallow}
use Rattle.engine.proofs.SaveLaws.{saves_refused, saves_told}
use Rattle.engine.proofs.engine_save.Goals as goal

pub save_words-ended-requires : goal.save_words-ended-requires
save_words-ended-requires c = shallow c.in-Ok.ensures

pub returns-in-Ok : goal.returns-in-Ok
unfolding engine_save
returns-in-Ok c =
    let a = c.args in
    let loaded = c.load.auto in
    let part = c.save_words-ended in
    saves_told a.kinds.now a.operands.now a.slots.now a.heads.now a.saved.now c.in-Ok.ensures
    loaded.kinds loaded.operands part.new.saved part.result part.ensures.saved_after
    part.ensures.small_answer c.tell.ensures

pub returns-in-Err : goal.returns-in-Err
unfolding engine_save
returns-in-Err c =
    let a = c.args in
    saves_refused a.kinds.now a.operands.now a.slots.now a.heads.now a.saved.now c.in-Err.ensures
    c.clear_from.new.items (c.clear_from.ensures ∙ cleared_whole a.saved.now 0)
