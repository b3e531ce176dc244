-- `engine_restore`: the store's part of a loaded script, or the answer of a refusal.
use Rattle.prelude.specs.Kit.{◌∙◌, ap}
use Rattle.semantics.specs.SaveCalls.{engine_restore}
use Rattle.call_saved.specs.Left.{restored_left}
use Rattle.engine.proofs.Laws.{replies_refused, replies_told}
use Rattle.engine.proofs.SaveLaws.{restore_serves}
use Rattle.engine.proofs.engine_restore.Goals as goal

pub returns-in-Ok : goal.returns-in-Ok
unfolding engine_restore
returns-in-Ok c =
    let a = c.args in
    let loaded = c.load.auto in
    let part = c.restore_words-ended in
    replies_told (restore_serves a.kinds.now a.operands.now a.slots.now a.heads.now a.saved.now) c.in-Ok.ensures
    loaded.kinds loaded.operands part.result
    (λ fs q same. (
      part.ensures.heads_after ∙ ap (λ d. restored_left d a.saved.now a.slots.now a.heads.now) same,
      part.ensures.small_answer,
    ))
    c.tell.ensures

pub returns-in-Err : goal.returns-in-Err
unfolding engine_restore
returns-in-Err c =
    let a = c.args in
    replies_refused (restore_serves a.kinds.now a.operands.now a.slots.now a.heads.now a.saved.now) c.in-Err.ensures
