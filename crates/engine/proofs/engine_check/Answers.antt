-- `engine_check`: the store's part of a loaded script, or the answer of a refusal.
use Rattle.prelude.specs.Kit.{◌∙◌, ap}
use Rattle.semantics.specs.Calls.{engine_check}
use Rattle.call_store.specs.Left.{checked_left}
use Rattle.engine.proofs.Laws.{check_serves, replies_refused, replies_told}
use Rattle.engine.proofs.engine_check.Goals as goal

pub returns-in-Ok : goal.returns-in-Ok
unfolding engine_check
returns-in-Ok c =
    let a = c.args in
    let loaded = c.load.auto in
    let part = c.check_words-ended in
    replies_told (check_serves a.kinds.now a.operands.now a.slots.now a.heads.now) c.in-Ok.ensures
    loaded.kinds loaded.operands part.result
    (λ fs q same. (
      part.ensures.heads_value ∙ ap (λ d. checked_left d a.slots.now a.heads.now) same,
      part.ensures.small_answer,
    ))
    c.tell.ensures

pub returns-in-Err : goal.returns-in-Err
unfolding engine_check
returns-in-Err c =
    let a = c.args in
    replies_refused (check_serves a.kinds.now a.operands.now a.slots.now a.heads.now) c.in-Err.ensures
