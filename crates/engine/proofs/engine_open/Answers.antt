-- `engine_open`: the store's part of a loaded script, or the answer of a refusal.
use Rattle.prelude.specs.Kit.{◌∙◌, ap}
use Rattle.semantics.specs.Calls.{engine_open}
use Rattle.call_store.specs.Left.{opened_left}
use Rattle.engine.proofs.Laws.{open_serves, replies_refused, replies_told}
use Rattle.engine.proofs.engine_open.Goals as goal

pub returns-in-Ok : goal.returns-in-Ok
unfolding engine_open
returns-in-Ok c =
    let a = c.args in
    let loaded = c.load.auto in
    let part = c.open_words-ended in
    replies_told (open_serves a.kinds.now a.operands.now a.slots.now a.heads.now) c.in-Ok.ensures
    loaded.kinds loaded.operands part.result
    (λ fs q same. (
      part.ensures.heads_after ∙ ap (λ d. opened_left d a.slots.now a.heads.now) same,
      part.ensures.small_answer,
    ))
    c.tell.ensures

pub returns-in-Err : goal.returns-in-Err
unfolding engine_open
returns-in-Err c =
    let a = c.args in
    replies_refused (open_serves a.kinds.now a.operands.now a.slots.now a.heads.now) c.in-Err.ensures
