-- `engine_deliver`: a delivery by a loaded script's code, cut to its lines, or the answer of a refusal.
use Rattle.prelude.specs.Kit.{arith, ◌∙◌}
use Rattle.semantics.specs.Machine.{program}
use Rattle.semantics.specs.Calls.{room, engine_deliver}
use Rattle.script_laws.specs.Admitted.{admitted_judged}
use Rattle.machine_laws.specs.Script.{cut_coded}
use Rattle.engine.proofs.Laws.{lines_cut, lines_are, deliver_serves, script_performs, program_depth}
use Rattle.engine.proofs.Laws.{replies_refused, replies_told}
use Rattle.engine.proofs.engine_deliver.Goals as goal

pub deliver_words-ended-requires : goal.deliver_words-ended-requires
deliver_words-ended-requires c =
    let kept = c.load_with.auto in lines_cut c.in-Ok.ensures.loads kept.kinds kept.operands

pub returns-in-Ok : goal.returns-in-Ok
unfolding engine_deliver
returns-in-Ok c =
    let a = c.args in
    let kept = c.load_with.auto in
    let h = c.in-Ok.ensures in
    let part = c.deliver_words-ended in
    replies_told (deliver_serves a.kinds.now a.operands.now a.slots.now a.heads.now a.readings.now a.budget) h.loads
    kept.kinds kept.operands part.result
    (λ fs q same. let coded = h.coded fs q (omega arith) in
    part.ensures (program fs) (script_performs a.file.now fs
    (admitted_judged fs a.file.now (room a.kinds.now a.operands.now) q) coded.0 _
    (cut_coded fs _ _ _ c.in-Ok.field-0.lines (omega (arith, lines_are h.loads fs q)) coded.1))
    (same ∙ program_depth fs))
    c.tell.ensures

pub returns-in-Err : goal.returns-in-Err
unfolding engine_deliver
returns-in-Err c =
    let a = c.args in
    replies_refused (deliver_serves a.kinds.now a.operands.now a.slots.now a.heads.now a.readings.now a.budget)
    c.in-Err.ensures.loads
