-- `script_types::type_parameters`: no parameter is there.
use Rattle.prelude.specs.Kit.{◌∙◌, sym}
use Rattle.script_depths.proofs.Laws.{passed_on}
use Rattle.script_types.proofs.Laws.{no_parameter}
use Rattle.script_types.proofs.type_parameters.Goals as goal

pub returns-in_err-node : goal.returns-in_err-node
returns-in_err-node c =
    let a = c.args in
    let fault = c.in_err-node.ensures in
    let e = passed_on _ _ c.from_residual.ensures.1 in
    rw fault.0 at e
    ∙ no_parameter a.kinds.now a.operands.now a.starts.now _ _ _ c.loop.table c.loop-test.true c.loop.invariant.0 _
    fault.1.1
    ∙ sym c.loop.invariant.1
