use Rattle.std.proofs.Common.{arith, refl, ◌∙◌}
use Rattle.std.specs.Prelude.{Ok}
use Rattle.semantics.specs.File.{at_function}
use Rattle.script_read.proofs.Nodes.{seen, inside}
use Rattle.script_names.proofs.Laws.{function_next, function_none, unknown_passed}
use Rattle.script_names.proofs.name_function.Goals as goal

pub returns-in_err-node : goal.returns-in_err-node
returns-in_err-node c =
    let a = c.args in
    let fault = c.in_err-node.ensures in
    unknown_passed _ _ _ c.from_residual.ensures.1 fault.0
    ∙ function_none a.kinds.now a.operands.now a.functions a.at fault.1.0 fault.1.1

pub overflow_add-at : goal.overflow_add-at
overflow_add-at c =
    let a = c.args in
    omega (
      arith,
      inside a.kinds.now a.operands.now at_function a.at (Ok c.in_ok-node.node) c.in_ok-node.ensures _ refl,
    )

pub returns : goal.returns
returns c =
    let a = c.args in
    function_next a.kinds.now a.operands.now a.functions
    (seen a.kinds.now a.operands.now at_function a.at (Ok c.in_ok-node.node) c.in_ok-node.ensures _ refl) _
    c.name_parameters.ensures
