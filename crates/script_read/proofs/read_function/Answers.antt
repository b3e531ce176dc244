use Rattle.std.proofs.Common.{arith, sym, refl, ◌∙◌}
use Rattle.semantics.specs.File.{at_function}
use Rattle.script_read.proofs.Nodes.{fitting, fitting_inside, halted}
use Rattle.script_read.proofs.Part.{function_parts, function_stops}
use Rattle.script_read.proofs.Turns.{passed_on}
use Rattle.script_read.proofs.read_function.Goals as goal

pub returns-in_err-node : goal.returns-in_err-node
returns-in_err-node c =
    let a = c.args in
    passed_on _ _ c.from_residual.ensures.1
    ∙ function_stops (halted a.kinds.now a.operands.now at_function a.at _ c.in_err-node.ensures)

pub overflow_add-at : goal.overflow_add-at
overflow_add-at c =
    let a = c.args in
    omega (arith, fitting_inside a.kinds.now a.operands.now at_function a.at _ c.in_ok-node.ensures)

pub returns-in_err-body : goal.returns-in_err-body
returns-in_err-body c =
    let a = c.args in
    passed_on _ _ c.from_residual-in_err-body.ensures.1
    ∙ function_parts (fitting a.kinds.now a.operands.now at_function a.at _ c.in_ok-node.ensures) _ _
    c.in_err-body.ensures refl

pub returns : goal.returns
returns c =
    let a = c.args in
    function_parts (fitting a.kinds.now a.operands.now at_function a.at _ c.in_ok-node.ensures) _ _
    c.in_ok-body.ensures (sym c.read_part.ensures)
