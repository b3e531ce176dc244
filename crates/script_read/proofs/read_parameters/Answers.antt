use Rattle.std.proofs.Common.{arith, sym, ◌∙◌}
use Rattle.semantics.specs.File.{at_parameter, parameter}
use Rattle.script_read.specs.Told.{told}
use Rattle.script_read.proofs.Nodes.{fitting, fitting_inside, halted}
use Rattle.script_read.proofs.Part.{parameter_goes, parameter_stops}
use Rattle.script_read.proofs.Turns.{none_done, one_more, one_stops, passed_on}
use Rattle.script_read.proofs.read_parameters.Goals as goal

pub loop-init : goal.loop-init
loop-init c = none_done _ c.args.at

pub returns-in_err-fitting_node : goal.returns-in_err-fitting_node
returns-in_err-fitting_node c =
    let a = c.args in
    passed_on _ _ c.from_residual.ensures.1
    ∙ one_stops (λ q. told (parameter a.kinds.now a.operands.now q)) _ _ a.at c.loop.invariant c.loop-test.true
    (sym (parameter_stops (halted a.kinds.now a.operands.now at_parameter c.loop.p _ c.in_err-fitting_node.ensures)))

pub overflow_add-p : goal.overflow_add-p
overflow_add-p c =
    let a = c.args in
    omega (arith, fitting_inside a.kinds.now a.operands.now at_parameter c.loop.p _ c.in_ok-fitting_node.ensures)

pub loop-preserved : goal.loop-preserved
loop-preserved c =
    let a = c.args in
    one_more (λ q. told (parameter a.kinds.now a.operands.now q)) _ a.at c.loop.invariant
    (sym (parameter_goes (fitting a.kinds.now a.operands.now at_parameter c.loop.p _ c.in_ok-fitting_node.ensures)))
