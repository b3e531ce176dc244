use Rattle.std.proofs.Common.{◌∙◌}
use Rattle.script_read.proofs.Turns.{none_done, one_more, one_stops, passed_on}
use Rattle.script_names.specs.Walk.{names_function}
use Rattle.script_names.proofs.name_script.Goals as goal

pub loop-init : goal.loop-init
loop-init c = none_done _ 0

pub returns-in_err-p : goal.returns-in_err-p
returns-in_err-p c =
    let a = c.args in
    passed_on _ _ c.from_residual.ensures.1
    ∙ one_stops (names_function a.kinds.now a.operands.now a.functions) _ _ 0 c.loop.invariant c.loop-test.true
    c.in_err-p.ensures

pub loop-preserved : goal.loop-preserved
loop-preserved c =
    let a = c.args in
    one_more (names_function a.kinds.now a.operands.now a.functions) _ 0 c.loop.invariant c.in_ok-p.ensures
