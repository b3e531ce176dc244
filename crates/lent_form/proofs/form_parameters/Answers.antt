-- Each parameter is passed or at fault, by the laws of `Functions`.
use Rattle.prelude.specs.Kit.{arith, sym}
use Rattle.lent_form.proofs.Functions.{repeated_goes, repeated_stops, repeated_ends, parameter_by}
use Rattle.lent_form.proofs.form_parameters.Goals as goal

pub returns-in_err-p : goal.returns-in_err-p
returns-in_err-p c =
    let a = c.args in
    let stops = repeated_stops _ a.count a.at c.loop.counter c.loop.p c.loop.invariant (omega arith) _
    (parameter_by a.kinds.now a.operands.now a.over c.loop.p _ c.in_err-p.ensures) in
    grind (arith, stops)

pub loop-preserved : goal.loop-preserved
loop-preserved c =
    let a = c.args in
    repeated_goes _ a.count a.at c.loop.counter c.loop.p c.loop.invariant (omega arith) _
    (parameter_by a.kinds.now a.operands.now a.over c.loop.p _ c.in_ok-p.ensures)

pub returns : goal.returns
returns c =
    sym (repeated_ends _ c.args.count c.args.at c.loop.counter c.loop.p c.loop.invariant (omega arith))
