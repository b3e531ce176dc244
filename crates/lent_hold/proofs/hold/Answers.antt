-- The goals of `lent_hold::hold` that the check leaves.
use Rattle.prelude.specs.Kit.{arith}
use Rattle.std.proofs.lemmas.Result.{err_from_is_err_and}
use Rattle.lent_hold.proofs.Functions.{passing_none, passing_all, passing_fault, passing_more}
use Rattle.lent_hold.proofs.hold.Goals as goal

pub loop-number-init : goal.loop-number-init
loop-number-init c = passing_none _ _ _ _ _

pub returns-in_err-line : goal.returns-in_err-line
returns-in_err-line c =
    let p = err_from_is_err_and c.from_residual.result c.from_residual.ensures.1 in
    rw (p.1, p.2) (passing_fault _ _ _ _ _ c.loop-number.invariant c.loop-number-test.true _ c.hold_function.ensures.same
    c.in_err-line.was)

pub loop-number-preserved : goal.loop-number-preserved
loop-number-preserved c =
    passing_more _ _ _ _ _ c.loop-number.invariant c.loop-number-test.true _ c.hold_function.ensures.same
    c.in_ok-line.was c.in_ok-line.ensures.near

pub returns : goal.returns
returns c = passing_all _ _ _ _ _ c.loop-number.invariant (omega arith)
