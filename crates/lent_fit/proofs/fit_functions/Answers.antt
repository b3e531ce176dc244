-- Each function fits or is at fault, by the laws of `Laws`.
use Rattle.prelude.specs.Kit.{arith}
use Rattle.std.proofs.lemmas.Result.{err_from_is_err_and}
use Rattle.lent_fit.proofs.Laws.{fitting_starts, fitting_past, fitting_stops, fitting_goes, fitting_ends}
use Rattle.lent_fit.proofs.fit_functions.Goals as goal

pub loop-f-init : goal.loop-f-init
loop-f-init c = fitting_starts _ _ _ _ _

pub returns-then-kinds-p : goal.returns-then-kinds-p
returns-then-kinds-p c = fitting_past _ _ _ _ _ c.loop-f.invariant (omega arith) c.if-kinds-p.true

pub returns-in_err-p : goal.returns-in_err-p
returns-in_err-p c =
    let p = err_from_is_err_and c.from_residual.result c.from_residual.ensures.1 in
    rw (p.1, p.2)
    (fitting_stops _ _ _ _ _ c.loop-f.invariant (omega arith) (omega arith) c.fit_function.new.depths _
    c.in_err-p.ensures.0)

pub loop-f-preserved : goal.loop-f-preserved
loop-f-preserved c =
    fitting_goes _ _ _ _ _ c.loop-f.invariant (omega arith) (omega arith) _ c.in_ok-p.field-0 c.in_ok-p.ensures.0 _
    c.lay.ensures
    c.requires.1

pub returns : goal.returns
returns c = fitting_ends _ _ _ _ _ c.loop-f.invariant (omega arith)
