-- `script_types::type_script`: main's shape, and then one function after the other.
use Rattle.prelude.specs.Kit.{arith, ◌≡◌, ◌∙◌, sym}
use Rattle.script_read.proofs.Turns.{none_done, one_more, one_stops, passed_on}
use Rattle.script_types.specs.Functions.{known_function}
use Rattle.script_types.proofs.Laws.{wrong_shape, right_shape}
use Rattle.script_types.proofs.type_script.Goals as goal

pub returns-then-not-main_fits : goal.returns-then-not-main_fits
returns-then-not-main_fits c =
    rw c.mismatch.ensures (wrong_shape _ _ _ _ _ c.main_fits.ensures c.if-not-main_fits.true)

pub loop-init : goal.loop-init
loop-init c = none_done _ 0

pub returns-in_err-p : goal.returns-in_err-p
returns-in_err-p c =
    let a = c.args in
    passed_on _ _ c.from_residual.ensures.1
    ∙ right_shape _ _ _ _ _ c.main_fits.ensures c.if-not-main_fits.false _
    (one_stops (known_function a.kinds.now a.operands.now a.starts.now) _ _ 0 c.loop.invariant c.loop-test.true
    c.in_err-p.ensures)

pub loop-preserved : goal.loop-preserved
loop-preserved c =
    let a = c.args in
    one_more (known_function a.kinds.now a.operands.now a.starts.now) _ 0 c.loop.invariant c.in_ok-p.ensures

pub returns : goal.returns
returns c =
    let all : c.loop.counter ≡ c.args.functions = omega arith in
    right_shape _ _ _ _ _ c.main_fits.ensures c.if-not-main_fits.false _ (sym (rw all at c.loop.invariant))
