-- `script_types::type_function`: one law for each way out.
use Rattle.prelude.specs.Kit.{arith, refl, ◌∙◌}
use Rattle.semantics.specs.File.{at_function}
use Rattle.script_read.proofs.Nodes.{Seen, fitting, fitting_inside}
use Rattle.script_read.proofs.Turns.{passed_on}
use Rattle.script_types.proofs.Laws.{result_fits, result_differs, body_faulty, no_function}
use Rattle.script_types.proofs.type_function.Goals as goal
use Rattle.script_types.proofs.type_function.Goals.{In_ok-node}

-- the function's node
seen : (c : In_ok-node) →
    let n = c.in_ok-node.node in
    Seen c.args.kinds.now c.args.operands.now at_function c.args.at n.kind n.low n.high
seen c = fitting c.args.kinds.now c.args.operands.now at_function c.args.at _ c.in_ok-node.ensures

pub returns-in_err-node : goal.returns-in_err-node
returns-in_err-node c =
    let fault = c.in_err-node.ensures in
    let e = passed_on _ _ c.from_residual.ensures.1 in
    rw fault.0 at e ∙ no_function _ _ _ _ _ fault.1.1

pub overflow_add-at : goal.overflow_add-at
overflow_add-at c =
    let a = c.args in
    omega (arith, fitting_inside a.kinds.now a.operands.now at_function a.at _ c.in_ok-node.ensures)

pub returns-in_err-body : goal.returns-in_err-body
returns-in_err-body c =
    passed_on _ _ c.from_residual-in_err-body.ensures.1
    ∙ body_faulty _ _ _ (seen (goal.at.returns-in_err-body c).In_ok-node) _ c.in_err-body.ensures _ _ refl

pub returns-then-body-node : goal.returns-then-body-node
returns-then-body-node c =
    rw c.mismatch.ensures
    (result_differs _ _ _ (seen (goal.at.returns-then-body-node c).In_ok-node) _ c.in_ok-body.ensures _ _ refl
    c.if-body-node.true)

pub returns : goal.returns
returns c =
    result_fits _ _ _ (seen (goal.at.returns c).In_ok-node) _ c.in_ok-body.ensures _ _ refl c.if-body-node.false
