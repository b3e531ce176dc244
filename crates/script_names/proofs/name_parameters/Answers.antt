use Rattle.std.proofs.Common.{◌<◌, ◌-◌, ◌+◌, ◌≡◌, arith, refl, sym, ◌∙◌}
use Rattle.std.specs.Prelude.{Ok}
use Rattle.semantics.specs.File.{at_parameter}
use Rattle.script_read.proofs.Nodes.{Seen, seen, inside}
use Rattle.script_names.proofs.Laws.{parameter_known, parameter_new, parameter_none, body_next}
use Rattle.script_names.proofs.Laws.{unknown_told, unknown_passed}
use Rattle.script_names.proofs.name_parameters.Goals as goal
use Rattle.script_names.proofs.name_parameters.Goals.{In_ok-node}

-- the node of a parameter
node_seen : (c : In_ok-node) →
    let n = c.in_ok-node.node in
    Seen c.args.kinds.now c.args.operands.now at_parameter c.loop.p n.kind n.low n.high
node_seen c = seen _ _ at_parameter _ (Ok c.in_ok-node.node) c.in_ok-node.ensures _ refl

pub returns-in_err-node : goal.returns-in_err-node
returns-in_err-node c =
    let a = c.args in
    let fault = c.in_err-node.ensures in
    let some : 0 < a.count - c.loop.counter = omega (arith, c.loop-test.true) in
    unknown_passed _ _ _ c.from_residual.ensures.1 fault.0
    ∙ parameter_none a.kinds.now a.operands.now a.functions _ _ c.loop.p c.loop.known c.loop.invariant some fault.1.0
    fault.1.1

pub returns-then-known-x : goal.returns-then-known-x
returns-then-known-x c =
    let a = c.args in
    let some : 0 < a.count - c.loop.counter = omega (arith, c.loop-test.true) in
    unknown_told _ _ c.unknown.ensures
    ∙ parameter_known a.kinds.now a.operands.now a.functions _ _ c.loop.p c.loop.known c.loop.invariant some
    (node_seen (goal.at.returns-then-known-x c).In_ok-node) c.if-known-x.true

pub overflow_add-p : goal.overflow_add-p
overflow_add-p c =
    let a = c.args in
    omega (
      arith,
      inside a.kinds.now a.operands.now at_parameter c.loop.p (Ok c.in_ok-node.node) c.in_ok-node.ensures _ refl,
    )

pub loop-preserved : goal.loop-preserved
loop-preserved c =
    let a = c.args in
    let some : 0 < a.count - c.loop.counter = omega (arith, c.loop-test.true) in
    let one : a.count - c.loop.counter - 1 ≡ a.count - (c.loop.counter + 1) = omega arith in
    rw one at (parameter_new a.kinds.now a.operands.now a.functions _ _ c.loop.p c.loop.known c.loop.invariant some
    (node_seen (goal.at.loop-preserved c).In_ok-node) (omega arith) (omega arith) c.if-known-x.false)

pub returns : goal.returns
returns c =
    let a = c.args in
    body_next a.kinds.now a.operands.now a.functions _ (a.count - c.loop.counter) _ _
    (omega (arith, c.loop-test.false)) c.name_part.ensures.0
    ∙ sym c.loop.invariant
