-- Each step binds the parameter before.
use Rattle.prelude.specs.Kit.{arith}
use Rattle.flatten_functions.proofs.Parameters.{bind_begin, bind_go, bind_end}
use Rattle.flatten_functions.proofs.bind_parameters.Goals as goal

pub loop-i-init : goal.loop-i-init
loop-i-init c =
    let a = c.args in
    let parts = c.requires.parts.0 in
    bind_begin a.kinds.now a.operands.now a.at a.count (omega (arith, parts.few, parts.whole)) c.requires.unbound

pub loop-i-preserved : goal.loop-i-preserved
loop-i-preserved c =
    let a = c.args in
    let x = c.low_at-x in
    bind_go a.kinds.now a.operands.now a.at c.loop-i.i a.count x.result c.high_at.result (omega arith) (omega arith)
    (omega (arith, c.requires.parts.1.1)) (omega (arith, x.type_inv)) x.ensures c.high_at.ensures c.loop-i.invariant

pub returns : goal.returns
returns c =
    let a = c.args in
    bind_end a.kinds.now a.operands.now a.at c.loop-i.i a.count (omega arith) c.loop-i.invariant
