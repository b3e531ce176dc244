-- The walk over a tree's lines, by the laws of `Walk`.
use Rattle.prelude.specs.Kit.{arith}
use Rattle.std.proofs.lemmas.Result.{err_from_is_err_and}
use Rattle.lent_form.proofs.Walk.{among_more, none_left, walk_past, walk_fails, is_later}
use Rattle.lent_form.proofs.Walk.{walk_ends, walk_on, walk_stops}
use Rattle.lent_form.proofs.+form_tree.Goals as goal

pub returns-then-levels-eq0 : goal.returns-then-levels-eq0
returns-then-levels-eq0 t c =
    let a = c.args in
    none_left a.kinds.now a.operands.now c.requires.lined.even a.over a.levels a.at c.if-levels-eq0.true

pub returns-in_err-line : goal.returns-in_err-line
returns-in_err-line t c =
    let a = c.args in
    let p = err_from_is_err_and c.from_residual.result c.from_residual.ensures.1 in
    rw (p.1, p.2)
    (walk_fails a.kinds.now a.operands.now c.requires.lined.even a.over a.levels a.at _ c.loop-p.invariant
    c.if-levels-eq0.false c.loop-p-test.true _ c.in_err-line.ensures)

pub returns-in_default : goal.returns-in_default
returns-in_default t c =
    let a = c.args in
    walk_ends a.kinds.now a.operands.now c.requires.lined.even a.over a.levels a.at _ c.loop-p.invariant
    c.if-levels-eq0.false c.loop-p-test.true _ c.in_ok-line.ensures c.in_default.is

pub loop-p-smaller : goal.loop-p-smaller
loop-p-smaller t c =
    let a = c.args in
    omega (
      arith,
      is_later a.kinds.now a.operands.now c.requires.lined.even a.over a.levels a.at _ c.loop-p.invariant
          c.if-levels-eq0.false c.loop-p-test.true _ c.in_ok-line.ensures,
    )

pub loop-p-preserved : goal.loop-p-preserved
loop-p-preserved t c =
    let a = c.args in
    walk_on a.kinds.now a.operands.now c.requires.lined.even a.over a.levels a.at _ c.loop-p.invariant
    c.if-levels-eq0.false c.loop-p-test.true _ c.in_ok-line.ensures _ c.in-Some.is _ _ c.loop.invariant (omega arith)

pub returns-in_err-p : goal.returns-in_err-p
returns-in_err-p t c =
    let a = c.args in
    let p = err_from_is_err_and c.from_residual-in_err-p.result c.from_residual-in_err-p.ensures.1 in
    rw (p.1, p.2)
    (walk_stops a.kinds.now a.operands.now c.requires.lined.even a.over a.levels a.at _ c.loop-p.invariant
    c.if-levels-eq0.false c.loop-p-test.true _ c.in_ok-line.ensures _ c.in-Some.is _ _ c.loop.invariant
    (omega arith) _ c.in_err-p.ensures)

pub loop-preserved : goal.loop-preserved
loop-preserved t c = among_more _ _ _ _ _ _ c.loop.invariant (omega arith) _ c.in_ok-p.ensures

pub returns : goal.returns
returns t c =
    let a = c.args in
    walk_past a.kinds.now a.operands.now c.requires.lined.even a.over a.levels a.at _ c.loop-p.invariant (omega arith)
