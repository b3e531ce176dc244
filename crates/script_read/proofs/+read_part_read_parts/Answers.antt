use Rattle.std.proofs.Common.{arith, ◌∙◌}
use Rattle.semantics.specs.File.{at_part, part}
use Rattle.script_read.specs.Told.{told}
use Rattle.script_read.proofs.Nodes.{fitting, fitting_inside, halted}
use Rattle.script_read.proofs.Part.{stopped, deep, goes_down}
use Rattle.script_read.proofs.Turns.{none_done, one_more, one_stops, passed_on}
use Rattle.script_read.proofs.+read_part_read_parts.Goals as goal
use Rattle.script_read.proofs.+read_part_read_parts.Goals.{read_parts-then-is_atom, read_parts-else-is_atom+in_ok-p}

pub read_part-returns-in_err-node : goal.read_part-returns-in_err-node
read_part-returns-in_err-node t c =
    let a = c.args in
    passed_on _ _ c.from_residual.ensures.1
    ∙ stopped a.levels (halted a.kinds.now a.operands.now at_part a.at _ c.in_err-node.ensures)

pub read_part-returns-then-levels-eq0 : goal.read_part-returns-then-levels-eq0
read_part-returns-then-levels-eq0 t c =
    let a = c.args in
    deep (fitting a.kinds.now a.operands.now at_part a.at _ c.in_ok-node.ensures) a.levels c.if-levels-eq0.true

pub read_part-overflow_add-at : goal.read_part-overflow_add-at
read_part-overflow_add-at t c =
    let a = c.args in
    omega (arith, fitting_inside a.kinds.now a.operands.now at_part a.at _ c.in_ok-node.ensures)

pub read_part-returns : goal.read_part-returns
read_part-returns t c =
    let a = c.args in
    goes_down (fitting a.kinds.now a.operands.now at_part a.at _ c.in_ok-node.ensures) a.levels c.if-levels-eq0.false
    c.parts_of-count.result c.parts_of-count.ensures _ c.read_parts.ensures

pub read_parts-loop-init : goal.read_parts-loop-init
read_parts-loop-init t c = none_done _ c.args.at

pub read_parts-returns-in_err-p : goal.read_parts-returns-in_err-p
read_parts-returns-in_err-p t c =
    let a = c.args in
    passed_on _ _ c.from_residual.ensures.1
    ∙ one_stops (λ q. told (part a.kinds.now a.operands.now a.levels q)) _ _ a.at c.loop.invariant c.loop-test.true
    c.in_err-p.ensures

pub read_parts-loop-preserved : goal.read_parts-loop-preserved
read_parts-loop-preserved t c =
    let a = c.args in
    one_more (λ q. told (part a.kinds.now a.operands.now a.levels q)) _ a.at c.loop.invariant
    (elim c.if-is_atom.branch [
      | read_parts-then-is_atom w ↦ rw w.p-is (c.is_atom.ensures w.if-is_atom.true).1
      | read_parts-else-is_atom+in_ok-p w ↦ rw w.p-is w.in_ok-p.ensures
    ])
