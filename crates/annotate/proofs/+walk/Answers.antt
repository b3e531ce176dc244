-- Answers for the functions of the walk.
use Rattle.prelude.specs.Kit.{◌+◌, ◌-◌, arith, ◌≡◌, ◌∙◌, ap}
use Rattle.semantics.specs.Borrow.{borrows}
use Rattle.plain_rows.specs.Plain.{plain, meant}
use Rattle.plain_rows.specs.Parts.{depth_in}
use Rattle.plain_rows.specs.Walk.{tree_walk, line_walk}
use Rattle.annotate_rows.proofs.Rows.{lower}
use Rattle.annotate.specs.Walks.{Walks, is_loop}
use Rattle.annotate.proofs.Branches.{if_done, loop_done}
use Rattle.annotate.proofs.Lines.{leaf_line, if_line, loop_line, leaf_is, loop_is, not_loop, written_loop}
use Rattle.annotate.proofs.Trees.{end_done, none_done, going_none, going_more, going_stops, going_ends, tree_done}
use Rattle.annotate.proofs.+walk.Goals as goal
use Rattle.annotate.proofs.+walk.Goals.{walk_tree-in-If, walk_tree-in-Loop, walk_tree-in_default}

pub walk_if-returns : goal.walk_if-returns
walk_if-returns t c =
    let a = c.args in
    let code = plain a.operands.now a.rows.now a.notes.now in
    let borrowing = borrows a.table.now in
    let depths = depth_in a.depths.now in
    if_done code borrowing depths (tree_walk code borrowing depths a.here.levels) a.here.p a.here.q a.x (meant a.g)
    a.live.now c.walk_tree-second.result c.walk_tree-first.result c.join.new.set _ c.less_two.result
    c.then_end_at.result c.less_two.ensures c.then_end_at.ensures.end c.walk_tree-second.ensures c.put_used.ensures
    c.walk_tree-first.ensures c.put_releases-opened.ensures c.put_atom-guarded.ensures c.put_row.ensures c.join.ensures
    c.take_use.ensures

pub walk_loop-unreachable-requires : goal.walk_loop-unreachable-requires
walk_loop-unreachable-requires t c = not_loop c.args.l c.in_default.not-Loop c.requires.line

pub walk_loop-returns : goal.walk_loop-returns
walk_loop-returns t c =
    let a = c.args in
    let l = c.in-Loop in
    let code = plain a.operands.now a.rows.now a.notes.now in
    let borrowing = borrows a.table.now in
    let depths = depth_in a.depths.now in
    loop_done code borrowing depths (tree_walk code borrowing depths a.here.levels) a.here.p a.here.q l.name l.kind
    l.first_name l.second_name l.first l.second c.second_of.result a.live.now c.pass_names.new.live
    c.walk_tree-before.result _ _ c.loop_size.result c.less_two.result c.loop_size.ensures c.less_two.ensures
    c.pass_names.ensures c.walk_tree-before.ensures l.is c.open_loop-opened.ensures c.second_of.ensures
    c.take_use.ensures c.retain_handed.ensures c.take_use-2.ensures

-- ---- a tree: its end line, and the lines before it

pub walk_tree-returns-then-levels-eq0 : goal.walk_tree-returns-then-levels-eq0
walk_tree-returns-then-levels-eq0 t c =
    let a = c.args in
    let code = plain a.operands.now a.rows.now a.notes.now in
    let borrowing = borrows a.table.now in
    let depths = depth_in a.depths.now in
    none_done code borrowing depths a.levels a.e c.if-levels-eq0.true
    (end_done code borrowing depths a.e c.atom_of-a.result c.row_at.result c.row_at.ensures c.atom_of-a.ensures
    c.put_end.ensures c.take_use.ensures)

pub walk_tree-lines-init : goal.walk_tree-lines-init
walk_tree-lines-init t c =
    let a = c.args in
    let code = plain a.operands.now a.rows.now a.notes.now in
    let borrowing = borrows a.table.now in
    let depths = depth_in a.depths.now in
    going_none code borrowing depths (tree_walk code borrowing depths (a.levels - 1)) c.take_use.ensures.long
    (lower c.put_end.ensures c.requires.1) (omega arith) (omega arith)

pub walk_tree-walk_loop-requires : goal.walk_tree-walk_loop-requires
walk_tree-walk_loop-requires t c = (
  omega arith,
  (
    ap is_loop c.written_line-written.ensures
        ∙ written_loop _ _ _ _ c.line_at-l.result (rw c.in-Loop.is (loop_is _ _ _ _ _ _)),
    (omega arith, (omega arith, lower c.close_loop.ensures c.lines.invariant.room)),
  ),
)

pub walk_tree-walk_leaf-requires : goal.walk_tree-walk_leaf-requires
walk_tree-walk_leaf-requires t c = record {
  leaf = leaf_is _ c.in_default.not-If c.in_default.not-Loop;
  row = omega arith;
  room = c.lines.invariant.room;
}

pub walk_tree-lines-preserved : goal.walk_tree-lines-preserved
walk_tree-lines-preserved t c =
    let a = c.args in
    let m = c.match-l in
    let p = c.note_at-p.result in
    let q = c.lines.q in
    let l = c.line_at-l.result in
    let code = plain a.operands.now a.rows.now a.notes.now in
    let borrowing = borrows a.table.now in
    let depths = depth_in a.depths.now in
    let inner = tree_walk code borrowing depths (a.levels - 1) in
    let line : Walks (line_walk code borrowing depths inner p q l) c.lines.live c.lines.cur c.lines.ks c.lines.os
    c.lines.at m.live m.cur m.ks m.os m.at =
    elim m.branch [
      | walk_tree-in-If w ↦ rw (w.ks-is, w.os-is, w.cur-is, w.at-is, w.live-is, w.in-If.is)
          (if_line code borrowing depths inner p q _ _ w.put_release.ensures w.walk_if.ensures)
      | walk_tree-in-Loop w ↦ rw (w.ks-is, w.os-is, w.cur-is, w.at-is, w.live-is)
          (loop_line code borrowing depths inner p q l w.written_line-written.result
          (rw w.in-Loop.is (loop_is _ _ _ _ _ _)) w.written_line-written.ensures w.close_loop.ensures
          w.walk_loop.ensures)
      | walk_tree-in_default w ↦ rw (w.ks-is, w.os-is, w.cur-is, w.at-is, w.live-is)
          (leaf_line code borrowing depths inner p q l (leaf_is l w.in_default.not-If w.in_default.not-Loop)
          w.walk_leaf.ensures)
    ] in
    let fewer : 4096 - (c.lines.counter + 1) ≡ 4096 - c.lines.counter - 1 = omega arith in
    rw fewer (going_more code borrowing depths inner c.lines.invariant p l (omega arith) c.note_at-p.ensures
    c.if-q-p.false c.line_at-l.ensures line)

pub walk_tree-returns-after-lines : goal.walk_tree-returns-after-lines
walk_tree-returns-after-lines t c =
    let a = c.args in
    let code = plain a.operands.now a.rows.now a.notes.now in
    let borrowing = borrows a.table.now in
    let depths = depth_in a.depths.now in
    tree_done code borrowing depths a.levels a.e c.if-levels-eq0.false
    (end_done code borrowing depths a.e c.atom_of-a.result c.row_at.result c.row_at.ensures c.atom_of-a.ensures
    c.put_end.ensures c.take_use.ensures) c.lines.invariant
    (going_ends code borrowing depths (tree_walk code borrowing depths (a.levels - 1)) c.lines.invariant (omega arith))

pub walk_tree-returns-then-q-p : goal.walk_tree-returns-then-q-p
walk_tree-returns-then-q-p t c =
    let a = c.args in
    let code = plain a.operands.now a.rows.now a.notes.now in
    let borrowing = borrows a.table.now in
    let depths = depth_in a.depths.now in
    tree_done code borrowing depths a.levels a.e c.if-levels-eq0.false
    (end_done code borrowing depths a.e c.atom_of-a.result c.row_at.result c.row_at.ensures c.atom_of-a.ensures
    c.put_end.ensures c.take_use.ensures) c.lines.invariant
    (going_stops code borrowing depths (tree_walk code borrowing depths (a.levels - 1)) c.lines.invariant
    c.note_at-p.result c.note_at-p.ensures c.if-q-p.true)
