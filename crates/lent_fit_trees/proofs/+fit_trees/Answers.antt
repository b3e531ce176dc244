-- Trees, lines, ifs and loops, by the laws of `Laws`.
use Rattle.prelude.specs.Kit.{arith, ◌≡◌, ◌∙◌, sym, ap, length, get_or, length-set}
use Rattle.std.specs.Prelude.{Some, None}
use Rattle.std.proofs.lemmas.Result.{err_from_is_err_and}
use Rattle.lent_fit_lines.specs.Walk.{set_of, first_at}
use Rattle.lent_fit_trees.specs.Trees.{tree_fits}
use Rattle.lent_fit_trees.proofs.Laws.{if_closed, if_first, if_second, if_done, line_if, line_loop, line_plain}
use Rattle.lent_fit_trees.proofs.Laws.{loop_closed, loop_tree, loop_broken, loop_done, scope_bound, scope_same}
use Rattle.lent_fit_trees.proofs.Laws.{going_starts, no_levels, going_out, going_past, going_ends, going_stops}
use Rattle.lent_fit_trees.proofs.Laws.{going_on}
use Rattle.lent_fit_trees.proofs.+fit_trees.Goals as goal
use Rattle.lent_fit_trees.proofs.+fit_trees.Goals.{fit_tree-then-binds, fit_tree-else-binds}

-- ---- ifs

pub fit_if-returns-then-not-open_if : goal.fit_if-returns-then-not-open_if
fit_if-returns-then-not-open_if t c =
    let a = c.args in
    let T = tree_fits a.kinds.now a.operands.now a.starts.now a.levels in
    record {
      is = if_closed a.kinds.now a.operands.now a.starts.now T _ _ _ _ _ c.if-not-open_if.ensures;
      long = c.open_if.ensures.long;
      deep = c.open_if.ensures.deep;
    }

pub fit_if-returns-in_err-first : goal.fit_if-returns-in_err-first
fit_if-returns-in_err-first t c =
    let a = c.args in
    let T = tree_fits a.kinds.now a.operands.now a.starts.now a.levels in
    let p = err_from_is_err_and c.from_residual.result c.from_residual.ensures.1 in
    rw (p.1, p.2) (record {
      is = if_first a.kinds.now a.operands.now a.starts.now T _ _ _ _ _ c.if-not-open_if.ensures _
          c.in_err-first.ensures.is;
      long = c.fit_tree.ensures.long;
      deep = c.fit_tree.ensures.deep;
    })

pub fit_if-returns-in_err-second : goal.fit_if-returns-in_err-second
fit_if-returns-in_err-second t c =
    let a = c.args in
    let T = tree_fits a.kinds.now a.operands.now a.starts.now a.levels in
    let p = err_from_is_err_and c.from_residual-in_err-second.result c.from_residual-in_err-second.ensures.1 in
    rw (p.1, p.2) (record {
      is = if_second a.kinds.now a.operands.now a.starts.now T _ _ _ _ _ c.if-not-open_if.ensures _ _ _
          c.in_ok-first.ensures.is _ c.in_err-second.ensures.is;
      long = c.fit_tree-2.ensures.long;
      deep = c.fit_tree-2.ensures.deep;
    })

pub fit_if-returns : goal.fit_if-returns
fit_if-returns t c =
    let a = c.args in
    let T = tree_fits a.kinds.now a.operands.now a.starts.now a.levels in
    record {
      is = if_done a.kinds.now a.operands.now a.starts.now T _ _ _ _ _ c.if-not-open_if.ensures _ _ _
          c.in_ok-first.ensures.is _ _ _ c.in_ok-second.ensures.is _ c.first_at.ensures _ _ c.bind.ensures.0;
      long = c.bind.ensures.1;
      deep = c.bind.ensures.2;
    }

-- ---- lines

pub fit_line-returns-then-kind-eq-IF : goal.fit_line-returns-then-kind-eq-IF
fit_line-returns-then-kind-eq-IF t c =
    let a = c.args in
    let T = tree_fits a.kinds.now a.operands.now a.starts.now a.levels in
    record {
      is = line_if a.kinds.now a.operands.now a.starts.now T _ _ _ _ c.if-kind-eq-IF.true ∙ c.fit_if.ensures.is;
      long = c.fit_if.ensures.long;
      deep = c.fit_if.ensures.deep;
    }

pub fit_line-returns-then-loops : goal.fit_line-returns-then-loops
fit_line-returns-then-loops t c =
    let a = c.args in
    let T = tree_fits a.kinds.now a.operands.now a.starts.now a.levels in
    record {
      is = line_loop a.kinds.now a.operands.now a.starts.now T _ _ _ _ c.if-kind-eq-IF.false
          (sym c.if-loops.ensures)
          ∙ c.fit_loop.ensures.is;
      long = c.fit_loop.ensures.long;
      deep = c.fit_loop.ensures.deep;
    }

pub fit_line-returns-else-loops : goal.fit_line-returns-else-loops
fit_line-returns-else-loops t c =
    let a = c.args in
    let T = tree_fits a.kinds.now a.operands.now a.starts.now a.levels in
    record {
      is = line_plain a.kinds.now a.operands.now a.starts.now T _ _ _ _ c.if-kind-eq-IF.false
          (sym c.if-loops.ensures)
          ∙ c.fit_plain.ensures.is;
      long = c.fit_plain.ensures.long;
      deep = c.fit_plain.ensures.deep;
    }

-- ---- loops

pub fit_loop-returns-in_err-first : goal.fit_loop-returns-in_err-first
fit_loop-returns-in_err-first t c =
    let a = c.args in
    let T = tree_fits a.kinds.now a.operands.now a.starts.now a.levels in
    let closed : c.open_loop.result ≡ None = grind arith in
    let p = err_from_is_err_and c.from_residual.result c.from_residual.ensures.1 in
    let fault : p.0 ≡ record { line = a.at } = grind arith in
    rw (p.1, fault) (record {
      is = loop_closed a.kinds.now a.operands.now a.starts.now T _ _ _ _ _ _ _ (rw closed at c.open_loop.ensures);
      long = c.open_loop.ensures.long;
      deep = c.open_loop.ensures.deep;
    })

pub fit_loop-returns-in_err-tree : goal.fit_loop-returns-in_err-tree
fit_loop-returns-in_err-tree t c =
    let a = c.args in
    let T = tree_fits a.kinds.now a.operands.now a.starts.now a.levels in
    let opened : c.open_loop.result ≡ Some c.in_ok-first.first = grind arith in
    let p = err_from_is_err_and c.from_residual-in_err-tree.result c.from_residual-in_err-tree.ensures.1 in
    rw (p.1, p.2) (record {
      is = loop_tree a.kinds.now a.operands.now a.starts.now T _ _ _ _ _ _ _ _ (rw opened at c.open_loop.ensures) _
          c.loop_wants-wants.ensures _ c.loop_atoms.ensures _ c.in_err-tree.ensures.is;
      long = c.fit_tree.ensures.long;
      deep = c.fit_tree.ensures.deep;
    })

pub fit_loop-returns-in_err-depth : goal.fit_loop-returns-in_err-depth
fit_loop-returns-in_err-depth t c =
    let a = c.args in
    let T = tree_fits a.kinds.now a.operands.now a.starts.now a.levels in
    let opened : c.open_loop.result ≡ Some c.in_ok-first.first = grind arith in
    let broken : c.loop_depth.result ≡ None = grind arith in
    let p = err_from_is_err_and c.from_residual-in_err-depth.result c.from_residual-in_err-depth.ensures.1 in
    let fault : p.0 ≡ record { line = c.in_ok-tree.tree.next } = grind arith in
    rw (p.1, fault) (record {
      is = loop_broken a.kinds.now a.operands.now a.starts.now T _ _ _ _ _ _ _ _ (rw opened at c.open_loop.ensures) _
          c.loop_wants-wants.ensures _ c.loop_atoms.ensures _ _ _ c.in_ok-tree.ensures.is
          (rw broken at c.loop_depth.ensures);
      long = c.fit_tree.ensures.long;
      deep = c.fit_tree.ensures.deep;
    })

pub fit_loop-returns : goal.fit_loop-returns
fit_loop-returns t c =
    let a = c.args in
    let T = tree_fits a.kinds.now a.operands.now a.starts.now a.levels in
    let opened : c.open_loop.result ≡ Some c.in_ok-first.first = grind arith in
    let judged : c.loop_depth.result ≡ Some c.in_ok-depth.depth = grind arith in
    record {
      is = loop_done a.kinds.now a.operands.now a.starts.now T _ _ _ _ _ _ _ _ (rw opened at c.open_loop.ensures) _
          c.loop_wants-wants.ensures _ c.loop_atoms.ensures _ _ _ c.in_ok-tree.ensures.is _
          (rw judged at c.loop_depth.ensures) _ c.first_at.ensures _ _ c.bind.ensures.0;
      long = c.bind.ensures.1;
      deep = c.bind.ensures.2;
    }

-- ---- trees

pub fit_tree-returns-then-levels-eq0 : goal.fit_tree-returns-then-levels-eq0
fit_tree-returns-then-levels-eq0 t c =
    let a = c.args in
    record {
      is = no_levels a.kinds.now a.operands.now a.starts.now _ _ _ _ _ c.if-levels-eq0.true;
      long = omega arith;
      deep = omega arith;
    }

pub fit_tree-loop-init : goal.fit_tree-loop-init
fit_tree-loop-init t c =
    let a = c.args in
    going_starts a.kinds.now a.operands.now a.starts.now a.levels a.wants a.scope a.bound.now a.depths.now a.at
    c.if-levels-eq0.false (omega arith) (omega arith) (omega arith)

pub fit_tree-returns-then-kinds-p : goal.fit_tree-returns-then-kinds-p
fit_tree-returns-then-kinds-p t c =
    let a = c.args in
    record {
      is = going_past a.kinds.now a.operands.now a.starts.now c.loop.invariant (omega arith) c.if-kinds-p.true;
      long = c.loop.invariant.long;
      deep = c.loop.invariant.deep;
    }

pub fit_tree-returns-then-kind-eq-END : goal.fit_tree-returns-then-kind-eq-END
fit_tree-returns-then-kind-eq-END t c =
    let a = c.args in
    record {
      is = going_ends a.kinds.now a.operands.now a.starts.now c.loop.invariant (omega arith) (omega arith)
          c.if-kind-eq-END.true _ c.fit_end.ensures;
      long = c.loop.invariant.long;
      deep = c.loop.invariant.deep;
    }

pub fit_tree-returns-in_err-next : goal.fit_tree-returns-in_err-next
fit_tree-returns-in_err-next t c =
    let a = c.args in
    let p = err_from_is_err_and c.from_residual.result c.from_residual.ensures.1 in
    rw (p.1, p.2) (record {
      is = going_stops a.kinds.now a.operands.now a.starts.now c.loop.invariant (omega arith) (omega arith)
          c.if-kind-eq-END.false _ c.in_err-next.ensures.is;
      long = c.fit_line.ensures.long;
      deep = c.fit_line.ensures.deep;
    })

pub fit_tree-loop-preserved : goal.fit_tree-loop-preserved
fit_tree-loop-preserved t c =
    let a = c.args in
    elim c.if-binds.branch [
      | fit_tree-then-binds w ↦ going_on a.kinds.now a.operands.now a.starts.now c.loop.invariant (omega arith)
          (omega arith) c.if-kind-eq-END.false _ _ _ c.in_ok-next.ensures.is c.if-binds.s
          (rw w.s-is (simp length-set c.loop.invariant.wide)) c.fit_line.ensures.long c.fit_line.ensures.deep
          (ap set_of w.s-is
          ∙ scope_bound a.kinds.now a.operands.now a.starts.now (get_or a.kinds.now c.loop.p 0)
          (first_at a.operands.now c.loop.p) c.loop.s (sym w.if-binds.ensures) w.first_at.result w.first_at.ensures
          (omega (arith, c.loop.invariant.wide)))
          _ (omega arith)
      | fit_tree-else-binds w ↦ going_on a.kinds.now a.operands.now a.starts.now c.loop.invariant (omega arith)
          (omega arith) c.if-kind-eq-END.false _ _ _ c.in_ok-next.ensures.is c.if-binds.s
          (ap length w.s-is ∙ c.loop.invariant.wide) c.fit_line.ensures.long c.fit_line.ensures.deep
          (ap set_of w.s-is
          ∙ scope_same a.kinds.now a.operands.now a.starts.now (get_or a.kinds.now c.loop.p 0)
          (first_at a.operands.now c.loop.p) c.loop.s (sym w.if-binds.ensures))
          _ (omega arith)
    ]

pub fit_tree-returns : goal.fit_tree-returns
fit_tree-returns t c =
    let a = c.args in
    record {
      is = going_out a.kinds.now a.operands.now a.starts.now c.loop.invariant (omega arith);
      long = c.loop.invariant.long;
      deep = c.loop.invariant.deep;
    }
