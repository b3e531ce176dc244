-- The goals of the walk over trees that the check leaves.
use Rattle.prelude.specs.Kit.{◌+◌, ◌-◌, ◌≡◌, ◌∙◌, arith, sym}
use Rattle.std.proofs.lemmas.Result.{err_from_is_err_and}
use Rattle.lent_counts.specs.Counted.{set_of}
use Rattle.lent_hold_lines.specs.Lines.{depths_of}
use Rattle.lent_hold_lines.proofs.Ways.{spent_below}
use Rattle.lent_hold_trees.specs.Walk.{kind_of, names_of}
use Rattle.lent_hold_trees.proofs.Trees.{if_first, if_second, if_both, loop_unspent, loop_unread, loop_fault, loop_done}
use Rattle.lent_hold_trees.proofs.Trees.{line_if, line_loop, line_leaf, not_end, tree_none, going_begins, going_over}
use Rattle.lent_hold_trees.proofs.Trees.{going_short, going_ends, going_fault, going_more, after_tree, within}
use Rattle.lent_hold_trees.proofs.Trees.{outer_below, begun_below, rows_within}
use Rattle.lent_hold_trees.proofs.+trees.Goals as goal
use Rattle.lent_hold_trees.proofs.+trees.Goals.{walk_loop-then-not-hand_loop-via-then-not-hand_loop}
use Rattle.lent_hold_trees.proofs.+trees.Goals.{walk_loop-then-not-hand_loop-via-else-not-hand_loop+then-not-may_read}

-- ---- an if

pub walk_if-returns-in_err-second : goal.walk_if-returns-in_err-second
walk_if-returns-in_err-second t c =
    let p = err_from_is_err_and c.from_residual.result c.from_residual.ensures.1 in
    rw (p.1, p.2) (if_first _ _ _ _ _ _ c.in_err-second.ensures (omega arith))

pub walk_if-walk_tree-requires-2 : goal.walk_if-walk_tree-requires-2
walk_if-walk_tree-requires-2 t c =
    let below = within (c.args.at + 2) c.args.holds.now c.requires.1.1 (omega arith) in
    let far = after_tree _ _ _ _ _ _ _ _ _ below c.in_ok-second.ensures in
    (omega arith, (c.requires.1.0, within _ _ c.requires.1.1 (omega (arith, far.0))))

pub walk_if-returns-in_err-line : goal.walk_if-returns-in_err-line
walk_if-returns-in_err-line t c =
    let p = err_from_is_err_and c.from_residual-in_err-line.result c.from_residual-in_err-line.ensures.1 in
    rw (p.1, p.2) (if_second _ _ _ _ _ _ c.in_ok-second.ensures c.in_err-line.ensures)

pub walk_if-gain-requires : goal.walk_if-gain-requires
walk_if-gain-requires t c =
    let below = within (c.args.at + 2) c.args.holds.now c.requires.1.1 (omega arith) in
    let far = after_tree _ _ _ _ _ _ _ _ _ below c.in_ok-second.ensures in
    omega (arith, far.1.1 c.args.x, far.1.0, c.requires.1.0.few)

pub walk_if-returns : goal.walk_if-returns
walk_if-returns t c =
    if_both _ _ _ _ _ _ c.in_ok-second.ensures c.in_ok-line.ensures c.gain.ensures.0 c.gain.ensures.1

-- ---- a loop

pub walk_loop-returns-then-not-hand_loop : goal.walk_loop-returns-then-not-hand_loop
walk_loop-returns-then-not-hand_loop t c =
    let spent = c.hand_loop.ensures in
    elim c.then-not-hand_loop.branch [
      | walk_loop-then-not-hand_loop-via-then-not-hand_loop w ↦
          loop_unspent _ _ _ _ _ _ _ _ spent.0 w.if-not-hand_loop.true spent.1
      | walk_loop-then-not-hand_loop-via-else-not-hand_loop+then-not-may_read w ↦
          loop_unread _ _ _ _ _ _ _ _ spent.0 w.if-not-hand_loop.false c.array_read-array.ensures w.may_read.ensures
          w.if-not-may_read.true spent.1
    ]

pub walk_loop-held_inside-begun-requires : goal.walk_loop-held_inside-begun-requires
walk_loop-held_inside-begun-requires t c =
    let spent = c.hand_loop.ensures in
    let below = spent_below _ _ _ _ _ c.requires.1.1 spent.1 spent.0 c.if-not-hand_loop.false in
    let outer = c.held_outside-outer.ensures in
    within 4095 _ (outer_below c.array_read-array.result (set_of c.args.lent.now) _ _ below outer.1 outer.0) (omega (arith, c.requires.1.0.few))

pub walk_loop-walk_tree-requires : goal.walk_loop-walk_tree-requires
walk_loop-walk_tree-requires t c =
    let spent = c.hand_loop.ensures in
    let below = spent_below _ _ _ _ _ c.requires.1.1 spent.1 spent.0 c.if-not-hand_loop.false in
    let outer = c.held_outside-outer.ensures in
    let begun = c.held_inside-begun.ensures in (
      omega arith,
      (
        c.requires.1.0,
        within _ _
            (begun_below (depths_of c.args.of.now) (kind_of c.args.l) (names_of c.args.l) _ _ (outer_below c.array_read-array.result (set_of c.args.lent.now) _ _ below outer.1 outer.0) begun.1 begun.0)
            (omega (arith, c.rows_before.ensures.0)),
      ),
    )

pub walk_loop-returns-in_err-line : goal.walk_loop-returns-in_err-line
walk_loop-returns-in_err-line t c =
    let spent = c.hand_loop.ensures in
    let p = err_from_is_err_and c.from_residual.result c.from_residual.ensures.1 in
    rw (p.1, p.2) (loop_fault _ _ _ _ _ _ _ _ spent.0 c.if-not-hand_loop.false c.array_read-array.ensures
    c.may_read.ensures c.if-not-may_read.false c.lent_inside-inner.ensures.0 c.held_outside-outer.ensures.0
    c.held_inside-begun.ensures.0 c.pending_in.ensures c.rows_before.ensures.0 c.in_err-line.ensures spent.1)

pub walk_loop-gain-requires : goal.walk_loop-gain-requires
walk_loop-gain-requires t c =
    let spent = c.hand_loop.ensures in
    let below = spent_below _ _ _ _ _ c.requires.1.1 spent.1 spent.0 c.if-not-hand_loop.false in
    omega (arith, below.below c.args.x, c.requires.1.0.few)

pub walk_loop-returns : goal.walk_loop-returns
walk_loop-returns t c =
    let spent = c.hand_loop.ensures in
    loop_done _ _ _ _ _ _ _ _ spent.0 c.if-not-hand_loop.false c.array_read-array.ensures
    c.may_read.ensures c.if-not-may_read.false c.lent_inside-inner.ensures.0 c.held_outside-outer.ensures.0
    c.held_inside-begun.ensures.0 c.pending_in.ensures c.rows_before.ensures.0 c.in_ok-line.ensures
    c.gain.ensures.0 c.gain.ensures.1

-- ---- a line

pub walk_line-returns-in-If : goal.walk_line-returns-in-If
walk_line-returns-in-If t c = rw c.in-If.is (line_if _ _ _ _ _ _ _ _ _ _ _ c.walk_if.ensures)

pub walk_line-returns-in-Loop : goal.walk_line-returns-in-Loop
walk_line-returns-in-Loop t c = rw c.in-Loop.is (line_loop _ _ _ _ _ _ _ _ _ _ _ c.walk_loop.ensures)

pub walk_line-returns-in_default : goal.walk_line-returns-in_default
walk_line-returns-in_default t c =
    line_leaf _ _ _ _ _ _ _ _ _ c.args.l c.in_default.not-If c.in_default.not-Loop c.walk_leaf.ensures

-- ---- a tree

pub walk_tree-returns-then-levels-eq0 : goal.walk_tree-returns-then-levels-eq0
walk_tree-returns-then-levels-eq0 t c = tree_none _ _ _ _ _ _ _ _ _ _ c.if-levels-eq0.true (omega arith)

pub walk_tree-loop-init : goal.walk_tree-loop-init
walk_tree-loop-init t c = going_begins _ _ _ _ _ _ _ _ _ c.if-levels-eq0.false c.requires.1

pub walk_tree-returns-then-not-two_rows : goal.walk_tree-returns-then-not-two_rows
walk_tree-returns-then-not-two_rows t c =
    going_short c.loop.invariant (omega arith) (sym c.two_rows.ensures ∙ c.if-not-two_rows.true)

pub walk_tree-read_line-l-requires : goal.walk_tree-read_line-l-requires
walk_tree-read_line-l-requires t c =
    (rows_within _ _ _ (sym c.two_rows.ensures ∙ c.if-not-two_rows.false), c.requires.0.cut)

pub walk_tree-walk_end-requires : goal.walk_tree-walk_end-requires
walk_tree-walk_end-requires t c =
    let rows = rows_within _ _ _ (sym c.two_rows.ensures ∙ c.if-not-two_rows.false) in
    omega (arith, rows, c.requires.0.few)

pub walk_tree-returns-in-End : goal.walk_tree-returns-in-End
walk_tree-returns-in-End t c =
    going_ends c.loop.invariant (omega arith) (sym c.two_rows.ensures ∙ c.if-not-two_rows.false) c.read_line-l.ensures
    c.in-End.is c.walk_end.ensures

pub walk_tree-walk_line-requires : goal.walk_tree-walk_line-requires
walk_tree-walk_line-requires t c =
    let rows = rows_within _ _ _ (sym c.two_rows.ensures ∙ c.if-not-two_rows.false) in
    (omega arith, (rows, (c.requires.0, c.loop.invariant.below)))

pub walk_tree-returns-in_err-here : goal.walk_tree-returns-in_err-here
walk_tree-returns-in_err-here t c =
    let p = err_from_is_err_and c.from_residual.result c.from_residual.ensures.1 in
    rw (p.1, p.2) (going_fault c.loop.invariant (omega arith) (sym c.two_rows.ensures ∙ c.if-not-two_rows.false)
    c.read_line-l.ensures (not_end _ c.in_default.not-End) c.in_err-here.ensures)

pub walk_tree-loop-preserved : goal.walk_tree-loop-preserved
walk_tree-loop-preserved t c =
    let left : 4096 - (c.loop.counter + 1) ≡ 4096 - c.loop.counter - 1 = omega arith in
    rw left (going_more c.loop.invariant (omega arith) (sym c.two_rows.ensures ∙ c.if-not-two_rows.false)
    c.read_line-l.ensures (not_end _ c.in_default.not-End) c.in_ok-here.ensures)

pub walk_tree-returns : goal.walk_tree-returns
walk_tree-returns t c = going_over c.loop.invariant (omega arith)
